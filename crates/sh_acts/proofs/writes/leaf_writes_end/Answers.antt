use Rattle.sh_acts.proofs.Ends.{bound_of, entry_end, rewritten_end, leaf_split_end}
use Rattle.sh_acts.proofs.writes.leaf_writes_end.Goals as goal

pub returns-clause-entry : goal.returns-clause-entry
returns-clause-entry c = λ words s seat depth n low i entry x g of lt e good once map.
    let p = c.args.cfg.now.parts in
    entry_end p words s g seat depth n low entry of.linked (bound_of p words s g seat depth n _ e) of.by of.fits of.key of.from of.below i x lt e good once map

pub returns-clause-whole : goal.returns-clause-whole
returns-clause-whole c = λ words s seat depth n low entry a g of e lawful low_is high_is next_is once map.
    let p = c.args.cfg.now.parts in
    rewritten_end p words s g seat depth n low entry of.linked (bound_of p words s g seat depth n _ e) of.by of.fits of.key of.from of.below a e lawful low_is high_is next_is once map

pub returns-clause-split : goal.returns-clause-split
returns-clause-split c = λ words s seat depth n low r key value entry a g of is put_is e fresh right full long version.
    let p = c.args.cfg.now.parts in
    leaf_split_end p words s g seat depth n low entry of.linked (bound_of p words s g seat depth n _ e) of.by of.fits of.key of.from of.below a is key value r put_is e fresh right full long version
