use Rattle.sh_acts.proofs.Ends.{bound_of, unique, is_new, pair_end, inner_split_end}
use Rattle.sh_acts.proofs.writes.inner_writes_end.Goals as goal

pub returns-clause-once : goal.returns-clause-once
returns-clause-once c = λ words s m n level low g e f. unique c.args.cfg.now.parts words s g m n level low e f

pub returns-clause-new : goal.returns-clause-new
returns-clause-new c = λ words s seat n level low x g of. is_new c.args.cfg.now.parts words s g seat n x.child level low x.separator of.linked of.child of.mine

pub returns-clause-pair : goal.returns-clause-pair
returns-clause-pair c = λ words s seat depth n level low x a g of is e room version.
    let p = c.args.cfg.now.parts in
    pair_end p words s g seat depth n level low x c.args.cfg.now.lawful of.linked (bound_of p words s g seat depth n _ e) of.child of.mine of.from of.below a is e room version

pub returns-clause-split : goal.returns-clause-split
returns-clause-split c = λ words s seat depth n level low r x a g of is e fresh right full version.
    let p = c.args.cfg.now.parts in
    inner_split_end p words s g seat depth n level low x c.args.cfg.now.lawful of.linked (bound_of p words s g seat depth n _ e) of.child of.mine of.from of.below a is r e fresh right full version
