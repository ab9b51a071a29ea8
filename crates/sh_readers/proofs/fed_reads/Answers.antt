use Rattle.sh_readers.proofs.Fed.{fed_first, fed_more, fed_leaf, fed_inner, fed_node}
use Rattle.sh_readers.proofs.fed_reads.Goals as goal

pub returns-clause-begin : goal.returns-clause-begin
returns-clause-begin c = λ words s n level low first g e since. fed_first c.args.cfg.now.parts c.args.cfg.now.lawful words s g n level low first e since

pub returns-clause-load : goal.returns-clause-load
returns-clause-load c = λ words s n level low first at fed g e left k. fed_more c.args.cfg.now.parts c.args.cfg.now.lawful words s g n level low first at fed e left k

pub returns-clause-leaf : goal.returns-clause-leaf
returns-clause-leaf c = λ words s n low first fed g e all k last untorn. fed_leaf c.args.cfg.now.parts c.args.cfg.now.lawful words s g n low first fed e all k last untorn

pub returns-clause-inner : goal.returns-clause-inner
returns-clause-inner c = λ words s n level low first fed g e all k last agree. fed_inner c.args.cfg.now.parts c.args.cfg.now.lawful words s g n level low first fed e all k last agree

pub returns-clause-never_odd : goal.returns-clause-never_odd
returns-clause-never_odd c = λ words s n level low first fed g e all k last odd. fed_node c.args.cfg.now.parts c.args.cfg.now.lawful words s g n level low first fed e all k last odd
