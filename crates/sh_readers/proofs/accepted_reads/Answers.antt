use Rattle.sh_readers.proofs.Known.{known_leaf, known_inner, known_node}
use Rattle.sh_readers.proofs.accepted_reads.Goals as goal

pub returns-clause-leaf : goal.returns-clause-leaf
returns-clause-leaf c = λ words s n low first got g e k last untorn. known_leaf c.args.cfg.now.parts c.args.cfg.now.lawful words s g n low first got e k last untorn

pub returns-clause-inner : goal.returns-clause-inner
returns-clause-inner c = λ words s n level low first got g e k last agree. known_inner c.args.cfg.now.parts c.args.cfg.now.lawful words s g n level low first got e k last agree

pub returns-clause-never_odd : goal.returns-clause-never_odd
returns-clause-never_odd c = λ words s n level low first got g e k last odd. known_node c.args.cfg.now.parts c.args.cfg.now.lawful words s g level n low first got e k last odd
