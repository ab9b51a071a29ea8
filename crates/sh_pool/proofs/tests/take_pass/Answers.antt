use Rattle.std.proofs.Common.{sym, subst, append-nil, ◌∙◌}
use Rattle.sh_base.specs.Parts.{parts_of}
use Rattle.sh_pool.{specs.Pools.{AreReady}, proofs.LayLemmas.{ready_last}}
use Rattle.sh_pool.proofs.tests.take_pass.Goals as goal

pub returns-in-Some-clause-rest : goal.returns-in-Some-clause-rest
returns-in-Some-clause-rest c = (ready_last (parts_of c.args.cfg.now) c.args.pool.now.laid c.pop.new.self.items c.in-Some.pass (subst (AreReady (parts_of c.args.cfg.now) c.args.pool.now.laid) c.in-Some.ensures.items c.requires)).0

pub returns-in-Some-clause-pass : goal.returns-in-Some-clause-pass
returns-in-Some-clause-pass c = (ready_last (parts_of c.args.cfg.now) c.args.pool.now.laid c.pop.new.self.items c.in-Some.pass (subst (AreReady (parts_of c.args.cfg.now) c.args.pool.now.laid) c.in-Some.ensures.items c.requires)).1
