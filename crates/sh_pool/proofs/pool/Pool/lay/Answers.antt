use Rattle.std.proofs.Common.{Some, subst}
use Rattle.sh_base.specs.declared.config.ConfigParts.{ConfigParts}
use Rattle.sh_pool.{specs.Pools.{AreReady}, proofs.LayLemmas.{new_all, new_ready}}
use Rattle.sh_pool.proofs.pool.Pool.lay.Goals as goal

pub returns-clause-ready : goal.returns-clause-ready
returns-clause-ready c = subst (λ (p : ConfigParts). AreReady p (Some c.in_ok-laid.laid) c.in_ok-passes.passes.items) c.in_ok-laid.ensures.setting (new_ready c.in_ok-laid.laid c.in_ok-passes.passes.items c.in_ok-passes.ensures)

pub returns-clause-all : goal.returns-clause-all
returns-clause-all c = new_all c.in_ok-laid.laid c.in_ok-passes.passes.items c.in_ok-passes.ensures
