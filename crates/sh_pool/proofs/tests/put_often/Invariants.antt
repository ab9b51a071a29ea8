use Rattle.sh_base.specs.Parts.{parts_of}
use Rattle.sh_pool.specs.Pools.{IsReady}
use Rattle.sh_pool.proofs.tests.put_often.Given as goal

abbrev pub invariant-loop-n : goal.invariant-loop-n
invariant-loop-n l = IsReady (parts_of l.cfg) l.pool.laid l.pass
