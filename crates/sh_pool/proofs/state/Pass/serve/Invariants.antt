use Rattle.sh_pool.specs.{Calls.{IsServing}, Pools.{IsOfPool}}
use Rattle.sh_pool.proofs.state.Pass.serve.Given as goal

abbrev pub invariant-loop : goal.invariant-loop
invariant-loop g l = IsOfPool l.pool l.self × IsServing l.fn.call l.fn.self l.self
