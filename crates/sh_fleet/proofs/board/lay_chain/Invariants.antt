use Rattle.sh_pool.specs.Pools.{IsOfPool}
use Rattle.sh_fleet.specs.{Wants.{wants_of}, Boards.{AreLying, IsChain, Stays}}
use Rattle.sh_fleet.proofs.board.lay_chain.Given as goal

abbrev pub invariant-loop : goal.invariant-loop
invariant-loop g l = IsOfPool l.pool l.pass × Stays l.fn.pass l.pass × IsChain (wants_of g.N.Naming.items) l.link l.pass × AreLying g.N.Naming.laid (wants_of g.N.Naming.items) l.notes.items
