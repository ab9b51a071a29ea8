use Rattle.sh_bulk.proofs.FillLemmas.{IsFilled}
use Rattle.sh_bulk.proofs.building.fill_nodes.Given as goal

-- the levels so far
abbrev pub invariant-loop-number : goal.invariant-loop-number
invariant-loop-number g l = IsFilled l.cfg.parts l.rows l.number l.count l.first l.span l.at l.out
