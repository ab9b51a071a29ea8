use Rattle.sh_world.proofs.PointLemmas.{IsWalked}
use Rattle.sh_world.proofs.points.least_point.Given as goal

abbrev pub invariant-loop-at : goal.invariant-loop-at
invariant-loop-at l = IsWalked l.log l.first l.key l.had l.start l.at
