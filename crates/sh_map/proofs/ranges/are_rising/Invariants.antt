use Rattle.std.{proofs.Common.{◌<◌, take}, specs.Prelude.{AllPairs}}
use Rattle.sh_map.proofs.ranges.are_rising.Given as goal

abbrev pub invariant-loop-at : goal.invariant-loop-at
invariant-loop-at l = AllPairs (λ x y. x.key < y.key) (take l.at l.rows)
