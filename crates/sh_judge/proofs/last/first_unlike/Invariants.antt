use Rattle.std.proofs.Common.{◌≡◌, take}
use Rattle.sh_judge.proofs.last.first_unlike.Given as goal

abbrev pub invariant-loop-at : goal.invariant-loop-at
invariant-loop-at l = take l.at l.maps ≡ take l.at l.rows
