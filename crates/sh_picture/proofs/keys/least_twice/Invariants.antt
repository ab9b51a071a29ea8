use Rattle.sh_picture.specs.Marks.{IsLeastOf}
use Rattle.sh_picture.proofs.keys.least_twice.Given as goal

abbrev pub invariant-loop-at : goal.invariant-loop-at
invariant-loop-at l = IsLeastOf l.keys l.at l.least
