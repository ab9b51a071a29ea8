use Rattle.std.proofs.Common.{ℕ, ◌<◌}
use Rattle.sh_picture.specs.Fault.{IsMagicAt}
use Rattle.sh_picture.proofs.header.first_differing.Given as goal

abbrev pub invariant-loop-at : goal.invariant-loop-at
invariant-loop-at l = (i : ℕ) → i < l.at → IsMagicAt l.bytes i
