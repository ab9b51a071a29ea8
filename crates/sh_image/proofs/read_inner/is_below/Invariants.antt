use Rattle.std.proofs.Common.{ℕ, ◌<◌}
use Rattle.sh_image.specs.Inner.{separator_at}
use Rattle.sh_image.proofs.read_inner.is_below.Given as goal

abbrev pub invariant-loop-index : goal.invariant-loop-index
invariant-loop-index l = (i : ℕ) → i < l.index → separator_at l.image.pairs i < l.image.high
