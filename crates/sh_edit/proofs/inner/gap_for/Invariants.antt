use Rattle.std.proofs.Common.{ℕ, ◌<◌}
use Rattle.sh_image.specs.Inner.{separator_at}
use Rattle.sh_edit.proofs.inner.gap_for.Given as goal

abbrev pub invariant-loop-index : goal.invariant-loop-index
invariant-loop-index l = (i : ℕ) → i < l.index → separator_at l.inner.pairs i < l.separator
