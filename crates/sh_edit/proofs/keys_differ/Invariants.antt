use Rattle.std.proofs.Common.{ℕ, ◌<◌}
use Rattle.sh_edit.specs.Placing.{StandsFirst}
use Rattle.sh_edit.proofs.keys_differ.Given as goal

abbrev pub invariant-loop-index : goal.invariant-loop-index
invariant-loop-index l = (i : ℕ) → i < l.index → StandsFirst l.leaf.entries i
