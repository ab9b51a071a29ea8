use Rattle.std.proofs.Common.{◌≡◌, ℕ, ◌<◌}
use Rattle.sh_image.specs.Seen.{entry_front, entry_rear}
use Rattle.sh_image.proofs.read_leaf.first_torn.Given as goal

abbrev pub invariant-loop-index : goal.invariant-loop-index
invariant-loop-index l = (i : ℕ) → i < l.index → entry_front l.cfg.parts l.words i ≡ entry_rear l.cfg.parts l.words i
