use Rattle.std.proofs.Common.{ℕ, ◌<◌, get_or, drop}
use Rattle.sh_image.specs.{declared.leaf.LeafEntry.{LeafEntry}, Entries.{entries_in}, Leaf.{IsEntry}}
use Rattle.sh_image.proofs.read_leaf.are_entries.Given as goal

abbrev pub invariant-loop-index : goal.invariant-loop-index
invariant-loop-index l = (i : ℕ) (d : LeafEntry) → i < l.index → IsEntry l.cfg.parts l.low l.high (get_or (entries_in l.cfg.parts.value_words l.cfg.parts.leaf (drop 6 l.words)) i d)
