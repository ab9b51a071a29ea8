-- The words of a laid pool, as they are written.
use Rattle.std.specs.Prelude.{ℕ, List, replicate, slice_set}
use Rattle.sh_base.specs.{declared.config.ConfigParts.{ConfigParts}, Setting.{pool_words}, Layout.{root_word, counter_word}}

-- the number of the first leaf
abbrev pub first_leaf : ℕ
first_leaf = 1

-- the words of a laid pool, but for the leaf's
abbrev pub bare_words : ConfigParts → List ℕ
bare_words p = slice_set (slice_set (replicate (pool_words p) 0) root_word first_leaf) (counter_word p 0) 1
