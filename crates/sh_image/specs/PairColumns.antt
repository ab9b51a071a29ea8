-- The pairs of an inner node as two columns.
use Rattle.std.specs.{Prelude.{ℕ, List, map, slice_index}, List.{range_with_len}}
use Rattle.sh_image.specs.declared.inner.Pair.{Pair}

-- the pair at an index of the columns
abbrev pub pair_at : List ℕ → List ℕ → ℕ → Pair
pair_at separators children i = record { separator = slice_index separators i; child = slice_index children i }

-- the first pairs of the columns, count of them
unfoldable pub pairs_of_columns : ℕ → List ℕ → List ℕ → List Pair
pairs_of_columns count separators children = map (pair_at separators children) (range_with_len 0 count)
