-- Columns: a part of each entry, one behind the other.
use Rattle.std.specs.{Prelude.{ℕ, List, [], map, slice_index, slice_index_or}, List.{range_with_len}}
use Rattle.sh_image.specs.declared.leaf.LeafEntry.{LeafEntry}

-- the entry at an index of the columns
abbrev pub entry_of_columns : List ℕ → List ℕ → List (List ℕ) → ℕ → LeafEntry
entry_of_columns versions keys values i = record { version = slice_index versions i; key = slice_index keys i; value = slice_index_or values i [] }

-- the first entries of the columns, count of them
unfoldable pub entries_of_columns : ℕ → List ℕ → List ℕ → List (List ℕ) → List LeafEntry
entries_of_columns count versions keys values = map (entry_of_columns versions keys values) (range_with_len 0 count)
