-- A map as a list of rows with rising keys.
use Rattle.std.specs.{Prelude.{◌≡◌, ℕ, ◌<◌, ◌≤◌, List, [], length, map, slice_index_or, take, Option, T}, Ordering.{nat_cmp}, FinMap.{from_entries, from_sorted, is_sorted}}
use Rattle.sh_map.specs.{declared.{book.Row.{Row}, log.Entry.{Entry}}, Map.{Map, get, row_pair}, Log.{map_from}}

-- each row's key is below the next one's
abbrev pub IsRising : List Row → Type 0
IsRising rows = T (is_sorted nat_cmp (map row_pair rows))

abbrev pub map_of_rows : List Row → Map
map_of_rows rows = from_sorted (map row_pair rows)

-- stands for a row behind the last
abbrev pub nothing : Row
nothing = record { key = 0; value = [] }

abbrev pub row_key : List Row → ℕ → ℕ
row_key rows i = let row = slice_index_or rows i nothing in row.key

-- the row at place i has the key
pub record IsRowAt (rows : List Row) (key i : ℕ) : Type 0 where
  pub in_range : i < length rows
  pub has_key : row_key rows i ≡ key

-- the key would go at place i
pub record IsGapFor (rows : List Row) (key i : ℕ) : Type 0 where
  pub in_range : i ≤ length rows
  pub smaller_before : (j : ℕ) → j < i → row_key rows j < key
  pub greater_after : (j : ℕ) → i ≤ j → j < length rows → key < row_key rows j

-- from this map on, a key has this at some point of the entries
abbrev pub Becomes : Map → List Entry → ℕ → Option (List ℕ) → Type 0
Becomes m log key had = (q : ℕ) × (q ≤ length log) × (get (map_from m (take q log)) key ≡ had)

-- a key of low..upto has at some point of the entries what the rows give it
pub record RowHasPoint (m : Map) (log : List Entry) (rows : List Row) (low upto key : ℕ) : Type 0 where
  pub here : low ≤ key → key < upto → Becomes m log key (get (from_entries (map row_pair rows)) key)
