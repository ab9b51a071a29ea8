-- A tree of keys and values, seen as a map.
use Rattle.std.specs.{Prelude.{ℕ, List, map}, BTreeMap.{BTreeMap}, FinMap.{entries, from_entries}}
use Rattle.sh_map.specs.{declared.book.Row.{Row}, Map.{Map, pair_row}}

abbrev pub tree_map : BTreeMap ℕ (List ℕ) → Map
tree_map t = from_entries t.entries

-- the keys and values of a map, by rising keys
abbrev pub map_rows : Map → List Row
map_rows m = map (λ p. pair_row p.0 p.1) (entries m)
