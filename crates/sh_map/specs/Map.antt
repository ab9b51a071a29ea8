-- The ordered map from keys to values: a list of pairs with rising keys. A value is the list of its words.
use Rattle.std.specs.{Prelude.{ℕ, List, Option}, Ordering.{nat_cmp}, FinMap.{FinMap, insert, remove}}
use Rattle.std.specs.FinMap as map
use Rattle.sh_map.specs.declared.book.Row.{Row}

abbrev pub Map : Type 0
Map = FinMap nat_cmp (List ℕ)

-- the value at a key, or none
abbrev pub get : Map → ℕ → Option (List ℕ)
get m key = map.get m key

-- the map with this value at the key
abbrev pub put : Map → ℕ → List ℕ → Map
put m key value = insert m key value

-- the map without the key; deleting an absent key changes nothing
abbrev pub del : Map → ℕ → Map
del m key = remove m key

-- how many keys there are
abbrev pub size : Map → ℕ
size m = map.len m

abbrev pub row_pair : Row → ℕ × List ℕ
row_pair r = (r.key, r.value)

abbrev pub pair_row : ℕ → List ℕ → Row
pair_row key value = record { key = key; value = value }
