-- A leaf without room, split at a put.
use Rattle.std.specs.{Prelude.{◌≤◌, ℕ, ◌+◌, ◌-◌, ◌/◌, ◌==◌, if◌then◌else◌, List, [], ◌++◌, length, map, take, drop, replicate, slice_index_or}, Option.{unwrap_or}, FinMap.{entries}}
use Rattle.sh_map.specs.Map.{put}
use Rattle.sh_image.specs.{declared.leaf.LeafEntry.{LeafEntry}, Leaf.{Leaf}}
use Rattle.sh_edit.specs.{Held.{held, map_of_entries, HasKeysOnce}, Placing.{LacksKey}}

-- an empty entry whose value is as long as this one
abbrev pub empty_like : List ℕ → LeafEntry
empty_like value = record { version = 0; key = 0; value = replicate (length value) 0 }

-- the entry of a pair
abbrev pub entry_with : ℕ × List ℕ → LeafEntry
entry_with x = record { version = 0; key = x.0; value = x.1 }

-- the pairs from entry 0 on, in a leaf of count entries; the rest are empty
abbrev pub entries_from : ℕ → LeafEntry → List (ℕ × List ℕ) → List LeafEntry
entries_from count empty pairs = map entry_with pairs ++ replicate (count - length pairs) empty

-- the pairs of a leaf after a put, their keys rising
abbrev pub pairs_after : List LeafEntry → ℕ → List ℕ → List (ℕ × List ℕ)
pairs_after es key value = entries (put (map_of_entries es) key value)

-- how many of them go left
abbrev pub left_count : List LeafEntry → ℕ
left_count es = (length es + 1) / 2

-- the least key that goes right
abbrev pub separator_of : List LeafEntry → ℕ → List ℕ → ℕ
separator_of es key value = let x = slice_index_or (pairs_after es key value) (left_count es) (0, []) in x.0

-- the left half, which leads to the right one
abbrev pub left_half : Leaf → ℕ → List ℕ → ℕ → Leaf
left_half a key value right = record { version = a.version + 1; low = a.low; high = separator_of a.entries key value; next = right; entries = entries_from (length a.entries) (empty_like value) (take (left_count a.entries) (pairs_after a.entries key value)) }

-- the right half, a fresh node
abbrev pub right_half : Leaf → ℕ → List ℕ → Leaf
right_half a key value = record { version = 0; low = separator_of a.entries key value; high = a.high; next = a.next; entries = entries_from (length a.entries) (empty_like value) (drop (left_count a.entries) (pairs_after a.entries key value)) }

-- the value that a key has after a put, and that of the put where it has none
abbrev pub value_after : List LeafEntry → ℕ → List ℕ → ℕ → List ℕ
value_after es key value q = if q == key then value else unwrap_or (held es q) value

abbrev pub pair_after : List LeafEntry → ℕ → List ℕ → ℕ → ℕ × List ℕ
pair_after es key value q = (q, value_after es key value q)

-- a leaf that a put of the key finds without room: it has an entry, no key twice, and neither the key nor an empty entry
pub record IsSplit (a : Leaf) (key : ℕ) : Type 0 where
  pub some : 1 ≤ length a.entries
  pub once : HasKeysOnce a.entries
  pub lacks : LacksKey a.entries key
  pub full : LacksKey a.entries 0
  pub is_key : 1 ≤ key
