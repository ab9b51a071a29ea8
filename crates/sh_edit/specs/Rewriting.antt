-- A leaf with one entry changed, as a whole or alone.
use Rattle.std.specs.Prelude.{ℕ, ◌+◌, List, map, slice_set}
use Rattle.sh_image.specs.{declared.leaf.LeafEntry.{LeafEntry}, Leaf.{Leaf}}

-- an entry with its version back at 0
abbrev pub cleared : LeafEntry → LeafEntry
cleared e = record { version = 0; key = e.key; value = e.value }

-- The leaf with another key and value at an index: every other entry keeps its own, all entry versions are 0, and the
-- node's version is one more.
abbrev pub rewritten : Leaf → ℕ → ℕ → List ℕ → Leaf
rewritten a index key value = record { version = a.version + 1; low = a.low; high = a.high; next = a.next; entries = slice_set (map cleared a.entries) index (record { version = 0; key = key; value = value }) }

-- the leaf with another entry at an index, and all else as it was
abbrev pub with_entry : Leaf → ℕ → LeafEntry → Leaf
with_entry a index e = record { version = a.version; low = a.low; high = a.high; next = a.next; entries = slice_set a.entries index e }
