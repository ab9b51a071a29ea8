-- What a READ of a leaf found, as points of the log since it began.
use Rattle.std.specs.Prelude.{◌≡◌, ◌≢◌, ◌⊎◌, ℕ, ◌<◌, ◌≤◌, List, length, slice_index, slice_index_or, Option, Some}
use Rattle.sh_base.specs.{declared.config.ConfigParts.{ConfigParts}, Setting.{node_size}, Layout.{entry_at, entry_rear_at}}
use Rattle.sh_map.specs.{declared.log.Entry.{Entry}, Map.{get}, Log.{map_at}}
use Rattle.sh_image.specs.{declared.leaf.LeafEntry.{LeafEntry}, Leaf.{IsEntry, leaf_in, Spells}}
use Rattle.sh_edit.specs.Held.{held, key_at, no_entry}
use Rattle.sh_state.specs.Nodes.{low_in, high_in, next_in, standing_entries}

-- an entry of the leaf that words spell, if they are a leaf's
abbrev pub standing_entry : ConfigParts → List ℕ → ℕ → LeafEntry
standing_entry p ws i = slice_index_or (standing_entries p ws) i no_entry

-- the map has this at the key, at a point from first on
abbrev pub HadSince : List Entry → (first key : ℕ) → Option (List ℕ) → Type 0
HadSince log first key had = (n : ℕ) × (first ≤ n) × (n ≤ length log) × (get (map_at log n) key ≡ had)

-- An entry meets the rules between the fences that stand now; and where it has a key, the map had it at a point.
pub record IsEntrySince (p : ConfigParts) (log : List Entry) (first : ℕ) (standing : List ℕ) (e : LeafEntry) : Type 0 where
  pub rules : IsEntry p (low_in standing) (high_in standing) e
  pub had : e.key ≢ 0 → HadSince log first e.key (Some e.value)

-- a node all of whose entries are good
pub record IsGoodNode (p : ConfigParts) (log : List Entry) (first : ℕ) (standing node : List ℕ) : Type 0 where
  pub long : length node ≡ node_size p
  pub entries : (i : ℕ) → i < p.leaf → IsEntrySince p log first standing (standing_entry p node i)

-- The entries from m on are loaded whole, with the keys got. Then the key was seen in one of these, or it was absent at
-- a point, or it stands in an entry that isn't loaded whole.
abbrev pub FitsKey : (WasAbsent : Type 0) → (m : ℕ) → List LeafEntry → (got : ℕ → ℕ) → (key : ℕ) → Type 0
FitsKey WasAbsent m es got key = ((i : ℕ) × (m ≤ i) × (i < length es) × (got i ≡ key)) ⊎ WasAbsent ⊎ ((i : ℕ) × (i < m) × (i < length es) × (key_at es i ≡ key))

-- the entries from m on are loaded whole, and no other
pub record LoadedFrom (p : ConfigParts) (from m : ℕ) : Type 0 where
  pub most : m ≤ p.leaf
  pub whole : (i : ℕ) → i < p.leaf → m ≤ i → from ≤ entry_at p i
  pub others : (i : ℕ) → i < m → entry_at p i < from

-- each entry that is loaded whole has equal versions
abbrev pub Agree : ConfigParts → (m : ℕ) → List ℕ → Type 0
Agree p m got = (i : ℕ) → i < p.leaf → m ≤ i → slice_index got (entry_rear_at p i) ≡ slice_index got (entry_at p i)

-- A READ of a leaf that was accepted: its words spell a leaf with the fences and the next node that stand now; and of
-- each key between the fences, the map had at a point what the leaf holds, a value or nothing.
pub record IsReadLeaf (p : ConfigParts) (log : List Entry) (first : ℕ) (standing got : List ℕ) : Type 0 where
  pub spells : Spells p got (leaf_in p got)
  pub low : low_in got ≡ low_in standing
  pub high : high_in got ≡ high_in standing
  pub next : next_in got ≡ next_in standing
  pub holds : (key : ℕ) → key ≢ 0 → low_in got ≤ key → key < high_in got → HadSince log first key (held (standing_entries p got) key)
