-- What a READ of a node under way knows, at each moment.
use Rattle.std.specs.Prelude.{◌≡◌, ◌≢◌, ◌⊎◌, ℕ, ◌+◌, ◌<◌, ◌≤◌, List, length, drop, slice_index, slice_index_or, Any}
use Rattle.sh_base.specs.{declared.config.ConfigParts.{ConfigParts}, Setting.{entry_size, node_size}, Layout.{entry_at, rear_at, entry_rear_at}}
use Rattle.sh_image.specs.{declared.leaf.LeafEntry.{LeafEntry}, Entries.{entries_in}, Leaf.{Leaf, IsEntry, Spells, empty_entry}}
use Rattle.sh_read.specs.Moments.{Writing, Idle, Whole, One}

-- the words that only node WRITEs store: of an inner node all
abbrev pub IsHead : ConfigParts → ℕ → ℕ → Type 0
IsHead p level o = (o < 6) ⊎ (o ≡ rear_at p) ⊎ ((level ≢ 0) × (o ≤ rear_at p))

pub record IsEntryWord (p : ConfigParts) (i o : ℕ) : Type 0 where
  pub low : entry_at p i ≤ o
  pub high : o < entry_at p i + entry_size p

abbrev pub NotWhole : Writing → Type 0
NotWhole Idle = Unit {0}
NotWhole (Whole new done) = ⊥
NotWhole (One i new done) = Unit {0}

abbrev pub NotOne : ℕ → Writing → Type 0
NotOne i Idle = Unit {0}
NotOne i (Whole new done) = Unit {0}
NotOne i (One j new done) = j ≢ i

-- no node WRITE has stored since the rear version was loaded
pub record IsCalm (p : ConfigParts) (standing : List ℕ) (w : Writing) (got : List ℕ) : Type 0 where
  pub none : NotWhole w
  pub same : slice_index got (rear_at p) ≡ slice_index standing 0

-- An entry of which the rear version is loaded and the front version isn't: the loaded words are the standing ones,
-- unless the entry has a greater version by now.
pub record FitsReadEntry (p : ConfigParts) (standing : List ℕ) (w : Writing) (from : ℕ) (got : List ℕ) (i : ℕ) : Type 0 where
  pub version : slice_index got (entry_rear_at p i) ≤ slice_index standing (entry_at p i)
  pub words : NotOne i w → slice_index got (entry_rear_at p i) ≡ slice_index standing (entry_at p i) → (o : ℕ) → IsEntryWord p i o → from ≤ o → slice_index got o ≡ slice_index standing o

-- these words stood at some moment
abbrev pub StoodIn : List (List ℕ) → List ℕ → Type 0
StoodIn stood ws = Any (λ x. x ≡ ws) stood

-- these words stood at some moment, with the header that stands now
abbrev pub StoodWith : List (List ℕ) → List ℕ → List ℕ → Type 0
StoodWith stood standing ws = StoodIn stood ws × ((o : ℕ) → o < 6 → slice_index ws o ≡ slice_index standing o)

-- the words spell a leaf
abbrev pub IsLeafNode : ConfigParts → List ℕ → Type 0
IsLeafNode p ws = (a : Leaf) × Spells p ws a

-- an entry of the leaf that words spell, if they are a leaf's
abbrev pub read_entry : ConfigParts → List ℕ → ℕ → LeafEntry
read_entry p ws i = slice_index_or (entries_in p.value_words p.leaf (drop 6 ws)) i (empty_entry p)

-- The words got from offset from on are loaded. Was holds of what stood at some moment since the rear version was loaded.
pub record FitsRead (p : ConfigParts) (level : ℕ) (Was : List ℕ → Type 0) (standing : List ℕ) (w : Writing) (from : ℕ) (got : List ℕ) : Type 0 where
  pub long : length got ≡ node_size p
  pub begun : from ≤ rear_at p
  pub version : slice_index got (rear_at p) ≤ slice_index standing 0
  pub head : IsCalm p standing w got → (o : ℕ) → IsHead p level o → from ≤ o → slice_index got o ≡ slice_index standing o
  pub part : level ≡ 0 → IsCalm p standing w got → (i : ℕ) → i < p.leaf → entry_at p i < from → from ≤ entry_rear_at p i → FitsReadEntry p standing w from got i
  pub whole : level ≡ 0 → IsCalm p standing w got → (i : ℕ) → i < p.leaf → from ≤ entry_at p i → slice_index got (entry_rear_at p i) ≡ slice_index got (entry_at p i) → (s : List ℕ) × Was s × ((o : ℕ) → IsEntryWord p i o → slice_index got o ≡ slice_index s o)

-- An entry of a leaf that is loaded whole: it stood so in a node with the header that stands now, and it meets the rules
-- between the fences that stand now.
pub record IsGoodEntry (p : ConfigParts) (stood : List (List ℕ)) (standing got : List ℕ) (i : ℕ) : Type 0 where
  pub node : List ℕ
  pub before : StoodWith stood standing node
  pub same : read_entry p got i ≡ read_entry p node i
  pub rules : IsEntry p (slice_index standing 2) (slice_index standing 3) (read_entry p got i)
