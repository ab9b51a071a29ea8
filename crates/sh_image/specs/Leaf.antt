-- A leaf, the words that spell it, and the leaf that words spell.
use Rattle.std.specs.{Prelude.{◌≡◌, ◌↔◌, ℕ, ◌-◌, ◌^◌, ◌<◌, ◌≤◌, ◌⊎◌, List, [], ◌∷◌, ◌++◌, drop, length, replicate, slice_index}, List.{flat_map, AllByRecursion}}
use Rattle.sh_base.specs.{declared.config.ConfigParts.{ConfigParts}, Setting.{nodes, last_version, last_entry_version}}
use Rattle.sh_image.specs.{declared.leaf.LeafEntry.{LeafEntry}, Entries.{entry_words, entries_in}}

-- Its version, the keys that it covers (low and all below high), the next leaf of its chain (0: none), its entries.
pub record Leaf : Type 0 where
  pub version : ℕ
  pub low : ℕ
  pub high : ℕ
  pub next : ℕ
  pub entries : List LeafEntry

-- version, level 0, fences, next leaf, and 0
abbrev pub header : Leaf → List ℕ
header a = a.version ∷ 0 ∷ a.low ∷ a.high ∷ a.next ∷ 0 ∷ []

-- the words of a leaf: its header, its entries, and its version behind
abbrev pub leaf_words : Leaf → List ℕ
leaf_words a = header a ++ flat_map entry_words a.entries ++ a.version ∷ []

-- the leaf whose words these are, if they are a leaf's
abbrev pub leaf_in : ConfigParts → List ℕ → Leaf
leaf_in p ws = record { version = slice_index ws 0; low = slice_index ws 2; high = slice_index ws 3; next = slice_index ws 4; entries = entries_in p.value_words p.leaf (drop 6 ws) }

-- an entry with no key: its words are 0
abbrev pub empty_entry : ConfigParts → LeafEntry
empty_entry p = record { version = 0; key = 0; value = replicate p.value_words 0 }

-- A value has the setting's words. The version isn't too large. An empty entry's value is 0, and another entry's key
-- lies between the fences.
pub record IsEntry (p : ConfigParts) (low high : ℕ) (e : LeafEntry) : Type 0 where
  pub value : length e.value ≡ p.value_words
  pub version : e.version ≤ last_entry_version
  pub within : ((e.key ≡ 0) × (e.value ≡ replicate p.value_words 0)) ⊎ ((low ≤ e.key) × (1 ≤ e.key) × (e.key < high))

-- The rules of a leaf of this setting. The last leaf of the chain, and no other, has the greatest word for its high
-- fence. Two entries may have one key.
pub record IsLeaf (p : ConfigParts) (a : Leaf) : Type 0 where
  pub version : a.version ≤ last_version p
  pub fences : a.low < a.high
  pub next : a.next ≤ nodes p
  pub end : (a.next ≡ 0) ↔ (a.high ≡ 2 ^ 64 - 1)
  pub count : length a.entries ≡ p.leaf
  pub entries : AllByRecursion (IsEntry p a.low a.high) a.entries

-- each entry's value has the setting's words
abbrev pub HaveWords : ConfigParts → List LeafEntry → Type 0
HaveWords p entries = AllByRecursion (λ e. length e.value ≡ p.value_words) entries

-- the words spell this leaf, and it meets the rules
pub record Spells (p : ConfigParts) (ws : List ℕ) (a : Leaf) : Type 0 where
  pub words : ws ≡ leaf_words a
  pub lawful : IsLeaf p a
