-- What a reader answers of a node's words, each answer by its cause.
use Rattle.std.specs.Prelude.{◌≡◌, ◌≢◌, ℕ, ◌<◌, List, slice_index}
use Rattle.sh_base.specs.{declared.config.ConfigParts.{ConfigParts}, Layout.{entry_at, entry_rear_at, rear_at}}
use Rattle.sh_image.specs.{Leaf.{Leaf, Spells}, Inner.{Inner, SpellsInner}, declared.read.Seen.{Seen, TheVariants.{Leaf as LeafSeen, Inner as InnerSeen, Torn, TornEntry, Odd}}}

-- the node's version in front, and behind
abbrev pub front_of : List ℕ → ℕ
front_of ws = slice_index ws 0

abbrev pub rear_of : ConfigParts → List ℕ → ℕ
rear_of p ws = slice_index ws (rear_at p)

-- an entry's version in front, and behind
abbrev pub entry_front : ConfigParts → List ℕ → ℕ → ℕ
entry_front p ws i = slice_index ws (entry_at p i)

abbrev pub entry_rear : ConfigParts → List ℕ → ℕ → ℕ
entry_rear p ws i = slice_index ws (entry_rear_at p i)

-- the two versions of each entry agree
abbrev pub HasWholeEntries : ConfigParts → List ℕ → Type 0
HasWholeEntries p ws = (i : ℕ) → i < p.leaf → entry_front p ws i ≡ entry_rear p ws i

-- the versions of the node agree, and those of its entries where it is a leaf
pub record IsUntorn (p : ConfigParts) (ws : List ℕ) : Type 0 where
  pub node : front_of ws ≡ rear_of p ws
  pub entries : slice_index ws 1 ≡ 0 → HasWholeEntries p ws

-- an entry is the first one whose versions differ
pub record IsTornAt (p : ConfigParts) (ws : List ℕ) (index : ℕ) : Type 0 where
  pub in_range : index < p.leaf
  pub before : (i : ℕ) → i < index → entry_front p ws i ≡ entry_rear p ws i
  pub differ : entry_front p ws index ≢ entry_rear p ws index

-- the node's versions agree, it is a leaf, and it has such an entry, with these two versions
pub record IsFirstTorn (p : ConfigParts) (ws : List ℕ) (index rear front : ℕ) : Type 0 where
  pub node : front_of ws ≡ rear_of p ws
  pub leaf : slice_index ws 1 ≡ 0
  pub torn : IsTornAt p ws index
  pub front_is : front ≡ entry_front p ws index
  pub rear_is : rear ≡ entry_rear p ws index

-- The causes of the answers. They shut each other out, so each answer comes exactly where its cause holds.
abbrev pub SeenBy : ConfigParts → List ℕ → Seen → Type 0
SeenBy p ws (LeafSeen a) = Spells p ws a
SeenBy p ws (InnerSeen a) = SpellsInner p ws a
SeenBy p ws (Torn rear front) = (rear ≡ rear_of p ws) × (front ≡ front_of ws) × (rear ≢ front)
SeenBy p ws (TornEntry index rear front) = IsFirstTorn p ws index rear front
SeenBy p ws Odd = IsUntorn p ws × ((a : Leaf) → Spells p ws a → ⊥) × ((a : Inner) → SpellsInner p ws a → ⊥)
