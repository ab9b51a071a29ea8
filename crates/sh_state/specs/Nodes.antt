-- A linked node, and what the nodes of a level have to do with each other.
use Rattle.std.specs.{Prelude.{◌≡◌, ◌≢◌, ◌⊎◌, ℕ, zero, suc, ◌-◌, ◌^◌, ◌<◌, ◌≤◌, List, [], ◌∷◌, slice_index}, List.{AllByRecursion}}
use Rattle.sh_base.specs.{declared.config.ConfigParts.{ConfigParts}, Setting.{IsNode}, Layout.{lock_of}}
use Rattle.sh_map.specs.{declared.log.Entry.{Entry}, Map.{get}, Log.{map_of}}
use Rattle.sh_image.specs.{declared.{leaf.LeafEntry.{LeafEntry}, inner.Pair.{Pair}}, Leaf.{leaf_in, Spells}, Inner.{inner_in, SpellsInner}}
use Rattle.sh_edit.specs.Held.{held, HasKeysOnce}
use Rattle.sh_read.specs.Moments.{Writing, IsWriting}
use Rattle.sh_state.specs.TreeState.{Class, Undrawn, Reserved, Fresh, Linked, LockState, Nobody, Held, Writes, TreeState}

-- the words of a node's header
abbrev pub level_in : List ℕ → ℕ
level_in ws = slice_index ws 1

abbrev pub low_in : List ℕ → ℕ
low_in ws = slice_index ws 2

abbrev pub high_in : List ℕ → ℕ
high_in ws = slice_index ws 3

abbrev pub next_in : List ℕ → ℕ
next_in ws = slice_index ws 4

abbrev pub IsLinked : Class → Type 0
IsLinked Undrawn = ⊥
IsLinked Reserved = ⊥
IsLinked (Fresh seat) = ⊥
IsLinked (Linked level low) = Unit {0}

-- what a leaf's words say, if they are a leaf's
abbrev pub standing_entries : ConfigParts → List ℕ → List LeafEntry
standing_entries p ws = (leaf_in p ws).entries

-- what an inner node's words say, if they are an inner node's
abbrev pub standing_pairs : List ℕ → List Pair
standing_pairs ws = (inner_in ws).pairs

-- one of the pairs leads to the node
abbrev pub LeadsTo : List Pair → ℕ → Type 0
LeadsTo [] n = ⊥
LeadsTo (x ∷ xs) n = (x.child ≡ n) ⊎ LeadsTo xs n

-- The words spell a leaf that has no key twice, and has the log's map between its fences.
pub record IsStandingLeaf (p : ConfigParts) (log : List Entry) (ws : List ℕ) : Type 0 where
  pub spells : Spells p ws (leaf_in p ws)
  pub once : HasKeysOnce (standing_entries p ws)
  pub map : (key : ℕ) → key ≢ 0 → low_in ws ≤ key → key < high_in ws → held (standing_entries p ws) key ≡ get (map_of log) key

-- each pair leads to a node that is linked in a level, with the separator as its low fence
abbrev pub LeadDown : TreeState → (level : ℕ) → List Pair → Type 0
LeadDown s level pairs = AllByRecursion (λ (x : Pair). s.class x.child ≡ Linked level x.separator) pairs

-- The words spell an inner node whose pairs lead down to the level below.
pub record IsStandingInner (p : ConfigParts) (s : TreeState) (below : ℕ) (ws : List ℕ) : Type 0 where
  pub spells : SpellsInner p ws (inner_in ws)
  pub children : LeadDown s below (standing_pairs ws)

abbrev pub Body : ConfigParts → TreeState → (level : ℕ) → List ℕ → Type 0
Body p s zero ws = IsStandingLeaf p s.log ws
Body p s (suc level) ws = IsStandingInner p s level ws

-- the next node of a level begins where this one ends; the last one ends with the greatest word
abbrev pub LeadsRight : TreeState → (level high next : ℕ) → Type 0
LeadsRight s level high next = ((next ≡ 0) × (high ≡ 2 ^ 64 - 1)) ⊎ (s.class next ≡ Linked level high)

-- a linked node
pub record Sits (p : ConfigParts) (s : TreeState) (n level low : ℕ) : Type 0 where
  pub real : IsNode p n
  pub level_is : level_in (s.node n) ≡ level
  pub low_is : low_in (s.node n) ≡ low
  pub fences : low < high_in (s.node n)
  pub past : high_in (s.node n) ≤ 2 ^ 64 - 1
  pub next : LeadsRight s level (high_in (s.node n)) (next_in (s.node n))
  pub body : Body p s level (s.node n)

-- two nodes of a level, given the low fence of each: one ends before the other begins
abbrev pub AreApart : TreeState → (m n low_m low_n : ℕ) → Type 0
AreApart s m n low_m low_n = (high_in (s.node m) ≤ low_n) ⊎ (high_in (s.node n) ≤ low_m)

-- a WRITE under way is of a linked node, under that node's lock
pub record IsUnderWay (p : ConfigParts) (s : TreeState) (lock n : ℕ) (w : Writing) : Type 0 where
  pub level : ℕ
  pub low : ℕ
  pub lock_is : lock_of p n ≡ lock
  pub linked : s.class n ≡ Linked level low
  pub stores : IsWriting p level (s.node n) w

-- what a lock's holder may do; the handovers aren't more than the bound
abbrev pub Orderly : ConfigParts → TreeState → (lock : ℕ) → LockState → Type 0
Orderly p s lock Nobody = Unit {0}
Orderly p s lock (Held owner depth) = depth ≤ p.bound
Orderly p s lock (Writes seat depth node w) = (depth ≤ p.bound) × IsUnderWay p s lock node w
