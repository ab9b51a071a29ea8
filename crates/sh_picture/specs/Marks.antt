-- What the code keeps while it looks for the first pair that is astray and for keys that stand twice.
use Rattle.std.specs.Prelude.{◌≡◌, ◌≢◌, ℕ, ◌<◌, ◌≤◌, true, List, length, slice_index, slice_index_or}
use Rattle.sh_base.specs.{declared.config.ConfigParts.{ConfigParts}, Setting.{IsNode}}
use Rattle.sh_image.specs.{declared.inner.{Image.TheVariants.{Leaf, Inner}, Pair.{Pair}}, Inner.{no_pair}}
use Rattle.sh_tree.specs.{Lists.{is_in}, Nodes.{leaf_at, inner_at, NodeIn}, Tree.{IsChildIn}}
use Rattle.sh_picture.specs.Tree.{pair_count, AllLeadBelow, IsFirstBad, IsLeastTwice, IsTwice, LeadsBelow}

-- just these nodes bear this mark
pub record AreMarked (nodes : List ℕ) (mark : ℕ) (marks : List ℕ) : Type 0 where
  pub all : (n : ℕ) → is_in nodes n ≡ true → slice_index marks n ≡ mark
  pub none_else : (n : ℕ) → slice_index marks n ≡ mark → is_in nodes n ≡ true

-- no node bears this mark or a greater one
abbrev pub AreUnder : (mark : ℕ) → List ℕ → Type 0
AreUnder mark marks = (n : ℕ) → slice_index marks n < mark

-- nodes that spell inner nodes; and leaves
abbrev pub AreInner : ConfigParts → List ℕ → List ℕ → Type 0
AreInner p words nodes = (i : ℕ) → i < length nodes → IsNode p (slice_index nodes i) × NodeIn p words (slice_index nodes i) (Inner (inner_at p words (slice_index nodes i)))

abbrev pub AreLeaves : ConfigParts → List ℕ → List ℕ → Type 0
AreLeaves p words nodes = (i : ℕ) → i < length nodes → IsNode p (slice_index nodes i) × NodeIn p words (slice_index nodes i) (Leaf (leaf_at p words (slice_index nodes i)))

-- pair i of these leads to a node of the level below that begins at its separator
abbrev pub PairLeads : ConfigParts → List ℕ → (below : List ℕ) → List Pair → (i : ℕ) → Type 0
PairLeads p words below pairs i = IsChildIn p words below (slice_index_or pairs i no_pair)

-- the first pair of a level that is astray: its node is at this place of the level, and has this number
pub record IsAstrayIn (p : ConfigParts) (words below level : List ℕ) (node index : ℕ) : Type 0 where
  pub place : ℕ
  pub among : IsFirstBad (λ i. AllLeadBelow p words below (slice_index level i)) (length level) place
  pub node_is : node ≡ slice_index level place
  pub pair : IsFirstBad (LeadsBelow p words below node) (pair_count p words node) index

-- the key at a place isn't 0 and stands further behind too
pub record Repeats (keys : List ℕ) (i : ℕ) : Type 0 where
  pub some : slice_index keys i ≢ 0
  pub j : ℕ
  pub apart : i < j
  pub within : j < length keys
  pub same : slice_index keys j ≡ slice_index keys i

-- the least of the first i keys that stands further behind too, and 0 where none does
pub record IsLeastOf (keys : List ℕ) (i least : ℕ) : Type 0 where
  pub found : least ≢ 0 → IsTwice keys least
  pub none_below : (j : ℕ) → j < i → Repeats keys j → (least ≢ 0) × (least ≤ slice_index keys j)

-- the least key that stands twice, and 0 where none does
abbrev pub TwiceBy : List ℕ → ℕ → Type 0
TwiceBy keys least = (least ≢ 0 → IsLeastTwice keys least) × (least ≡ 0 → (k : ℕ) → IsTwice keys k → ⊥)
