-- The walk along the levels of a tree, from the root down, by the words alone, whatever they are.
use Rattle.std.specs.Prelude.{◌≡◌, ◌≢◌, ℕ, suc, ◌+◌, List, [], ◌∷◌, length, slice_index}
use Rattle.sh_base.specs.{declared.config.ConfigParts.{ConfigParts}, Setting.{IsNode}, Layout.{root_word, node_part}}
use Rattle.sh_image.specs.declared.inner.Image.{Image}
use Rattle.sh_tree.specs.Nodes.{NodeIn, low_at, high_at, next_at}

-- the level word of a node, and the child of its first pair
abbrev pub level_at : ConfigParts → List ℕ → ℕ → ℕ
level_at p words n = slice_index (node_part p words n) 1

abbrev pub first_child : ConfigParts → List ℕ → ℕ → ℕ
first_child p words n = slice_index (node_part p words n) 7

-- the node that the root word names, if it names one
abbrev pub root_of : List ℕ → ℕ
root_of words = slice_index words root_word

-- the number names a node, and that node spells an image
pub record IsSpelled (p : ConfigParts) (words : List ℕ) (n : ℕ) : Type 0 where
  pub node : IsNode p n
  pub image : Image
  pub spelled : NodeIn p words n image

-- A number that the walk comes to is sound on this level, behind a node that ends at low: it names a node that spells an
-- image of this level, and that node begins there.
pub record IsSoundNode (p : ConfigParts) (words : List ℕ) (level low n : ℕ) : Type 0 where
  pub spelled : IsSpelled p words n
  pub level_is : level_at p words n ≡ level
  pub low_is : low_at p words n ≡ low

-- The walk along a level from a number on, where a node has to begin at low: these nodes are sound, and then it comes to
-- a number behind a node that ends at high.
abbrev pub IsAlong : (p : ConfigParts) → (words : List ℕ) → (level number low : ℕ) → List ℕ → (comes_to high : ℕ) → Type 0
IsAlong p words level number low [] comes_to high = (comes_to ≡ number) × (high ≡ low)
IsAlong p words level number low (n ∷ ns) comes_to high = (number ≡ n) × IsSoundNode p words level low n × IsAlong p words level (next_at p words n) (high_at p words n) ns comes_to high

-- the walk of a whole level: all its numbers are sound, from low 0 on, until it comes to 0
pub record IsLevel (p : ConfigParts) (words : List ℕ) (level first : ℕ) (nodes : List ℕ) : Type 0 where
  pub high : ℕ
  pub along : IsAlong p words level first 0 nodes 0 high

-- The walk of whole levels from the number `first` on, from the upper one down, each from the first child of the first
-- node above; `left` more are below, and it comes to the first number of those.
abbrev pub IsDown : (p : ConfigParts) → (words : List ℕ) → (left first : ℕ) → List (List ℕ) → (comes_to : ℕ) → Type 0
IsDown p words left first [] comes_to = comes_to ≡ first
IsDown p words left first (nodes ∷ below) comes_to = IsLevel p words (length below + left) first nodes × IsDown p words left (first_child p words first) below comes_to

-- the walk of all levels, from the root down to level 0
pub record IsWalked (p : ConfigParts) (words : List ℕ) (levels : List (List ℕ)) : Type 0 where
  pub comes_to : ℕ
  pub top : length levels ≡ suc (level_at p words (root_of words))
  pub down : IsDown p words 0 (root_of words) levels comes_to

-- the walk comes on this level to this number, which is neither sound nor 0, and to none like that before
pub record IsUnsound (p : ConfigParts) (words : List ℕ) (level number : ℕ) : Type 0 where
  pub above : List (List ℕ)
  pub before : List ℕ
  pub first : ℕ
  pub low : ℕ
  pub top : level_at p words (root_of words) ≡ length above + level
  pub down : IsDown p words (suc level) (root_of words) above first
  pub along : IsAlong p words level first 0 before number low
  pub some : number ≢ 0
  pub unsound : IsSoundNode p words level low number → ⊥
