-- The tree that the words of a pool hold while no node is being written: its levels, its map, and its unposted nodes.
use Rattle.std.specs.{Prelude.{◌≡◌, ℕ, ◌+◌, ◌-◌, ◌^◌, List, [], ◌∷◌, drop, length, map, true, slice_index}, List.{concat, flat_map, AllByRecursion}, FinMap.{from_entries}}
use Rattle.sh_base.specs.{declared.config.ConfigParts.{ConfigParts}, Setting.{IsNode}, Layout.{root_word}}
use Rattle.sh_map.specs.Map.{Map}
use Rattle.sh_image.specs.declared.inner.{Image.TheVariants.{Leaf, Inner}, Pair.{Pair}}
use Rattle.sh_edit.specs.Held.{pairs_of, HasKeysOnce}
use Rattle.sh_tree.specs.{Lists.{first_of, is_in, outside, AreDifferent}, Nodes.{NodeIn, leaf_at, inner_at, low_at, high_at, next_at}}

-- The nodes of a level whose keys lie from low on: each begins where the one before ends and is named by it, and the
-- last one ends at the greatest word and names none.
abbrev pub IsChain : ConfigParts → List ℕ → (low : ℕ) → List ℕ → Type 0
IsChain p words low [] = low ≡ 2 ^ 64 - 1
IsChain p words low (n ∷ ns) = IsNode p n × (low_at p words n ≡ low) × (next_at p words n ≡ first_of ns) × IsChain p words (high_at p words n) ns

-- node n spells a leaf, without a key twice
pub record IsLeafOf (p : ConfigParts) (words : List ℕ) (n : ℕ) : Type 0 where
  pub spelled : NodeIn p words n (Leaf (leaf_at p words n))
  pub once : HasKeysOnce (leaf_at p words n).entries

-- the child of a pair is a node of the level below, and begins at the separator
pub record IsChildIn (p : ConfigParts) (words : List ℕ) (below : List ℕ) (x : Pair) : Type 0 where
  pub among : is_in below x.child ≡ true
  pub low : low_at p words x.child ≡ x.separator

-- node n spells an inner node of this level, whose children are nodes of the level below
pub record IsInnerOf (p : ConfigParts) (words : List ℕ) (level : ℕ) (below : List ℕ) (n : ℕ) : Type 0 where
  pub spelled : NodeIn p words n (Inner (inner_at p words n))
  pub level_is : (inner_at p words n).level ≡ level
  pub children : AllByRecursion (IsChildIn p words below) (inner_at p words n).pairs

-- The levels of a tree, from the top one down to the leaves, each as the list of its nodes. A level has the number of
-- levels below it.
abbrev pub AreLevels : ConfigParts → List ℕ → List (List ℕ) → Type 0
AreLevels p words [] = ⊥
AreLevels p words (leaves ∷ []) = IsChain p words 0 leaves × AllByRecursion (IsLeafOf p words) leaves
AreLevels p words (chain ∷ below ∷ rest) = IsChain p words 0 chain × AllByRecursion (IsInnerOf p words (length (below ∷ rest)) below) chain × AreLevels p words (below ∷ rest)

-- the top level, and the level of the leaves
abbrev pub top_of : List (List ℕ) → List ℕ
top_of [] = []
top_of (chain ∷ below) = chain

abbrev pub leaves_of : List (List ℕ) → List ℕ
leaves_of [] = []
leaves_of (leaves ∷ []) = leaves
leaves_of (chain ∷ below ∷ rest) = leaves_of (below ∷ rest)

-- The words hold a tree, and these are its levels: the root word names the first node of the top level, and no node
-- stands twice. Words hold one tree at most.
pub record IsTree (p : ConfigParts) (words : List ℕ) (levels : List (List ℕ)) : Type 0 where
  pub root : slice_index words root_word ≡ first_of (top_of levels)
  pub lawful : AreLevels p words levels
  pub apart : AreDifferent (concat levels)

-- the pairs of the leaves' entries that aren't empty, leaf by leaf
abbrev pub pairs_along : ConfigParts → List ℕ → List ℕ → List (ℕ × List ℕ)
pairs_along p words leaves = flat_map (λ n. pairs_of (leaf_at p words n).entries) leaves

-- the map that a tree holds
abbrev pub map_in : ConfigParts → List ℕ → List (List ℕ) → Map
map_in p words levels = from_entries (pairs_along p words (leaves_of levels))

-- the nodes that the pairs of these nodes name
abbrev pub children_of : ConfigParts → List ℕ → List ℕ → List ℕ
children_of p words nodes = flat_map (λ n. map (λ x. x.child) (inner_at p words n).pairs) nodes

-- How many nodes of these levels aren't the first of theirs and aren't named by the level above. The level above all of
-- them names the nodes `named`.
abbrev pub unnamed_from : ConfigParts → List ℕ → (named : List ℕ) → List (List ℕ) → ℕ
unnamed_from p words named [] = 0
unnamed_from p words named (chain ∷ below) = outside named (drop 1 chain) + unnamed_from p words (children_of p words chain) below

-- how many nodes of a tree aren't the first of their level and aren't named by a node of the level above
abbrev pub unposted_in : ConfigParts → List ℕ → List (List ℕ) → ℕ
unposted_in p words levels = unnamed_from p words [] levels
