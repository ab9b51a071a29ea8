-- Where the levels that were walked are no tree's: the first pair whose child is astray, and the first leaf that has a
-- key twice.
use Rattle.std.specs.Prelude.{◌≡◌, ◌≢◌, ℕ, suc, ◌-◌, ◌<◌, ◌≤◌, List, [], length, slice_index, slice_index_or}
use Rattle.sh_base.specs.declared.config.ConfigParts.{ConfigParts}
use Rattle.sh_image.specs.{Inner.{no_pair}, Entries.{keys_of}}
use Rattle.sh_edit.specs.Held.{HasKeysOnce}
use Rattle.sh_tree.specs.{Nodes.{leaf_at, inner_at}, Tree.{IsChildIn}}

-- the first of the numbers below count that isn't good
pub record IsFirstBad (Good : ℕ → Type 0) (count n : ℕ) : Type 0 where
  pub below : n < count
  pub before : (i : ℕ) → i < n → Good i
  pub here : Good n → ⊥

-- pair i of node n leads to a node of the level below that begins at its separator; and so do all its pairs
abbrev pub LeadsBelow : ConfigParts → List ℕ → (below : List ℕ) → (n i : ℕ) → Type 0
LeadsBelow p words below n i = IsChildIn p words below (slice_index_or (inner_at p words n).pairs i no_pair)

abbrev pub pair_count : ConfigParts → List ℕ → ℕ → ℕ
pair_count p words n = length (inner_at p words n).pairs

abbrev pub AllLeadBelow : ConfigParts → List ℕ → (below : List ℕ) → (n : ℕ) → Type 0
AllLeadBelow p words below n = (i : ℕ) → i < pair_count p words n → LeadsBelow p words below n i

-- the nodes of a level, counted from the top one, as 0, down
abbrev pub level_nodes : List (List ℕ) → ℕ → List ℕ
level_nodes levels d = slice_index_or levels d []

-- all pairs of node i of a level; and of all its nodes
abbrev pub NodeLeads : ConfigParts → List ℕ → List (List ℕ) → (d i : ℕ) → Type 0
NodeLeads p words levels d i = AllLeadBelow p words (level_nodes levels (suc d)) (slice_index (level_nodes levels d) i)

abbrev pub LevelLeads : ConfigParts → List ℕ → List (List ℕ) → (d : ℕ) → Type 0
LevelLeads p words levels d = (i : ℕ) → i < length (level_nodes levels d) → NodeLeads p words levels d i

-- all pairs of all levels above the leaves
abbrev pub AllLead : ConfigParts → List ℕ → List (List ℕ) → Type 0
AllLead p words levels = (d : ℕ) → suc d < length levels → LevelLeads p words levels d

-- Pair `index` of `node` is the first astray, from the top level down and along each level: of the first level that has
-- one, of the first node there that has one, the first.
pub record IsFirstAstray (p : ConfigParts) (words : List ℕ) (levels : List (List ℕ)) (node index : ℕ) : Type 0 where
  pub d : ℕ
  pub place : ℕ
  pub level : IsFirstBad (LevelLeads p words levels) (length levels - 1) d
  pub among : IsFirstBad (NodeLeads p words levels d) (length (level_nodes levels d)) place
  pub node_is : node ≡ slice_index (level_nodes levels d) place
  pub pair : IsFirstBad (LeadsBelow p words (level_nodes levels (suc d)) node) (pair_count p words node) index

-- a key stands twice in a list of keys
pub record IsTwice (keys : List ℕ) (key : ℕ) : Type 0 where
  pub some : key ≢ 0
  pub i : ℕ
  pub j : ℕ
  pub apart : i < j
  pub within : j < length keys
  pub first : slice_index keys i ≡ key
  pub second : slice_index keys j ≡ key

-- and it is the least that does
pub record IsLeastTwice (keys : List ℕ) (key : ℕ) : Type 0 where
  pub twice : IsTwice keys key
  pub least : (k : ℕ) → IsTwice keys k → key ≤ k

-- the keys of leaf n, entry by entry
abbrev pub keys_at : ConfigParts → List ℕ → (n : ℕ) → List ℕ
keys_at p words n = keys_of (leaf_at p words n).entries

-- leaf i of the leaves has no key twice
abbrev pub IsOnce : ConfigParts → List ℕ → (leaves : List ℕ) → (i : ℕ) → Type 0
IsOnce p words leaves i = HasKeysOnce (leaf_at p words (slice_index leaves i)).entries

abbrev pub AllOnce : ConfigParts → List ℕ → (leaves : List ℕ) → Type 0
AllOnce p words leaves = (i : ℕ) → i < length leaves → IsOnce p words leaves i

-- `node` is the first of the leaves that has a key twice, and `key` is its least
pub record IsFirstTwice (p : ConfigParts) (words : List ℕ) (leaves : List ℕ) (node key : ℕ) : Type 0 where
  pub place : ℕ
  pub leaf : IsFirstBad (IsOnce p words leaves) (length leaves) place
  pub node_is : node ≡ slice_index leaves place
  pub key_is : IsLeastTwice (keys_at p words node) key
