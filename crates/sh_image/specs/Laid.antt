-- The words of a laid pool.
use Rattle.std.specs.Prelude.{◌≡◌, ◌≢◌, ◌⊎◌, ℕ, ◌+◌, ◌-◌, ◌^◌, ◌<◌, ◌≤◌, List, length, replicate, slice_index}
use Rattle.sh_base.specs.{declared.config.ConfigParts.{ConfigParts}, Setting.{node_size, pool_words}, Layout.{root_word, counter_word, node_word, node_part}}
use Rattle.sh_image.specs.Leaf.{Leaf, leaf_words, empty_entry}

-- the empty leaf of all keys
abbrev pub blank_leaf : ConfigParts → Leaf
blank_leaf p = record { version = 0; low = 0; high = 2 ^ 64 - 1; next = 0; entries = replicate p.leaf (empty_entry p) }

-- The words of a laid pool: node 1 is the root and the empty leaf of all keys, the first chunk of server 0 is drawn, and
-- every other word is 0.
pub record AreLaid (p : ConfigParts) (words : List ℕ) : Type 0 where
  pub long : length words ≡ pool_words p
  pub leaf : node_part p words 1 ≡ leaf_words (blank_leaf p)
  pub root : slice_index words root_word ≡ 1
  pub counter : slice_index words (counter_word p 0) ≡ 1
  pub zeros : (i : ℕ) → i ≢ root_word → i ≢ counter_word p 0 → (i < node_word p 1) ⊎ (node_word p 1 + node_size p ≤ i) → slice_index words i ≡ 0
