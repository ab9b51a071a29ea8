-- A laid pool.
use Rattle.std.{proofs.Common.{rules, ◌≡◌, ◌≢◌, ◌⊎◌, ℕ, zero, suc, ◌+◌, ◌<◌, ◌≤◌, List, length, set, replicate, refl, ◌∙◌, arith}, specs.Prelude.{slice_index}}
use Rattle.std.proofs.lemmas.List.{length-replicate, length-set, get_or-set_same, get_or-set_other}
use Rattle.sh_base.specs.{declared.config.ConfigParts.{ConfigParts}, Setting.{node_size, pool_words, IsSetting}, Layout.{root_word, counter_word, node_word, node_part}, Places.{Counter}}
use Rattle.sh_base.proofs.{LayoutLemmas.{node_word_low}, PlacesLemmas.{are_places_apart}}
use Rattle.sh_image.specs.{Leaf.{Leaf, leaf_words}, Laid.{AreLaid, blank_leaf}}
use Rattle.sh_laid.specs.Laid.{bare_words, first_leaf}

-- the counter of server 0 lies in the pool
pub pool_is_long : (p : ConfigParts) → IsSetting p → 2 < pool_words p
pool_is_long p lawful = (are_places_apart p).within (Counter 0) (omega (arith, lawful.ranged.servers))

zero_at : (n i : ℕ) → slice_index (replicate n 0) i ≡ 0
zero_at zero i = refl
zero_at (suc n) zero = refl
zero_at (suc n) (suc i) = zero_at n i

module _ (p : ConfigParts) (lawful : IsSetting p) where
  below_nodes : 2 < node_word p first_leaf
  below_nodes = omega (arith, node_word_low p first_leaf, lawful.ranged.servers)

  pub length_bare : length (bare_words p) ≡ pool_words p
  length_bare = length-set _ _ _ ∙ length-set _ _ _ ∙ length-replicate _ _

  bare_root : slice_index (bare_words p) root_word ≡ first_leaf
  bare_root = get_or-set_other (set (replicate (pool_words p) 0) root_word first_leaf) (counter_word p 0) root_word 1 0 (λ (e : root_word ≡ counter_word p 0). absurd (omega (arith, e))) ∙ get_or-set_same (replicate (pool_words p) 0) root_word first_leaf 0 (omega (arith, length-replicate {A = ℕ} (pool_words p) 0, pool_is_long p lawful))

  bare_counter : slice_index (bare_words p) (counter_word p 0) ≡ 1
  bare_counter = get_or-set_same _ (counter_word p 0) 1 0 (omega (arith, length-set (replicate (pool_words p) 0) root_word first_leaf, length-replicate {A = ℕ} (pool_words p) 0, pool_is_long p lawful))

  bare_zero : (i : ℕ) → i ≢ root_word → i ≢ counter_word p 0 → slice_index (bare_words p) i ≡ 0
  bare_zero i root counter = get_or-set_other _ (counter_word p 0) i 1 0 counter ∙ get_or-set_other (replicate (pool_words p) 0) root_word i first_leaf 0 root ∙ zero_at (pool_words p) i

  pub are_laid : (old new : List ℕ) (a : Leaf) → old ≡ bare_words p → a ≡ blank_leaf p → length new ≡ length old → node_part p new first_leaf ≡ leaf_words a
      → ((i : ℕ) → (i < node_word p first_leaf) ⊎ (node_word p first_leaf + node_size p ≤ i) → slice_index new i ≡ slice_index old i) → AreLaid p new
  are_laid old new a bare is long here elsewhere = search (rules, length_bare, below_nodes, bare_root, bare_counter, bare_zero)
