-- The leaf of a laid pool is lawful, and its other words are 0 but the root and the first counter.
use Rattle.std.{proofs.{Common.{◌≡◌, ◌≢◌, ◌⊎◌, ℕ, zero, suc, ◌+◌, ◌<◌, ◌≤◌, List, get_or, replicate, refl, inl, inr, arith}, lemmas.Bool.{cases_lt}}, specs.{Prelude.{◌-◌, ◌^◌}, List.{AllByRecursion}}}
use Rattle.std.proofs.lemmas.List.{length-replicate}
use Rattle.sh_base.specs.{declared.config.ConfigParts.{ConfigParts}, Setting.{node_size, IsNode, IsSetting}, Layout.{node_word}, Places.{Site, Root, Counter, Node, address, IsSite}}
use Rattle.sh_base.proofs.PlacesLemmas.{are_places_apart}
use Rattle.sh_image.specs.{Leaf.{IsEntry, IsLeaf, empty_entry}, Laid.{blank_leaf, AreLaid}}

all_empty : (p : ConfigParts) (n : ℕ) → AllByRecursion (IsEntry p 0 (2 ^ 64 - 1)) (replicate n (empty_entry p))
all_empty p zero = tt
all_empty p (suc n) = (record { value = length-replicate p.value_words 0; version = omega arith; within = inl (refl, refl) }, all_empty p n)

pub blank_lawful : (p : ConfigParts) → IsLeaf p (blank_leaf p)
blank_lawful p = record { version = omega arith; fences = omega arith; next = omega arith; end = ((λ e. refl), λ e. refl); count = length-replicate p.leaf (empty_entry p); entries = all_empty p p.leaf }

module _ (p : ConfigParts) (ok : IsSetting p) (words : List ℕ) (laid : AreLaid p words) (first : IsNode p 1) where
  -- an address that is no word of node 1 lies before it or behind it
  aside : (a : Site) → IsSite p a → ((o : ℕ) → a ≢ Node 1 o) → (address p a < node_word p 1) ⊎ (node_word p 1 + node_size p ≤ address p a)
  aside a ia away = elim (cases_lt (address p a) (node_word p 1)) [
    | inl lt ↦ inl lt
    | inr from ↦ elim (cases_lt (address p a) (node_word p 1 + node_size p)) [
      | inl lt ↦ let o : ℕ = address p a - node_word p 1 in absurd (away o ((are_places_apart p).apart a (Node 1 o) ia (first, omega (arith, lt, from)) (omega (arith, from))))
      | inr past ↦ inr past
    ]
  ]

  pub laid_zero : (a : Site) → IsSite p a → a ≢ Root → a ≢ Counter 0 → ((o : ℕ) → a ≢ Node 1 o) → get_or words (address p a) 0 ≡ 0
  laid_zero a ia root counter node =
      let servers : 0 < p.servers = omega (arith, ok.ranged.servers.0) in
      laid.zeros (address p a) (λ e. root ((are_places_apart p).apart a Root ia tt e)) (λ e. counter ((are_places_apart p).apart a (Counter 0) ia servers e)) (aside a ia node)
