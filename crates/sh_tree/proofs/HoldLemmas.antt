-- The map that the leaves hold, leaf by leaf.
use Rattle.std.proofs.Common.{rules, ◌≡◌, ◌⊎◌, ℕ, zero, suc, ◌+◌, ◌-◌, ◌<◌, ◌≤◌, Bool, Some, None, List, [], ◌∷◌, ◌++◌, length, get_or, eqb, drop, take, refl, sym, ap, subst, ◌∙◌, inl, inr, arith}
use Rattle.std.{specs.{Prelude.{slice_get}, List.{AllByRecursion}, Ordering.{nat_cmp}, Cmp.{nat_cmp_total}, FinMap.{find, from_entries, get-from_entries}}, proofs.lemmas.Bool.{cases_eq, cases_lt}}
use Rattle.std.proofs.lemmas.{List.{drop_more, append-nil, take_more, Concat.{flat_map-append}}, Option.{get_or_from_slice_get}}
use Rattle.sh_logic.proofs.Lookups.{find_past, find_before}
use Rattle.sh_base.specs.{declared.config.ConfigParts.{ConfigParts}, Setting.{node_size}, Layout.{node_word, node_part}}
use Rattle.sh_map.{specs.Map.{Map}, proofs.MapLemmas.{same_by_keys}}
use Rattle.sh_image.{specs.{declared.leaf.LeafEntry.{LeafEntry}, Leaf.{Leaf, IsEntry, Spells}}, proofs.LeafLemmas.{spelled_one}}
use Rattle.sh_edit.{specs.Held.{pairs_of}, proofs.HeldLemmas.{find-pairs_of, get-zero, held_outside}}
use Rattle.sh_tree.specs.{Nodes.{leaf_at, low_at, high_at}, Tree.{IsChain, IsLeafOf, pairs_along}, Adding.{Adds}}

-- ---- a leaf's entries, from the last to the first
one_before : (b : Bool) (e : LeafEntry) (es : List LeafEntry) (pairs : List (ℕ × List ℕ)) → eqb e.key 0 ≡ b → pairs_of (e ∷ []) ++ (pairs_of es ++ pairs) ≡ pairs_of (e ∷ es) ++ pairs
one_before b e es pairs is = search rules

-- one entry more, from behind
pub adds_before : (es : List LeafEntry) (step at : ℕ) (e : LeafEntry) (old map new : Map) → step < length es → at ≡ length es - 1 - step → slice_get es at ≡ Some e → Adds old (drop (length es - step) es) map → Adds map (e ∷ []) new → Adds old (drop (length es - (step + 1)) es) new
adds_before es step at e old map new below is_at got before adds pairs start =
    let here : length es - (step + 1) ≡ at = omega arith in
    let next : at + 1 ≡ length es - step = omega arith in
    let rest = drop (length es - step) es in
    let parts : drop (length es - (step + 1)) es ≡ e ∷ rest = ap (λ n. drop n es) here ∙ drop_more es at e (omega arith) ∙ (λ t. get_or_from_slice_get es at e e got t ∷ drop (next t) es) in
    adds (pairs_of rest ++ pairs) (before pairs start) ∙ ap from_entries (one_before (eqb e.key 0) e rest pairs refl ∙ ap (λ l. pairs_of l ++ pairs) (sym parts))

-- lists that share no key may stand either way round
turned : (xs ys : List (ℕ × List ℕ)) → ((q : ℕ) → (find nat_cmp q xs ≡ None) ⊎ (find nat_cmp q ys ≡ None)) → from_entries {R = nat_cmp} (xs ++ ys) ≡ from_entries (ys ++ xs)
turned xs ys apart = same_by_keys _ _ (λ q. get-from_entries nat_cmp_total (xs ++ ys) q ∙ elim (apart q) [
  | inl none ↦ find_past xs ys q none ∙ sym (find_before ys xs q none)
  | inr none ↦ find_before xs ys q none ∙ sym (find_past ys xs q none)
] ∙ sym (get-from_entries nat_cmp_total (ys ++ xs) q))

module _ (p : ConfigParts) (words : List ℕ) where
  -- the words that are read as a leaf's
  pub part_is : (n at size : ℕ) → at ≡ node_word p n → size ≡ node_size p → take (at + size - at) (drop at words) ≡ node_part p words n
  part_is n at size is long = let e : at + size - at ≡ node_size p = omega (arith, long) in λ t. take (e t) (drop (is t) words)

  pub leaf_read : (n at size : ℕ) (a b : Leaf) → at ≡ node_word p n → size ≡ node_size p → Spells p (take (at + size - at) (drop at words)) b → Spells p (node_part p words n) a → b ≡ a
  leaf_read n at size a b is long read h = sym (spelled_one p _ b (subst (λ (ws : List ℕ). Spells p ws b) (part_is n at size is long) read)) ∙ spelled_one p _ a h

  within : (low high : ℕ) (es : List LeafEntry) → AllByRecursion (IsEntry p low high) es → AllByRecursion (λ e. (e.key ≡ 0) ⊎ ((low ≤ e.key) × (e.key < high))) es
  within low high [] h = tt
  within low high (e ∷ es) h = (elim h.0.within [ inl z ↦ inl z.0 | inr w ↦ inr (w.0, w.2) ], within low high es h.1)

  -- a leaf has no key outside its fences
  none_outside : (n q : ℕ) → IsLeafOf p words n → (q < low_at p words n) ⊎ (high_at p words n ≤ q) → find nat_cmp q (pairs_of (leaf_at p words n).entries) ≡ None
  none_outside n q h out = elim (cases_eq q 0) [
    | inl z ↦ rw z (sym (get-from_entries nat_cmp_total (pairs_of (leaf_at p words n).entries) 0) ∙ get-zero (leaf_at p words n).entries)
    | inr nz ↦ find-pairs_of (leaf_at p words n).entries q nz ∙ held_outside (leaf_at p words n).entries (low_at p words n) (high_at p words n) q nz out (within _ _ _ h.spelled.lawful.entries)
  ]

  -- nor have the leaves before one a key from its low fence on
  none_before : (low : ℕ) (ns : List ℕ) (i q : ℕ) → IsChain p words low ns → AllByRecursion (IsLeafOf p words) ns → i < length ns → low_at p words (get_or ns i 0) ≤ q → (low ≤ low_at p words (get_or ns i 0)) × (find nat_cmp q (pairs_along p words (take i ns)) ≡ None)
  none_before low [] i q h k below from = absurd (omega arith)
  none_before low (n ∷ ns) zero q h k below from = (omega (arith, h.1), refl)
  none_before low (n ∷ ns) (suc i) q h k below from =
      let rest = none_before (high_at p words n) ns i q h.3 k.1 (omega arith) from in
      (omega (arith, h.1, k.0.spelled.lawful.fences, rest.0), find_past (pairs_of (leaf_at p words n).entries) (pairs_along p words (take i ns)) q (none_outside n q k.0 (inr (omega (arith, rest.0)))) ∙ rest.1)

  along_push : (ns : List ℕ) (n : ℕ) → pairs_along p words (ns ++ n ∷ []) ≡ pairs_along p words ns ++ pairs_of (leaf_at p words n).entries
  along_push ns n = flat_map-append (λ m. pairs_of (leaf_at p words m).entries) ns (n ∷ []) ∙ ap (λ l. pairs_along p words ns ++ l) (append-nil (pairs_of (leaf_at p words n).entries))

  -- one leaf more
  pub leaf_more : (leaves : List ℕ) (i : ℕ) (old new : Map) → IsChain p words 0 leaves → AllByRecursion (IsLeafOf p words) leaves → i < length leaves → IsLeafOf p words (get_or leaves i 0) → old ≡ from_entries (pairs_along p words (take i leaves)) → Adds old (leaf_at p words (get_or leaves i 0)).entries new → new ≡ from_entries (pairs_along p words (take (i + 1) leaves))
  leaf_more leaves i old new h k below leaf before adds =
      let n = get_or leaves i 0 in
      let so_far = pairs_along p words (take i leaves) in
      adds so_far before ∙ turned (pairs_of (leaf_at p words n).entries) so_far (λ q. elim (cases_lt q (low_at p words n)) [
        | inl lt ↦ inl (none_outside n q leaf (inl lt))
        | inr ge ↦ inr (none_before 0 leaves i q h k below ge).1
      ]) ∙ ap from_entries (sym (ap (pairs_along p words) (take_more leaves i 0 below) ∙ along_push (take i leaves) n))
