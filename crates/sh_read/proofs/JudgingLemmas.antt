-- What is judged of a node's words by tests is what a reader answers, each by its cause.
use Rattle.std.proofs.Common.{rules, ◌≡◌, ◌≢◌, ℕ, zero, suc, ◌+◌, ◌*◌, ◌<◌, ◌≤◌, Bool, true, false, List, [], ◌∷◌, length, take, drop, refl, sym, ap, subst, ◌∙◌, inl, inr, arith}
use Rattle.std.specs.{Prelude.{◌==◌, ◌&&◌, ◌↔◌, nat_le, if◌then◌else◌, replicate, slice_index, Option, Some, None}, List.{AllByRecursion}}
use mathlib.Core.Bool.{false≢true}
use Rattle.std.proofs.lemmas.{Bool.{cases_eq, Decides.{nat_tests}}, List.{length-drop, length-take-le}}
use Rattle.sh_logic.proofs.{Options.{some_none}, Tests.{less_test, at_most_test, same_test, differ_test, and_true, true_and}}
use Rattle.sh_base.{proofs.LayoutLemmas.{node_size_is}, specs.{declared.config.ConfigParts.{ConfigParts}, Setting.{node_size}}}
use Rattle.sh_image.specs.{declared.{leaf.LeafEntry.{LeafEntry}, inner.Pair.{Pair}}, Leaf.{Leaf, leaf_in, HaveWords, IsEntry, IsLeaf}}
use Rattle.sh_image.specs.{Inner.{Inner, inner_in, separator_at, words_behind, HasChild, IsInner}, Seen.{front_of, rear_of, entry_front, entry_rear, HasWholeEntries, SeenBy}}
use Rattle.sh_image.{specs.declared.read.Seen.{Seen, TheVariants.{Leaf as LeafSeen, Inner as InnerSeen, Torn, Odd}}, proofs.{EntriesLemmas.{length-entries_in}, LeafLemmas.{spelled_one}}}
use Rattle.sh_image.proofs.{InnerLemmas.{inner_spelled, inner_passed, zeros_spelled, length-pairs_in}, ReadLemmas.{words_from_untorn, entries_in_have_words, header_spelled}}
use Rattle.sh_image.proofs.UntornLemmas.{seen_spelled, seen_inner}
use Rattle.sh_read.specs.Judging.{are_zeros, fits_end, fits_entry, fit_entries, fits_leaf, fit_pairs, begins_at, fits_inner, first_torn, leaf_seen, has_zeros_behind, inner_seen, untorn_seen, seen_of}

-- words that are all 0
zeros_tested : (ws : List ℕ) (n : ℕ) → length ws ≡ n → are_zeros ws ≡ true → ws ≡ replicate n 0
zeros_tested [] zero long h = refl
zeros_tested [] (suc n) long h = absurd (omega arith)
zeros_tested (w ∷ ws) zero long h = absurd (omega arith)
zeros_tested (w ∷ ws) (suc n) long h =
    let parts = and_true (w == 0) (are_zeros ws) h in
    let first : w ≡ 0 = grind (arith, nat_tests, parts) in
    λ i. first i ∷ zeros_tested ws n (omega arith) parts.1 i

zeros_test : (n : ℕ) → are_zeros (replicate n 0) ≡ true
zeros_test zero = refl
zeros_test (suc n) = zeros_test n

module _ (p : ConfigParts) where
  entry_tested : (low high : ℕ) (e : LeafEntry) → length e.value ≡ p.value_words → fits_entry p low high e ≡ true → IsEntry p low high e
  entry_tested low high e long h = search (rules, and_true, zeros_tested)

  entry_test : (low high : ℕ) (e : LeafEntry) → IsEntry p low high e → fits_entry p low high e ≡ true
  entry_test low high e h = search (rules, true_and, at_most_test, same_test, zeros_test, differ_test, less_test)

  entries_tested : (low high : ℕ) (es : List LeafEntry) → HaveWords p es → fit_entries p low high es ≡ true → AllByRecursion (IsEntry p low high) es
  entries_tested low high [] long h = tt
  entries_tested low high (e ∷ es) long h = let parts = and_true (fits_entry p low high e) _ h in (entry_tested low high e long.0 parts.0, entries_tested low high es long.1 parts.1)

  entries_test : (low high : ℕ) (es : List LeafEntry) → AllByRecursion (IsEntry p low high) es → fit_entries p low high es ≡ true
  entries_test low high [] h = refl
  entries_test low high (e ∷ es) h = true_and _ _ (entry_test low high e h.0) (entries_test low high es h.1)

end_tested : (next high : ℕ) → fits_end next high ≡ true → (next ≡ 0) ↔ (high ≡ 18446744073709551615)
end_tested next high h = grind (arith, nat_tests, h)

end_test : (next high : ℕ) → ((next ≡ 0) ↔ (high ≡ 18446744073709551615)) → fits_end next high ≡ true
end_test next high h = grind (arith, nat_tests, h)

past : (i : ℕ) → suc i + 1 ≡ suc (i + 1)
past i = omega arith

module _ (p : ConfigParts) where
  leaf_tested : (a : Leaf) → length a.entries ≡ p.leaf → HaveWords p a.entries → fits_leaf p a ≡ true → IsLeaf p a
  leaf_tested a count long h = search (rules, and_true, end_tested, entries_tested)

  leaf_test : (a : Leaf) → IsLeaf p a → fits_leaf p a ≡ true
  leaf_test a h = true_and _ _ (at_most_test _ _ h.version) (true_and _ _ (less_test _ _ h.fences) (true_and _ _ (at_most_test _ _ h.next) (true_and _ _ (end_test _ _ h.end) (entries_test p a.low a.high a.entries h.entries))))

  -- of the pairs: what the test of one tells
  pair_tested : (low high : ℕ) (x : Pair) (xs : List Pair) → fit_pairs p low high (x ∷ xs) ≡ true → (low ≤ x.separator) × (x.separator < high) × HasChild p x × (fit_pairs p (x.separator + 1) high xs ≡ true)
  pair_tested low high x xs h = search (rules, and_true)

  rise_tested : (low high : ℕ) (xs : List Pair) → fit_pairs p low high xs ≡ true → (i : ℕ) → i + 1 < length xs → separator_at xs i < separator_at xs (i + 1)
  rise_tested low high [] h i below = absurd (omega arith)
  rise_tested low high (x ∷ []) h i below = absurd (omega arith)
  rise_tested low high (x ∷ y ∷ xs) h zero below = omega (arith, (pair_tested (x.separator + 1) high y xs (pair_tested low high x (y ∷ xs) h).3).0)
  rise_tested low high (x ∷ y ∷ xs) h (suc i) below = rw (past i) (rise_tested (x.separator + 1) high (y ∷ xs) (pair_tested low high x (y ∷ xs) h).3 i (omega arith))

  below_tested : (low high : ℕ) (xs : List Pair) → fit_pairs p low high xs ≡ true → (i : ℕ) → i < length xs → separator_at xs i < high
  below_tested low high [] h i below = absurd (omega arith)
  below_tested low high (x ∷ xs) h zero below = (pair_tested low high x xs h).1
  below_tested low high (x ∷ xs) h (suc i) below = below_tested (x.separator + 1) high xs (pair_tested low high x xs h).3 i (omega arith)

  children_tested : (low high : ℕ) (xs : List Pair) → fit_pairs p low high xs ≡ true → AllByRecursion (HasChild p) xs
  children_tested low high [] h = tt
  children_tested low high (x ∷ xs) h = ((pair_tested low high x xs h).2, children_tested (x.separator + 1) high xs (pair_tested low high x xs h).3)

  pairs_test : (low high : ℕ) (xs : List Pair) → (0 < length xs → low ≤ separator_at xs 0) → ((i : ℕ) → i + 1 < length xs → separator_at xs i < separator_at xs (i + 1)) → ((i : ℕ) → i < length xs → separator_at xs i < high) → AllByRecursion (HasChild p) xs → fit_pairs p low high xs ≡ true
  pairs_test low high [] begin rise below children = refl
  pairs_test low high (x ∷ xs) begin rise below children =
      true_and _ _ (at_most_test _ _ (begin (omega arith))) (true_and _ _ (less_test _ _ (below 0 (omega arith))) (true_and _ _ (less_test 0 _ children.0.0) (true_and _ _ (at_most_test _ _ children.0.1) (pairs_test (x.separator + 1) high xs (next xs rise) (λ i h. subst (λ n. separator_at (x ∷ xs) (suc i) < separator_at (x ∷ xs) n) (past i) (rise (suc i) (omega arith))) (λ i h. below (suc i) (omega arith)) children.1))))
    where
      next : (ys : List Pair) → ((i : ℕ) → i + 1 < length (x ∷ ys) → separator_at (x ∷ ys) i < separator_at (x ∷ ys) (i + 1)) → 0 < length ys → x.separator + 1 ≤ separator_at ys 0
      next ys up some = omega (arith, up 0 (omega arith))

  begins_tested : (low : ℕ) (xs : List Pair) → begins_at low xs ≡ true → (separator_at xs 0 ≡ low) × (1 ≤ length xs)
  begins_tested low xs h = search rules

  begins_test : (low : ℕ) (xs : List Pair) → separator_at xs 0 ≡ low → 1 ≤ length xs → begins_at low xs ≡ true
  begins_test low xs first some = search (rules, same_test)

  inner_tested : (a : Inner) → length a.pairs ≤ 2 * p.leaf → fits_inner p a ≡ true → IsInner p a
  inner_tested a few h = search (rules, and_true, begins_tested, end_tested, rise_tested, below_tested, children_tested)

  inner_test : (a : Inner) → IsInner p a → fits_inner p a ≡ true
  inner_test a h = search (rules, pairs_test, true_and, at_most_test, less_test, end_test, begins_test)

-- a choice has what each side has
chosen : (P : Seen → Type 0) (b : Bool) (x y : Seen) → (b ≡ true → P x) → (b ≡ false → P y) → P (if b then x else y)
chosen h0 b x y f g = search rules

abbrev given : Option ℕ → ℕ
given None = 0
given (Some n) = n

module _ (p : ConfigParts) (ws : List ℕ) where
  torn_none : (i k : ℕ) → first_torn p ws i k ≡ None → (j : ℕ) → i ≤ j → j < i + k → entry_front p ws j ≡ entry_rear p ws j
  torn_none i zero h j low high = absurd (omega arith)
  torn_none i (suc k) h j low high = by (entry_front p ws i == entry_rear p ws i) refl (λ none. torn_none (i + 1) k none j)
    where
      by : (b : Bool) → (entry_front p ws i == entry_rear p ws i) ≡ b → (first_torn p ws (i + 1) k ≡ None → i + 1 ≤ j → j < i + 1 + k → entry_front p ws j ≡ entry_rear p ws j) → entry_front p ws j ≡ entry_rear p ws j
      by true e more = elim (cases_eq i j) [
        | inl is ↦ subst (λ n. entry_front p ws n ≡ entry_rear p ws n) is (grind (arith, nat_tests, e))
        | inr other ↦ more (rw e at h) (omega arith) (omega arith)
      ]
      by false e more = absurd (some_none (rw e at h))

  -- the first one whose versions differ, of those from i on
  record IsTornFrom (i k at : ℕ) : Type 0 where
    low : i ≤ at
    high : at < i + k
    before : (j : ℕ) → i ≤ j → j < at → entry_front p ws j ≡ entry_rear p ws j
    differ : entry_front p ws at ≢ entry_rear p ws at

  torn_some : (i k at : ℕ) → first_torn p ws i k ≡ Some at → IsTornFrom i k at
  torn_some i zero at h = absurd (some_none (sym h))
  torn_some i (suc k) at h = by (entry_front p ws i == entry_rear p ws i) refl (torn_some (i + 1) k at)
    where
      by : (b : Bool) → (entry_front p ws i == entry_rear p ws i) ≡ b → (first_torn p ws (i + 1) k ≡ Some at → IsTornFrom (i + 1) k at) → IsTornFrom i (suc k) at
      by true e rest =
          let more = rest (rw e at h) in
          record {
            low = omega (arith, more.low);
            high = omega (arith, more.high);
            before = λ j from to. elim (cases_eq i j) [
              | inl is ↦ subst (λ n. entry_front p ws n ≡ entry_rear p ws n) is (grind (arith, nat_tests, e))
              | inr other ↦ more.before j (omega arith) to
            ];
            differ = more.differ;
          }
      by false e rest =
          let here : i ≡ at = ap given (rw e at h) in
          record {
            low = omega (arith, here);
            high = omega (arith, here);
            before = λ j from to. absurd (omega (arith, here));
            differ = subst (λ n. entry_front p ws n ≢ entry_rear p ws n) here (λ same. grind (arith, nat_tests, e, same));
          }

  module _ (some : 1 ≤ p.value_words) (long : length ws ≡ node_size p) (rear : rear_of p ws ≡ front_of ws) where
    leaf_judged : slice_index ws 1 ≡ 0 → (r : Option ℕ) → first_torn p ws 0 p.leaf ≡ r → SeenBy p ws (leaf_seen p ws r)
    leaf_judged level (Some at) found =
        let torn = torn_some 0 p.leaf at found in
        record {
          node = sym rear;
          leaf = level;
          torn = record { in_range = omega (arith, torn.high); before = λ i h. torn.before i (omega arith) h; differ = torn.differ };
          front_is = refl;
          rear_is = refl;
        }
    leaf_judged level None found =
        let whole : HasWholeEntries p ws = λ i h. torn_none 0 p.leaf found i (omega arith) (omega arith) in
        chosen (SeenBy p ws) ((slice_index ws 5 == 0) && fits_leaf p (leaf_in p ws)) (LeafSeen (leaf_in p ws)) Odd
        (λ t.
        let parts = and_true (slice_index ws 5 == 0) _ t in
        record {
          words = sym (words_from_untorn p ws long level (grind (arith, nat_tests, parts.0)) rear whole);
          lawful = leaf_tested p (leaf_in p ws) (length-entries_in p.value_words p.leaf (drop 6 ws)) (entries_in_have_words p ws long) parts.1;
        })
        (λ f. (
          record { node = sym rear; entries = λ leaf. whole },
          λ a s. false≢true (sym f ∙ true_and _ _ (same_test _ 0 (header_spelled p ws a s).1) (leaf_test p (leaf_in p ws) (subst (IsLeaf p) (sym (spelled_one p ws a s)) s.lawful))),
          λ a s. absurd (omega (arith, level, (inner_spelled p ws a s).3)),
        ))

    zeros_are : (count : ℕ) → are_zeros (take (words_behind p count) (drop (6 + 2 * count) ws)) ≡ true → take (words_behind p count) (drop (6 + 2 * count) ws) ≡ replicate (words_behind p count) 0
    zeros_are count h = zeros_tested _ _ (length-take-le (words_behind p count) (drop (6 + 2 * count) ws) (omega (arith, length-drop (6 + 2 * count) ws, long, node_size_is p))) h

    inner_judged : slice_index ws 1 ≢ 0 → SeenBy p ws (inner_seen p ws)
    inner_judged level =
        chosen (SeenBy p ws) (has_zeros_behind p ws (slice_index ws 5) && fits_inner p (inner_in ws)) (InnerSeen (inner_in ws)) Odd
        (λ t.
        let parts = and_true (has_zeros_behind p ws (slice_index ws 5)) _ t in
        let zeros = and_true (nat_le (slice_index ws 5) (2 * p.leaf)) _ parts.0 in
        let few : slice_index ws 5 ≤ 2 * p.leaf = grind (arith, nat_tests, zeros.0) in
        let lawful = inner_tested p (inner_in ws) (omega (arith, few, length-pairs_in (slice_index ws 5) (drop 6 ws))) parts.1 in
        inner_passed p ws (inner_in ws) some long rear few (zeros_are (slice_index ws 5) zeros.1) (refl, lawful.children) lawful)
        (λ f. (
          record { node = sym rear; entries = λ leaf. absurd (level leaf) },
          λ a s. level (header_spelled p ws a s).0,
          λ a s.
              let said = inner_spelled p ws a s in
              false≢true (sym f ∙ true_and _ _ (true_and _ _ (at_most_test _ _ said.2) (ap are_zeros (zeros_spelled p ws a s) ∙ zeros_test (words_behind p (slice_index ws 5)))) (inner_test p (inner_in ws) said.0)),
        ))

  -- what the tests answer is answered by its cause
  pub judged_by : 1 ≤ p.value_words → length ws ≡ node_size p → SeenBy p ws (seen_of p ws)
  unfolding seen_of
  judged_by some long =
      chosen (SeenBy p ws) (rear_of p ws == front_of ws) (untorn_seen p ws) (Torn (rear_of p ws) (front_of ws))
      (λ t.
      let rear : rear_of p ws ≡ front_of ws = grind (arith, nat_tests, t) in
      chosen (SeenBy p ws) (slice_index ws 1 == 0) (leaf_seen p ws (first_torn p ws 0 p.leaf)) (inner_seen p ws)
      (λ leaf. leaf_judged some long rear (grind (arith, nat_tests, leaf)) (first_torn p ws 0 p.leaf) refl)
      (λ inner. inner_judged some long rear (λ leaf. grind (arith, nat_tests, inner, leaf))))
      (λ f. (refl, refl, λ same. grind (arith, nat_tests, f, same)))

  -- the causes shut each other out
  pub seen_once : 1 ≤ p.value_words → (s t : Seen) → SeenBy p ws s → SeenBy p ws t → s ≡ t
  seen_once some s t hs ht = search (rules, seen_spelled, seen_inner)
