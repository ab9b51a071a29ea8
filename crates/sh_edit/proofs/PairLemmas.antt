-- Pairs of an inner node with a new one, by their indexes.
use Rattle.std.proofs.Common.{rules, ◌≡◌, ℕ, zero, suc, ◌+◌, ◌-◌, ◌<◌, ◌≤◌, List, [], ◌∷◌, ◌++◌, length, get_or, take, drop, Some, refl, sym, ap, ◌∙◌, append_assoc, length-append, arith}
use Rattle.std.{specs.{Prelude.{slice_get}, List.{insert}}, proofs.lemmas.{Option.{get_or_from_slice_get}}}
use Rattle.std.proofs.lemmas.List.{take_more, take_all, get_or-drop, length-drop, length-take-le, Edits.{length-insert}}
use Rattle.sh_logic.proofs.Tests.{less_test, not_less_test}
use Rattle.sh_image.specs.{declared.inner.Pair.{Pair}, Inner.{Inner, separator_at, no_pair}}
use Rattle.sh_edit.specs.Pairing.{pairs_with, IsGapAt}

-- a pair put in at its gap
pub inserted : (ps : List Pair) (new : Pair) (at : ℕ) → IsGapAt ps new.separator at → insert ps at new ≡ pairs_with ps new
inserted [] new zero gap = refl
inserted [] new (suc at) gap = absurd (omega (arith, gap.within))
inserted (x ∷ ps) new zero gap = rw (not_less_test x.separator new.separator (gap.after (omega arith))) refl
inserted (x ∷ ps) new (suc at) gap =
    let step : insert ps at new ≡ pairs_with ps new = inserted ps new at (record { within = omega (arith, gap.within); before = λ i h. gap.before (suc i) (omega arith); after = λ h. gap.after (omega arith) }) in
    rw (less_test x.separator new.separator (gap.before 0 (omega arith))) (ap (λ l. x ∷ l) step)

-- the image after the pairs at some of the indexes
pub record IsPushed (old : Inner) (all : List Pair) (from i : ℕ) (image : Inner) : Type 0 where
  pub start : from ≤ i
  pub others : image ≡ record old { pairs = image.pairs }
  pub pairs : image.pairs ≡ old.pairs ++ take (i - from) (drop from all)

module _ (old : Inner) (all : List Pair) (from : ℕ) where
  pub pushed_none : IsPushed old all from from old
  pushed_none = search rules

  pub pushed_more : (i : ℕ) (image new : Inner) (x : Pair) → IsPushed old all from i image → slice_get all i ≡ Some x → i < length all → new ≡ record image { pairs = image.pairs ++ x ∷ [] } → IsPushed old all from (i + 1) new
  pushed_more i image new x h is below now =
      let from_i : from ≤ i = h.start in
      let at : from + (i - from) ≡ i = omega arith in
      let next : i + 1 - from ≡ i - from + 1 = omega arith in
      let here : get_or (drop from all) (i - from) x ≡ x = get_or-drop from all (i - from) x ∙ ap (λ k. get_or all k x) at ∙ get_or_from_slice_get all i x x is in
      let one : take (i - from + 1) (drop from all) ≡ take (i - from) (drop from all) ++ x ∷ [] = take_more (drop from all) (i - from) x (omega (arith, length-drop from all)) ∙ ap (λ y. take (i - from) (drop from all) ++ y ∷ []) here in
      record {
        start = omega (arith, h.start);
        others = λ t. record {
          version = (ap (λ (a : Inner). a.version) now ∙ ap (λ (a : Inner). a.version) h.others) t;
          level = (ap (λ (a : Inner). a.level) now ∙ ap (λ (a : Inner). a.level) h.others) t;
          low = (ap (λ (a : Inner). a.low) now ∙ ap (λ (a : Inner). a.low) h.others) t;
          high = (ap (λ (a : Inner). a.high) now ∙ ap (λ (a : Inner). a.high) h.others) t;
          next = (ap (λ (a : Inner). a.next) now ∙ ap (λ (a : Inner). a.next) h.others) t;
          pairs = new.pairs;
        };
        pairs = ap (λ (a : Inner). a.pairs) now ∙ ap (λ l. l ++ x ∷ []) h.pairs ∙ append_assoc old.pairs (take (i - from) (drop from all)) (x ∷ []) ∙ ap (λ l. old.pairs ++ l) (sym one) ∙ ap (λ n. old.pairs ++ take n (drop from all)) (sym next);
      }

  pub pushed_room : (i to : ℕ) (image : Inner) → IsPushed old all from i image → i < to → to ≤ length all → length old.pairs + (to - from) ≤ 128 → length image.pairs < 128
  pushed_room i to image h below within room = omega (arith, h.start, ap length h.pairs, length-append old.pairs (take (i - from) (drop from all)), length-take-le (i - from) (drop from all) (omega (arith, h.start, length-drop from all)))

  pub pushed_all : (i to : ℕ) (image : Inner) → IsPushed old all from i image → i ≡ to → image ≡ record old { pairs = old.pairs ++ take (to - from) (drop from all) }
  pushed_all i to image h last = h.others ∙ ap (λ l. record old { pairs = l }) (h.pairs ∙ ap (λ n. old.pairs ++ take (n - from) (drop from all)) last)

-- a fresh image to which pairs were pushed
pub pushed_fresh : (version level low high next : ℕ) (all : List Pair) (fresh image : Inner) → fresh ≡ record { version = version; level = level; low = low; high = high; next = next; pairs = [] } → image ≡ record fresh { pairs = fresh.pairs ++ all } → image ≡ record { version = version; level = level; low = low; high = high; next = next; pairs = all }
pushed_fresh version level low high next all fresh image made now = search rules

module _ (ps : List Pair) (new : Pair) (gap : ℕ) (at : IsGapAt ps new.separator gap) where
  pub whole_with : (to : ℕ) → length ps < to → take (to - 0) (drop 0 (insert ps gap new)) ≡ pairs_with ps new
  whole_with to past = take_all (to - 0) (insert ps gap new) (omega (arith, length-insert ps gap new at.within)) ∙ inserted ps new gap at

  pub front_with : (to count : ℕ) → to ≡ count → take (to - 0) (drop 0 (insert ps gap new)) ≡ take count (pairs_with ps new)
  front_with to count is = search (rules, inserted)

  pub rest_with : (from count to : ℕ) → from ≡ count → length ps < to → take (to - from) (drop from (insert ps gap new)) ≡ drop count (pairs_with ps new)
  rest_with from count to is past = take_all (to - from) (drop from (insert ps gap new)) (omega (arith, length-drop from (insert ps gap new), length-insert ps gap new at.within)) ∙ (λ t. drop (is t) (inserted ps new gap at t))

  pub middle_with : (i count : ℕ) (r : Pair) → i ≡ count → slice_get (insert ps gap new) i ≡ Some r → r.separator ≡ separator_at (pairs_with ps new) count
  middle_with i count r is here = ap (λ (x : Pair). x.separator) (sym (get_or_from_slice_get (insert ps gap new) i r no_pair here)) ∙ (λ t. separator_at (inserted ps new gap at t) (is t))
