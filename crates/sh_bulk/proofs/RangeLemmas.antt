-- Ranges of node numbers.
use Rattle.std.{proofs.{Common.{◌≡◌, ◌⊎◌, ℕ, zero, suc, ◌+◌, ◌<◌, ◌≤◌, true, false, List, ◌++◌, sym, ap, ◌∙◌, inl, inr, arith}, lemmas.Bool.{cases_eq}}, specs.List.{range_with_len, AllByRecursion}}
use Rattle.sh_tree.{specs.Lists.{is_in, AreDifferent}, proofs.ListLemmas.{in_head, in_more, in_tail}}

pub all_in_range : (P : ℕ → Type 0) (a n : ℕ) → ((k : ℕ) → a ≤ k → k < a + n → P k) → AllByRecursion P (range_with_len a n)
all_in_range P a zero h = tt
all_in_range P a (suc n) h = (h a (omega arith) (omega arith), all_in_range P (a + 1) n (λ k ge lt. h k (omega arith) (omega arith)))

pub in_range : (a n k : ℕ) → a ≤ k → k < a + n → is_in (range_with_len a n) k ≡ true
in_range a zero k ge lt = absurd (omega arith)
in_range a (suc n) k ge lt = elim (cases_eq a k) [
  | inl same ↦ (let here = in_head a (range_with_len (a + 1) n) in ap (is_in (range_with_len a (suc n))) (sym same) ∙ here)
  | inr other ↦ in_more a k (range_with_len (a + 1) n) (in_range (a + 1) n k (omega arith) (omega arith))
]

-- a number outside a range, and not behind it
pub outside_range : (a n : ℕ) (ys : List ℕ) (k : ℕ) → (k < a) ⊎ (a + n ≤ k) → is_in ys k ≡ false → is_in (range_with_len a n ++ ys) k ≡ false
outside_range a zero ys k aside none = none
outside_range a (suc n) ys k aside none =
    in_tail a k (range_with_len (a + 1) n ++ ys) (λ e. elim aside [ inl lt ↦ omega arith | inr ge ↦ omega arith ])
    ∙ outside_range (a + 1) n ys k (elim aside [ inl lt ↦ inl (omega arith) | inr ge ↦ inr (omega arith) ]) none

-- a range, and numbers below it
pub different_range : (a n : ℕ) (ys : List ℕ) → AreDifferent ys → ((k : ℕ) → a ≤ k → is_in ys k ≡ false) → AreDifferent (range_with_len a n ++ ys)
different_range a zero ys apart below = apart
different_range a (suc n) ys apart below = (outside_range (a + 1) n ys a (inl (omega arith)) (below a (omega arith)), different_range (a + 1) n ys apart (λ k ge. below k (omega arith)))
