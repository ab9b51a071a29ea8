-- What two lists of pairs, one behind the other, have at a key.
use Rattle.std.{proofs.Common.{◌≡◌, ℕ, Bool, true, false, cond, List, [], ◌∷◌, ◌++◌, Some, None, refl, ap}, specs.{Ordering.{nat_cmp, eq_by_cmp}, FinMap.{find}}}

pub find_past : {V : Type 0} (xs ys : List (ℕ × V)) (q : ℕ) → find nat_cmp q xs ≡ None → find nat_cmp q (xs ++ ys) ≡ find nat_cmp q ys
find_past [] ys q none = refl
find_past {V} (x ∷ xs) ys q none = go (eq_by_cmp nat_cmp q x.0) (find_past xs ys q) none
  where
    go : (b : Bool) → (find nat_cmp q xs ≡ None → find nat_cmp q (xs ++ ys) ≡ find nat_cmp q ys) → cond b (Some x.1) (find nat_cmp q xs) ≡ None → cond b (Some x.1) (find nat_cmp q (xs ++ ys)) ≡ find nat_cmp q ys
    go true more e = absurd (cc)
    go false more e = more e

pub find_before : {V : Type 0} (xs ys : List (ℕ × V)) (q : ℕ) → find nat_cmp q ys ≡ None → find nat_cmp q (xs ++ ys) ≡ find nat_cmp q xs
find_before [] ys q none = none
find_before (x ∷ xs) ys q none = ap (cond (eq_by_cmp nat_cmp q x.0) (Some x.1)) (find_before xs ys q none)
