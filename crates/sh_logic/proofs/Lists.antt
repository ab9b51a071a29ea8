-- What holds of each element of a list, and what a place of a list reads after a change.
use Rattle.std.{proofs.Common.{◌≡◌, ◌≢◌, ◌⊎◌, ℕ, zero, suc, ◌<◌, List, [], ◌∷◌, ◌++◌, length, get_or, set, take, drop, Some, inl, inr, refl, ap, arith}, specs.Prelude.{replicate, slice_get}}
use Rattle.std.specs.List.{AllByRecursion}

module _ {X : Type 0} (P : X → Type 0) where
  pub all_at : (xs : List X) (i : ℕ) (d : X) → AllByRecursion P xs → i < length xs → P (get_or xs i d)
  all_at [] i d h lt = absurd (omega arith)
  all_at (x ∷ xs) zero d h lt = h.0
  all_at (x ∷ xs) (suc i) d h lt = all_at xs i d h.1 (omega arith)

  pub from_each : (d : X) (xs : List X) → ((i : ℕ) → i < length xs → P (get_or xs i d)) → AllByRecursion P xs
  from_each d [] h = tt
  from_each d (x ∷ xs) h = (h 0 (omega arith), from_each d xs (λ i lt. h (suc i) (omega arith)))

  pub all_join : (xs ys : List X) → AllByRecursion P xs → AllByRecursion P ys → AllByRecursion P (xs ++ ys)
  all_join [] ys h k = k
  all_join (x ∷ xs) ys h k = (h.0, all_join xs ys h.1 k)

  pub all_set : (xs : List X) (i : ℕ) (y : X) → AllByRecursion P xs → P y → AllByRecursion P (set xs i y)
  all_set [] i y h q = tt
  all_set (x ∷ xs) zero y h q = (q, h.1)
  all_set (x ∷ xs) (suc i) y h q = (h.0, all_set xs i y h.1 q)

  pub all_take : (n : ℕ) (xs : List X) → AllByRecursion P xs → AllByRecursion P (take n xs)
  all_take zero xs h = tt
  all_take (suc n) [] h = tt
  all_take (suc n) (x ∷ xs) h = (h.0, all_take n xs h.1)

  pub all_drop : (n : ℕ) (xs : List X) → AllByRecursion P xs → AllByRecursion P (drop n xs)
  all_drop zero xs h = h
  all_drop (suc n) [] h = tt
  all_drop (suc n) (x ∷ xs) h = all_drop n xs h.1

pub all_weaker : {X : Type 0} (P Q : X → Type 0) (xs : List X) → ((x : X) → P x → Q x) → AllByRecursion P xs → AllByRecursion Q xs
all_weaker P Q [] f h = tt
all_weaker P Q (x ∷ xs) f h = (f x h.0, all_weaker P Q xs f h.1)

module _ {X : Type 0} where
  pub slice_get-append_left : (xs ys : List X) (i : ℕ) (x : X) → slice_get xs i ≡ Some x → slice_get (xs ++ ys) i ≡ Some x
  slice_get-append_left [] ys i x h = absurd (cc)
  slice_get-append_left (y ∷ xs) ys zero x h = h
  slice_get-append_left (y ∷ xs) ys (suc i) x h = slice_get-append_left xs ys i x h

  pub slice_get-push_end : (xs : List X) (x : X) → slice_get (xs ++ x ∷ []) (length xs) ≡ Some x
  slice_get-push_end [] x = refl
  slice_get-push_end (y ∷ xs) x = slice_get-push_end xs x

  pub slice_get-push_back : (xs : List X) (y x : X) (i : ℕ) → slice_get (xs ++ y ∷ []) i ≡ Some x → (slice_get xs i ≡ Some x) ⊎ ((i ≡ length xs) × (y ≡ x))
  slice_get-push_back [] y x zero h = inr (refl, cc)
  slice_get-push_back [] y x (suc i) h = absurd (cc)
  slice_get-push_back (z ∷ xs) y x zero h = inl h
  slice_get-push_back (z ∷ xs) y x (suc i) h = elim (slice_get-push_back xs y x i h) [ inl l ↦ inl l | inr r ↦ inr (ap suc r.0, r.1) ]

  pub set_here : (xs : List X) (i : ℕ) (x : X) → i < length xs → slice_get (set xs i x) i ≡ Some x
  set_here [] i x lt = absurd (omega arith)
  set_here (y ∷ xs) zero x lt = refl
  set_here (y ∷ xs) (suc i) x lt = set_here xs i x (omega arith)

  pub set_else : (xs : List X) (i j : ℕ) (x : X) → j ≢ i → slice_get (set xs i x) j ≡ slice_get xs j
  set_else [] i j x ne = refl
  set_else (y ∷ xs) zero zero x ne = absurd (ne refl)
  set_else (y ∷ xs) zero (suc j) x ne = refl
  set_else (y ∷ xs) (suc i) zero x ne = refl
  set_else (y ∷ xs) (suc i) (suc j) x ne = set_else xs i j x (λ e. ne (ap suc e))

  pub set_same : (xs : List X) (i : ℕ) (x : X) → slice_get xs i ≡ Some x → set xs i x ≡ xs
  set_same [] i x h = refl
  set_same (y ∷ xs) zero x h = cc
  set_same (y ∷ xs) (suc i) x h = ap (λ l. y ∷ l) (set_same xs i x h)

-- of zeros with something behind them, the last one is set
pub set_last : (k x : ℕ) (loaded : List ℕ) → set (replicate (suc k) 0 ++ loaded) k x ≡ replicate k 0 ++ x ∷ loaded
set_last zero x loaded = refl
set_last (suc k) x loaded = ap (λ l. 0 ∷ l) (set_last k x loaded)
