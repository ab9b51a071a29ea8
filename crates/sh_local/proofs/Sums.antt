-- Sums over views, and functions that are changed at one place.
use Rattle.std.proofs.Common.{rules, ◌≡◌, ◌≢◌, ℕ, zero, suc, ◌+◌, ◌<◌, ◌≤◌, ◌==◌, if◌then◌else◌, List, [], ◌∷◌, ◌++◌, length, set, refl, ap, sym, ◌∙◌, subst, arith, eq-eqb, ne_eqb}
use mathlib.Core.Option.{some, some-injective, some-ne-none}
use lib.ListN.{get_elem?}
use Rattle.sh_local.specs.Calls.{total}

module _ {A : Type 0} (f : A → ℕ) where
  pub total_set : (xs : List A) (i : ℕ) (a b : A) → get_elem? xs i ≡ some a → total f (set xs i b) + f a ≡ total f xs + f b
  total_set [] i a b e = absurd (some-ne-none a (sym e))
  total_set (x ∷ xs) zero a b e = let q : f x ≡ f a = ap f (some-injective x a e) in omega arith
  total_set (x ∷ xs) (suc i) a b e = let k = total_set xs i a b e in omega arith

  pub total_append : (xs ys : List A) → total f (xs ++ ys) ≡ total f xs + total f ys
  total_append [] ys = omega arith
  total_append (x ∷ xs) ys = let k = total_append xs ys in omega arith

  pub total_snoc : (xs : List A) (y : A) → total f (xs ++ y ∷ []) ≡ total f xs + f y
  total_snoc xs y = let k = total_append xs (y ∷ []) in omega arith

  pub total_le : (g : A → ℕ) (xs : List A) → ((i : ℕ) (a : A) → get_elem? xs i ≡ some a → f a ≤ g a) → total f xs ≤ total g xs
  total_le g [] h = omega arith
  total_le g (x ∷ xs) h = let k : total f xs ≤ total g xs = total_le g xs (λ i. h (suc i)) in let j : f x ≤ g x = h zero x refl in omega arith

  pub total_none : (xs : List A) → ((i : ℕ) (a : A) → get_elem? xs i ≡ some a → f a ≡ 0) → total f xs ≡ 0
  total_none [] h = refl
  total_none (x ∷ xs) h = let k : total f xs ≡ 0 = total_none xs (λ i. h (suc i)) in let j : f x ≡ 0 = h zero x refl in omega arith

  pub total_alone : (xs : List A) (i : ℕ) (a : A) → get_elem? xs i ≡ some a → ((j : ℕ) (b : A) → j ≢ i → get_elem? xs j ≡ some b → f b ≡ 0) → total f xs ≡ f a
  total_alone [] i a e h = absurd (some-ne-none a (sym e))
  total_alone (x ∷ xs) zero a e h = let q : f x ≡ f a = ap f (some-injective x a e) in let k : total f xs ≡ 0 = total_none xs (λ j b. h (suc j) b (omega arith)) in omega arith
  total_alone (x ∷ xs) (suc i) a e h = let k : total f xs ≡ f a = total_alone xs i a e (λ j b n. h (suc j) b (λ z. n (omega arith))) in let j : f x ≡ 0 = h zero x (omega arith) refl in omega arith

  pub total_part : (xs : List A) (i : ℕ) (a : A) → get_elem? xs i ≡ some a → f a ≤ total f xs
  total_part [] i a e = absurd (some-ne-none a (sym e))
  total_part (x ∷ xs) zero a e = let q : f x ≡ f a = ap f (some-injective x a e) in omega arith
  total_part (x ∷ xs) (suc i) a e = let k : f a ≤ total f xs = total_part xs i a e in omega arith

module _ {A : Type 0} where
  abbrev pub put : (ℕ → A) → ℕ → A → ℕ → A
  put f c x d = if d == c then x else f d

  pub put_here : (f : ℕ → A) (c : ℕ) (x : A) → put f c x c ≡ x
  put_here f c x = subst (λ b. (if b then x else f c) ≡ x) (sym (eq-eqb c c refl)) refl

  pub put_else : (f : ℕ → A) (c : ℕ) (x : A) (d : ℕ) → d ≢ c → put f c x d ≡ f d
  put_else f c x d n = subst (λ b. (if b then x else f d) ≡ f d) (sym (ne_eqb d c n)) refl

  pub at_put : (P : A → Type 0) (f : ℕ → A) (c : ℕ) (x : A) (d : ℕ) → (d ≡ c → P x) → (d ≢ c → P (f d)) → P (put f c x d)
  at_put h0 f c x d here else_ = search (rules, put_here, put_else)

  pub same_at : (xs : List A) (i : ℕ) (a b : A) → get_elem? xs i ≡ some a → get_elem? xs i ≡ some b → a ≡ b
  same_at xs i a b e f = some-injective a b (sym e ∙ f)

  pub at_lt : (xs : List A) (i : ℕ) (a : A) → get_elem? xs i ≡ some a → i < length xs
  at_lt [] i a e = absurd (some-ne-none a (sym e))
  at_lt (x ∷ xs) zero a e = omega arith
  at_lt (x ∷ xs) (suc i) a e = let k : i < length xs = at_lt xs i a e in omega arith

  pub there : (xs : List A) (i : ℕ) → i < length xs → (a : A) × (get_elem? xs i ≡ some a)
  there [] i h = absurd (omega arith)
  there (x ∷ xs) zero h = (x, refl)
  there (x ∷ xs) (suc i) h = there xs i (omega arith)
