-- Different numbers from 1 up to a limit aren't more than the limit.
use Rattle.std.{proofs.{Common.{◌≡◌, ◌≢◌, ℕ, zero, suc, ◌<◌, ◌≤◌, sym, ◌∙◌, inl, inr, arith, ne_eqb, eq-eqb}, lemmas.Bool.{cases_eq}}, specs.Prelude.{◌==◌, if◌then◌else◌}}

-- the limit's place is taken by the last number
moved : (ℕ → ℕ) → (limit last : ℕ) → ℕ → ℕ
moved f limit last i = if f i == limit then last else f i

moved_here : (f : ℕ → ℕ) (limit last i : ℕ) → f i ≡ limit → moved f limit last i ≡ last
unfolding moved
moved_here f limit last i e = rw (eq-eqb (f i) limit e)

moved_else : (f : ℕ → ℕ) (limit last i : ℕ) → f i ≢ limit → moved f limit last i ≡ f i
unfolding moved
moved_else f limit last i ne = rw (ne_eqb (f i) limit ne)

pub at_most : (k limit : ℕ) (f : ℕ → ℕ) → ((i : ℕ) → i < k → (1 ≤ f i) × (f i ≤ limit)) → ((i j : ℕ) → i < j → j < k → f i ≢ f j) → k ≤ limit
at_most zero limit f within apart = omega arith
at_most (suc k) zero f within apart = let w = within 0 (omega arith) in absurd (omega (arith, w.0, w.1))
at_most (suc k) (suc limit) f within apart =
    let v : ℕ = f k in
    let g : ℕ → ℕ = moved f (suc limit) v in
    let last = within k (omega arith) in
    let in_range : (i : ℕ) → i < k → (1 ≤ g i) × (g i ≤ limit) = λ i lt. elim (cases_eq (f i) (suc limit)) [
      | inl e ↦ let is = moved_here f (suc limit) v i e in let ne = apart i k lt (omega arith) in (omega (arith, is, last.0), omega (arith, is, last.1, ne, e))
      | inr ne ↦ let is = moved_else f (suc limit) v i ne in let w = within i (omega arith) in (omega (arith, is, w.0), omega (arith, is, w.1, ne))
    ] in
    let differ : (i j : ℕ) → i < j → j < k → g i ≢ g j = λ i j lt below same. elim (cases_eq (f i) (suc limit)) [
      | inl e ↦ let is = moved_here f (suc limit) v i e in elim (cases_eq (f j) (suc limit)) [
        | inl q ↦ apart i j lt (omega arith) (e ∙ sym q)
        | inr ne ↦ apart j k below (omega arith) (sym (moved_else f (suc limit) v j ne) ∙ sym same ∙ is)
      ]
      | inr ne ↦ let is = moved_else f (suc limit) v i ne in elim (cases_eq (f j) (suc limit)) [
        | inl q ↦ apart i k (omega arith) (omega arith) (sym is ∙ same ∙ moved_here f (suc limit) v j q)
        | inr nj ↦ apart i j lt (omega arith) (sym is ∙ same ∙ moved_else f (suc limit) v j nj)
      ]
    ] in
    let less = at_most k limit g in_range differ in
    omega (arith, less)
