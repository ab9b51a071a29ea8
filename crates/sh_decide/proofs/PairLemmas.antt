-- Whether a pair has a separator, pair by pair.
use Rattle.std.{proofs.{Common.{◌≡◌, ◌≢◌, ℕ, zero, suc, ◌+◌, ◌≤◌, true, false, List, [], ◌∷◌, length, drop, Some, refl, add-one, arith}, lemmas.Bool.Decides.{nat_tests}}, specs.Prelude.{slice_get}}
use Rattle.std.proofs.lemmas.Option.{slice_get_within}
use Rattle.sh_image.specs.declared.inner.Pair.{Pair}
use Rattle.sh_decide.specs.Deciding.{has_separator}

module _ (separator : ℕ) (x : Pair) where
  skip : (ps : List Pair) (at : ℕ) → slice_get ps at ≡ Some x → x.separator ≢ separator → has_separator (drop at ps) separator ≡ has_separator (drop (suc at) ps) separator
  skip [] at is apart = absurd (omega (arith, slice_get_within [] at x is))
  skip (y ∷ ps) zero is apart = grind (arith, nat_tests)
  skip (y ∷ ps) (suc at) is apart = skip ps at is apart

  pub separator_step : (ps : List Pair) (at : ℕ) → slice_get ps at ≡ Some x → x.separator ≢ separator → has_separator (drop at ps) separator ≡ has_separator (drop (at + 1) ps) separator
  separator_step ps at is apart = rw (add-one at) (skip ps at is apart)

  pub separator_stop : (ps : List Pair) (at : ℕ) → slice_get ps at ≡ Some x → x.separator ≡ separator → true ≡ has_separator (drop at ps) separator
  separator_stop [] at is here = absurd (omega (arith, slice_get_within [] at x is))
  separator_stop (y ∷ ps) zero is here = grind (arith, nat_tests)
  separator_stop (y ∷ ps) (suc at) is here = separator_stop ps at is here

pub separator_end : (separator : ℕ) (ps : List Pair) (at : ℕ) → length ps ≤ at → false ≡ has_separator (drop at ps) separator
separator_end separator [] zero h = refl
separator_end separator [] (suc at) h = refl
separator_end separator (x ∷ ps) zero h = absurd (omega arith)
separator_end separator (x ∷ ps) (suc at) h = separator_end separator ps at (omega arith)
