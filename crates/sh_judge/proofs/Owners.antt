-- The owners of places, with one call more.
use Rattle.std.proofs.Common.{rules, ℕ, ◌≡◌, ◌≢◌, ◌≤◌, ◌<◌, ◌∙◌, Bool, true, false, List, [], ◌∷◌, ◌++◌, length, get_or, set, Option, Some, None, inl, inr, ap, sym, subst, take, ◌+◌, arith, if◌then◌else◌}
use Rattle.std.{specs.{Prelude.{find}, List.{slice_get}, Option.{option_or}}, proofs.lemmas.Bool.{cases_lt, cases_eq, Decides.{nat_tests}}}
use Rattle.std.proofs.lemmas.{List.{get_or_default, take_more, get_or-set_same, get_or-set_other, length-set, Folds.{find-append}}, Option.{slice_get_past, slice_get-get_or}}
use Rattle.sh_map.specs.declared.book.Done.{Done}
use Rattle.sh_judge.specs.{Places.{is_at}, Tables.{AreOwners, is_placed_below}}

module _ (n : ℕ) (all dones : List Done) (d : Done) (owners : List ℕ) (was : AreOwners n all dones owners) where
  found_more : (p : ℕ) (t : Bool) → is_at p d ≡ t → find (is_at p) (dones ++ d ∷ []) ≡ option_or (find (is_at p) dones) (if t then Some d else None)
  found_more p t e = search (rules, find-append)

  none_more : (x : Option Done) → option_or x None ≡ x
  none_more x = search rules

  found_kept : (p : ℕ) → is_at p d ≡ false → find (is_at p) dones ≡ find (is_at p) (dones ++ d ∷ [])
  found_kept p e = sym (found_more p false e ∙ none_more (find (is_at p) dones))

  not_at : is_placed_below n d ≡ false → (p : ℕ) → p < n → is_at p d ≡ false
  not_at e p small = grind (arith, nat_tests)

  -- a call without a place below n
  pub owners_kept : is_placed_below n d ≡ false → AreOwners n all (dones ++ d ∷ []) owners
  owners_kept e = record { long = was.long; each = λ p small. was.each p small ∙ found_kept p (not_at e p small) }

  module _ (below : is_placed_below n d ≡ true) (at : ℕ) (here : slice_get all at ≡ Some d) (owner : ℕ)
      (owned : get_or owners d.point 0 < length all → owner ≡ get_or owners d.point 0) (free : length all ≤ get_or owners d.point 0 → owner ≡ at) where
    is_small : d.point < n
    is_small = grind (arith, nat_tests)

    is_here : is_at d.point d ≡ true
    is_here = grind (arith, nat_tests)

    not_here : (p : ℕ) → p ≢ d.point → is_at p d ≡ false
    not_here p differ = grind (arith, nat_tests)

    place : slice_get all owner ≡ find (is_at d.point) (dones ++ d ∷ [])
    place = elim (cases_lt (get_or owners d.point 0) (length all)) [
      | inl less ↦
          let old = was.each d.point is_small in
          let some = slice_get-get_or all (get_or owners d.point 0) d less in
          ap (slice_get all) (owned less) ∙ some ∙ sym (found_more d.point true is_here ∙ ap (λ x. option_or x (Some d)) (sym old ∙ some))
      | inr more ↦
          let old = was.each d.point is_small in
          let none = slice_get_past all (get_or owners d.point 0) more in
          ap (slice_get all) (free more) ∙ here ∙ sym (found_more d.point true is_here ∙ ap (λ x. option_or x (Some d)) (sym old ∙ none))
    ]

    -- a call with a place below n
    pub owners_set : AreOwners n all (dones ++ d ∷ []) (set owners d.point owner)
    owners_set = record {
      long = length-set owners d.point owner ∙ was.long;
      each = λ p small. elim (cases_eq p d.point) [
        | inl same ↦ rw same (ap (slice_get all) (get_or-set_same owners d.point owner 0 (omega (arith, is_small, was.long))) ∙ place)
        | inr differ ↦ ap (slice_get all) (get_or-set_other owners d.point p owner 0 differ) ∙ was.each p small ∙ found_kept p (not_here p differ)
      ];
    }

-- the same, of the call at a place
module _ (n : ℕ) (all : List Done) (at : ℕ) (d : Done) (owners : List ℕ) (was : AreOwners n all (take at all) owners) (within : at < length all) (is : d ≡ get_or all at d) where
  one_more : take at all ++ d ∷ [] ≡ take (at + 1) all
  one_more = sym (take_more all at d within ∙ ap (λ x. take at all ++ x ∷ []) (sym is))

  pub owners_kept_at : is_placed_below n d ≡ false → AreOwners n all (take (at + 1) all) owners
  owners_kept_at e = subst (λ l. AreOwners n all l owners) one_more (owners_kept n all (take at all) d owners was e)

  pub owners_set_at : is_placed_below n d ≡ true → (owner old : ℕ) → old ≡ get_or owners d.point old → (old < length all → owner ≡ old) → (length all ≤ old → owner ≡ at) → AreOwners n all (take (at + 1) all) (set owners d.point owner)
  owners_set_at e owner old read owned free =
      let small : d.point < n = grind (arith, nat_tests) in
      let same : get_or owners d.point 0 ≡ old = get_or_default owners d.point 0 old (omega (arith, small, was.long)) ∙ sym read in
      subst (λ l. AreOwners n all l (set owners d.point owner)) one_more (owners_set n all (take at all) d owners was e at (slice_get-get_or all at d within ∙ ap Some (sym is)) owner
      (λ less. owned (omega (arith, less, same)) ∙ sym same) (λ more. free (omega (arith, more, same))))
