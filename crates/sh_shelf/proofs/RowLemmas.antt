-- The rows of offers.
use Rattle.std.proofs.{Common.{rules, ◌≡◌, ◌≢◌, ℕ, zero, suc, ◌+◌, ◌<◌, ◌≤◌, get_or, sym, subst, ◌∙◌, Bool, true, false, List, [], ◌∷◌, ◌++◌, length, refl, ap, inl, inr, length-append, length-drop, zero-le, arith}, lemmas.{Bool.{cases_lt}, List.Sums.{fold-append}, List.Elements.{All-contains_itself, recursion_from_All}}}
use Rattle.std.specs.{Prelude.{◌==◌, if◌then◌else◌, slice_index, Some}, List.{fold, AllByRecursion, Contains}}
use Rattle.sh_logic.proofs.Tests.{less_test, not_less_test}
use Rattle.sh_image.specs.Inner.{Inner}
use Rattle.sh_cache.{specs.{Cached.{added, found, kept, replaced, HaveOwnLows}, Columns.{lows_of}}, proofs.{FindLemmas.{found_has}, RowLemmas.{apart_kept, kept_all}}}
use Rattle.sh_shelf.specs.Shelf.{shelf_of}

length_replaced : (rows : List Inner) (a : Inner) → length (replaced rows a) ≡ length rows
length_replaced [] a = refl
length_replaced (r ∷ rows) a = cases (r.low == a.low) (length_replaced rows a)
  where
    cases : (b : Bool) → length (replaced rows a) ≡ length rows → length (if b then a ∷ rows else r ∷ replaced rows a) ≡ suc (length rows)
    cases true rest = refl
    cases false rest = ap suc rest

module _ (room : ℕ) where
  length_added : (rows : List Inner) (a : Inner) → length rows ≤ room → length (added room rows a) ≤ room
  length_added rows a h = elim (cases_lt (length rows) room) [
    | inl below ↦ rw (less_test (length rows) room below) (omega (arith, length-append rows (a ∷ [])))
    | inr from ↦ rw (not_less_test (length rows) room from) (omega (arith, length-drop 1 (rows ++ a ∷ []), length-append rows (a ∷ [])))
  ]

  pub length_kept : (rows : List Inner) (a : Inner) → length rows ≤ room → length (kept room rows a) ≤ room
  length_kept rows a h = search (rules, length_replaced, length_added)

  length_after : (rows offers : List Inner) → length rows ≤ room → length (fold (kept room) rows offers) ≤ room
  length_after rows [] h = h
  length_after rows (r ∷ offers) h = length_after (kept room rows r) offers (length_kept rows r h)

  apart_after : (rows offers : List Inner) → HaveOwnLows rows → HaveOwnLows (fold (kept room) rows offers)
  apart_after rows [] h = h
  apart_after rows (r ∷ offers) h = apart_after (kept room rows r) offers (apart_kept room rows r h)

  all_after : (P : Inner → Type 0) (rows offers : List Inner) → AllByRecursion P offers → AllByRecursion P rows → AllByRecursion P (fold (kept room) rows offers)
  all_after P rows [] h k = k
  all_after P rows (r ∷ offers) h k = all_after P (kept room rows r) offers h.1 (kept_all P room rows r k h.0)

  module _ (offers : List Inner) where
    pub shelf_more : (r : Inner) → shelf_of room (offers ++ r ∷ []) ≡ kept room (shelf_of room offers) r
    unfolding shelf_of
    shelf_more r = fold-append (kept room) [] offers (r ∷ [])

    pub length_shelf : length (shelf_of room offers) ≤ room
    unfolding shelf_of
    length_shelf = length_after [] offers zero-le

    pub apart_shelf : HaveOwnLows (shelf_of room offers)
    unfolding shelf_of
    apart_shelf = apart_after [] offers tt

    pub found_offered : (key : ℕ) (r : Inner) → found (shelf_of room offers) key ≡ Some r → Contains offers r
    unfolding shelf_of
    found_offered key r is = found_has (Contains offers) (shelf_of room offers) key r is (all_after (Contains offers) [] offers (recursion_from_All (Contains offers) offers (All-contains_itself offers)) tt)

pub shelf_none : (room : ℕ) → shelf_of room [] ≡ []
unfolding shelf_of
shelf_none room = refl

low_is : (rows : List Inner) (at : ℕ) (r : Inner) → at < length rows → r ≡ get_or rows at r → slice_index (lows_of rows) at ≡ r.low
low_is [] at r within is = absurd (omega arith)
low_is (s ∷ rows) zero r within is = sym (ap (λ (x : Inner). x.low) is)
low_is (s ∷ rows) (suc at) r within is = low_is rows at r (omega arith) is

-- a row with another low fence
pub lacks_more : (rows : List Inner) (low at : ℕ) (r : Inner) → at < length rows → r ≡ get_or rows at r → r.low ≢ low → ((i : ℕ) → i < at → slice_index (lows_of rows) i ≢ low) → (i : ℕ) → i < at + 1 → slice_index (lows_of rows) i ≢ low
lacks_more rows low at r within is other before i below e = elim (cases_lt i at) [
  | inl b ↦ before i b e
  | inr f ↦ let here : at ≡ i = omega arith in other (sym (low_is rows at r within is) ∙ subst (λ k. slice_index (lows_of rows) k ≡ low) (sym here) e)
]
