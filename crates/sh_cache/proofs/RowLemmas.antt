-- Rows by their low fences.
use Rattle.std.proofs.{Common.{rules, ◌≡◌, ℕ, zero, suc, ◌<◌, ◌⊎◌, Bool, true, false, List, [], ◌∷◌, ◌++◌, length, drop, refl, ap, ◌∙◌, inl, inr, arith}, lemmas.Bool.{cases_lt}}
use Rattle.std.specs.{Prelude.{◌==◌, ◌||◌, nat_lt, if◌then◌else◌, slice_set}, List.{remove, AllByRecursion, Contains}}
use Rattle.std.proofs.lemmas.{List.Elements.{All-contains, All-contains_itself, All-from_recursion, recursion_from_All}, Bool.Decides.{nat_tests}}
use Rattle.sh_logic.proofs.{Lists.{all_drop, all_join, all_weaker}, Tests.{less_test, not_less_test, same_test, differ_test}}
use Rattle.sh_lanes.specs.Scans.{LacksWord, IsFirst}
use Rattle.sh_image.specs.Inner.{Inner}
use Rattle.sh_cache.specs.{Cached.{added, forgotten, has_low, kept, replaced, HaveOwnLows}, Columns.{lows_of, with_room}}

-- a row behind the first one
next : (r : Inner) (rows : List Inner) {low i : ℕ} → IsFirst (lows_of (r ∷ rows)) low (suc i) → IsFirst (lows_of rows) low i
next r rows h = record { in_range = omega (arith, h.in_range); here = h.here; before = λ j b. h.before (suc j) (omega arith) }

pub no_low : (rows : List Inner) (low : ℕ) → LacksWord (lows_of rows) low → has_low rows low ≡ false
no_low [] low h = refl
no_low (r ∷ rows) low h = rw (differ_test r.low low (h 0 (omega arith))) (no_low rows low (λ i b. h (suc i) (omega arith)))

pub some_low : (rows : List Inner) (low i : ℕ) → IsFirst (lows_of rows) low i → has_low rows low ≡ true
some_low [] low i h = absurd (omega (arith, h.in_range))
some_low (r ∷ rows) low zero h = rw (same_test r.low low h.here) refl
some_low (r ∷ rows) low (suc i) h = rw (differ_test r.low low (h.before 0 (omega arith))) (some_low rows low i (next r rows h))

pub replaced_is : (rows : List Inner) (a : Inner) (i : ℕ) → IsFirst (lows_of rows) a.low i → slice_set rows i a ≡ replaced rows a
replaced_is [] a i h = absurd (omega (arith, h.in_range))
replaced_is (r ∷ rows) a zero h = rw (same_test r.low a.low h.here) refl
replaced_is (r ∷ rows) a (suc i) h = rw (differ_test r.low a.low (h.before 0 (omega arith))) (ap (λ l. r ∷ l) (replaced_is rows a i (next r rows h)))

pub forgotten_is : (rows : List Inner) (low i : ℕ) → IsFirst (lows_of rows) low i → remove rows i ≡ forgotten rows low
forgotten_is [] low i h = absurd (omega (arith, h.in_range))
forgotten_is (r ∷ rows) low zero h = rw (same_test r.low low h.here) refl
forgotten_is (r ∷ rows) low (suc i) h = rw (differ_test r.low low (h.before 0 (omega arith))) (ap (λ l. r ∷ l) (forgotten_is rows low i (next r rows h)))

pub forgotten_none : (rows : List Inner) (low : ℕ) → LacksWord (lows_of rows) low → forgotten rows low ≡ rows
forgotten_none [] low h = refl
forgotten_none (r ∷ rows) low h = rw (differ_test r.low low (h 0 (omega arith))) (ap (λ l. r ∷ l) (forgotten_none rows low (λ i b. h (suc i) (omega arith))))

low_replaced : (rows : List Inner) (a : Inner) (low : ℕ) → has_low (replaced rows a) low ≡ has_low rows low
low_replaced [] a low = refl
low_replaced (r ∷ rows) a low = grind (arith, nat_tests, low_replaced rows a low)

low_added : (rows : List Inner) (a : Inner) (low : ℕ) → has_low (rows ++ a ∷ []) low ≡ (has_low rows low || (a.low == low))
low_added [] a low = grind (arith, nat_tests)
low_added (r ∷ rows) a low = grind (arith, nat_tests, low_added rows a low)

low_forgotten : (rows : List Inner) (gone low : ℕ) → has_low rows low ≡ false → has_low (forgotten rows gone) low ≡ false
low_forgotten [] gone low h = refl
low_forgotten (r ∷ rows) gone low h = grind (arith, nat_tests, h, low_forgotten rows gone low)

pub apart_replaced : (rows : List Inner) (a : Inner) → HaveOwnLows rows → HaveOwnLows (replaced rows a)
apart_replaced [] a h = h
apart_replaced (r ∷ rows) a h = cases (r.low == a.low) refl (apart_replaced rows a h.1)
  where
    cases : (b : Bool) → (r.low == a.low) ≡ b → HaveOwnLows (replaced rows a) → HaveOwnLows (if b then a ∷ rows else r ∷ replaced rows a)
    cases true e rest = (grind (arith, nat_tests, e, h.0), h.1)
    cases false e rest = (low_replaced rows a r.low ∙ h.0, rest)

pub apart_pushed : (rows : List Inner) (a : Inner) → has_low rows a.low ≡ false → HaveOwnLows rows → HaveOwnLows (rows ++ a ∷ [])
apart_pushed [] a h all = (refl, tt)
apart_pushed (r ∷ rows) a h all = (grind (arith, nat_tests, low_added rows a r.low, all.0, h), apart_pushed rows a (grind (arith, nat_tests, h)) all.1)

apart_tail : (rows : List Inner) → HaveOwnLows rows → HaveOwnLows (drop 1 rows)
apart_tail rows h = search rules

low_remove : (rows : List Inner) (i low : ℕ) → has_low rows low ≡ false → has_low (remove rows i) low ≡ false
low_remove [] zero low h = h
low_remove [] (suc i) low h = h
low_remove (r ∷ rows) zero low h = grind (arith, nat_tests, h)
low_remove (r ∷ rows) (suc i) low h = grind (arith, nat_tests, h, low_remove rows i low)

pub apart_remove : (rows : List Inner) (i : ℕ) → HaveOwnLows rows → HaveOwnLows (remove rows i)
apart_remove [] zero h = h
apart_remove [] (suc i) h = h
apart_remove (r ∷ rows) zero h = h.1
apart_remove (r ∷ rows) (suc i) h = (low_remove rows i r.low h.0, apart_remove rows i h.1)

pub apart_forgotten : (rows : List Inner) (low : ℕ) → HaveOwnLows rows → HaveOwnLows (forgotten rows low)
apart_forgotten [] low h = h
apart_forgotten (r ∷ rows) low h = cases (r.low == low) (apart_forgotten rows low h.1)
  where
    cases : (b : Bool) → HaveOwnLows (forgotten rows low) → HaveOwnLows (if b then rows else r ∷ forgotten rows low)
    cases true rest = h.1
    cases false rest = (low_forgotten rows low r.low h.0, rest)

pub forgotten_gone : (rows : List Inner) (low : ℕ) → HaveOwnLows rows → has_low (forgotten rows low) low ≡ false
forgotten_gone [] low h = refl
forgotten_gone (r ∷ rows) low h = cases (r.low == low) refl (forgotten_gone rows low h.1)
  where
    cases : (b : Bool) → (r.low == low) ≡ b → has_low (forgotten rows low) low ≡ false → has_low (if b then rows else r ∷ forgotten rows low) low ≡ false
    cases true e rest = grind (arith, nat_tests, e, h.0)
    cases false e rest = rw e rest

apart_added : (room : ℕ) (rows : List Inner) (a : Inner) → has_low rows a.low ≡ false → HaveOwnLows rows → HaveOwnLows (added room rows a)
apart_added room rows a h all = search (rules, cases_lt, less_test, apart_pushed, not_less_test, apart_tail)

pub apart_kept : (room : ℕ) (rows : List Inner) (a : Inner) → HaveOwnLows rows → HaveOwnLows (kept room rows a)
apart_kept room rows a h = search (rules, apart_replaced, apart_added)

-- what holds of each row, and of one that is kept, holds of each row behind a keep or a forget
module _ (P : Inner → Type 0) where
  all_replaced : (rows : List Inner) (a : Inner) → AllByRecursion P rows → P a → AllByRecursion P (replaced rows a)
  all_replaced [] a h new = h
  all_replaced (r ∷ rows) a h new = cases (r.low == a.low) (all_replaced rows a h.1 new)
    where
      cases : (b : Bool) → AllByRecursion P (replaced rows a) → AllByRecursion P (if b then a ∷ rows else r ∷ replaced rows a)
      cases true rest = (new, h.1)
      cases false rest = (h.0, rest)

  all_added : (room : ℕ) (rows : List Inner) (a : Inner) → AllByRecursion P rows → P a → AllByRecursion P (added room rows a)
  all_added room rows a h new = search (rules, all_join, all_drop)

  pub kept_all : (room : ℕ) (rows : List Inner) (a : Inner) → AllByRecursion P rows → P a → AllByRecursion P (kept room rows a)
  kept_all room rows a h new = search (rules, all_replaced, all_added)

  pub forgotten_all : (rows : List Inner) (low : ℕ) → AllByRecursion P rows → AllByRecursion P (forgotten rows low)
  forgotten_all [] low h = h
  forgotten_all (r ∷ rows) low h = cases (r.low == low) (forgotten_all rows low h.1)
    where
      cases : (b : Bool) → AllByRecursion P (forgotten rows low) → AllByRecursion P (if b then rows else r ∷ forgotten rows low)
      cases true rest = h.1
      cases false rest = (h.0, rest)

-- a row was a row before, or is the one that is kept
pub kept_was : (room : ℕ) (rows : List Inner) (a r : Inner) → Contains (kept room rows a) r → Contains rows r ⊎ (r ≡ a)
kept_was room rows a r is =
    let P : Inner → Type 0 = λ x. Contains rows x ⊎ (x ≡ a) in
    let before = all_weaker (Contains rows) P rows (λ x h. inl h) (recursion_from_All (Contains rows) rows (All-contains_itself rows)) in
    All-contains P (kept room rows a) r (All-from_recursion P (kept room rows a) (kept_all P room rows a before (inr refl))) is

pub forgotten_was : (rows : List Inner) (low : ℕ) (r : Inner) → Contains (forgotten rows low) r → Contains rows r
forgotten_was rows low r is =
    let before = recursion_from_All (Contains rows) rows (All-contains_itself rows) in
    All-contains (Contains rows) (forgotten rows low) r (All-from_recursion (Contains rows) (forgotten rows low) (forgotten_all (Contains rows) rows low before)) is

pub kept_there : (room : ℕ) (rows : List Inner) (a : Inner) (i : ℕ) → IsFirst (lows_of rows) a.low i → slice_set rows i a ≡ kept room rows a
kept_there room rows a i h = rw (some_low rows a.low i h) (replaced_is rows a i h)

pub kept_new : (room : ℕ) (rows : List Inner) (a : Inner) → 0 < room → LacksWord (lows_of rows) a.low → with_room room rows ++ a ∷ [] ≡ kept room rows a
kept_new room rows a some h = search (rules, no_low)

-- a low fence that no row has
pub lacks_behind : (room : ℕ) (rows : List Inner) (low : ℕ) → LacksWord (lows_of rows) low → LacksWord (lows_of (with_room room rows)) low
lacks_behind room rows low h = cases (nat_lt (length rows) room)
  where
    tail : (rows : List Inner) → LacksWord (lows_of rows) low → LacksWord (lows_of (drop 1 rows)) low
    tail [] h = h
    tail (r ∷ rows) h = λ i below. h (suc i) (omega arith)

    cases : (b : Bool) → LacksWord (lows_of (if b then rows else drop 1 rows)) low
    cases true = h
    cases false = tail rows h
