-- Which rows stay where one is kept or forgotten.
use Rattle.std.{proofs.Common.{◌≡◌, ◌≢◌, ℕ, ◌<◌, ◌≤◌, ◌⊎◌, Bool, true, false, List, [], ◌∷◌, ◌++◌, length, drop, refl, ap, subst, inl, inr, arith}, specs.Prelude.{◌==◌, nat_lt, if◌then◌else◌}}
use Rattle.std.specs.List.{AllByRecursion, Contains}
use Rattle.std.proofs.lemmas.List.Elements.{All-contains, All-contains_itself, All-from_recursion, recursion_from_All, Contains-append_left, Contains-append_right, Contains-push}
use Rattle.std.proofs.lemmas.Bool.Decides.{nat_tests}
use Rattle.sh_logic.proofs.Lists.{all_weaker}
use Rattle.sh_image.specs.Inner.{Inner}
use Rattle.sh_cache.specs.Cached.{added, forgotten, has_low, kept, replaced, IsOldest}

first : (r : Inner) (rows : List Inner) → Contains (r ∷ rows) r
first r rows = Contains-append_left (r ∷ []) rows r (Contains-push [] r)

behind : (r : Inner) (rows : List Inner) (x : Inner) → Contains rows x → Contains (r ∷ rows) x
behind r rows x h = Contains-append_right (r ∷ []) rows x h

all_there : (rows : List Inner) → AllByRecursion (Contains rows) rows
all_there rows = recursion_from_All (Contains rows) rows (All-contains_itself rows)

-- what holds of each row holds of one of them
of_each : (P : Inner → Type 0) (rows : List Inner) (x : Inner) → AllByRecursion P rows → Contains rows x → P x
of_each P rows x h is = All-contains P rows x (All-from_recursion P rows h) is

replaced_stays : (rows : List Inner) (a : Inner) → AllByRecursion (λ (x : Inner). Contains (replaced rows a) x ⊎ (x.low ≡ a.low)) rows
replaced_stays [] a = tt
replaced_stays (r ∷ rows) a = cases (r.low == a.low) refl (replaced_stays rows a)
  where
    cases : (b : Bool) → (r.low == a.low) ≡ b → AllByRecursion (λ (x : Inner). Contains (replaced rows a) x ⊎ (x.low ≡ a.low)) rows → AllByRecursion (λ (x : Inner). Contains (if b then a ∷ rows else r ∷ replaced rows a) x ⊎ (x.low ≡ a.low)) (r ∷ rows)
    cases true e rest = (inr (grind (arith, nat_tests, e)), all_weaker (Contains rows) (λ (x : Inner). Contains (a ∷ rows) x ⊎ (x.low ≡ a.low)) rows (λ x h. inl (behind a rows x h)) (all_there rows))
    cases false e rest = (inl (first r (replaced rows a)), all_weaker (λ (x : Inner). Contains (replaced rows a) x ⊎ (x.low ≡ a.low)) (λ (x : Inner). Contains (r ∷ replaced rows a) x ⊎ (x.low ≡ a.low)) rows (λ x h. elim h [ inl is ↦ inl (behind r (replaced rows a) x is) | inr low ↦ inr low ]) rest)

replaced_here : (rows : List Inner) (a : Inner) → has_low rows a.low ≡ true → Contains (replaced rows a) a
replaced_here [] a h = cc
replaced_here (r ∷ rows) a h = cases (r.low == a.low) h (replaced_here rows a)
  where
    cases : (b : Bool) → (if b then true else has_low rows a.low) ≡ true → (has_low rows a.low ≡ true → Contains (replaced rows a) a) → Contains (if b then a ∷ rows else r ∷ replaced rows a) a
    cases true e rest = first a rows
    cases false e rest = behind r (replaced rows a) a (rest e)

-- a new row goes behind the others, and the oldest of a full cache goes
module _ (room : ℕ) (a : Inner) where
  added_stays : (rows : List Inner) → AllByRecursion (λ (x : Inner). Contains (added room rows a) x ⊎ IsOldest room rows x) rows
  added_stays rows = cases (nat_lt (length rows) room) refl
    where
      behind_oldest : (rows : List Inner) → nat_lt (length rows) room ≡ false → AllByRecursion (λ (x : Inner). Contains (drop 1 (rows ++ a ∷ [])) x ⊎ IsOldest room rows x) rows
      behind_oldest [] e = tt
      behind_oldest (r ∷ rows) e = (inr record { first = refl; full = grind (arith, nat_tests, e) }, all_weaker (Contains rows) (λ (x : Inner). Contains (rows ++ a ∷ []) x ⊎ IsOldest room (r ∷ rows) x) rows (λ x h. inl (Contains-append_left rows (a ∷ []) x h)) (all_there rows))

      cases : (b : Bool) → nat_lt (length rows) room ≡ b → AllByRecursion (λ (x : Inner). Contains (if b then rows ++ a ∷ [] else drop 1 (rows ++ a ∷ [])) x ⊎ IsOldest room rows x) rows
      cases true e = all_weaker (Contains rows) (λ (x : Inner). Contains (rows ++ a ∷ []) x ⊎ IsOldest room rows x) rows (λ x h. inl (Contains-append_left rows (a ∷ []) x h)) (all_there rows)
      cases false e = behind_oldest rows e

  added_here : (rows : List Inner) → 0 < room → Contains (added room rows a) a
  added_here rows some = cases (nat_lt (length rows) room) refl
    where
      behind_oldest : (rows : List Inner) → nat_lt (length rows) room ≡ false → Contains (drop 1 (rows ++ a ∷ [])) a
      behind_oldest [] e = absurd (grind (arith, nat_tests, e, some))
      behind_oldest (r ∷ rows) e = Contains-push rows a

      cases : (b : Bool) → nat_lt (length rows) room ≡ b → Contains (if b then rows ++ a ∷ [] else drop 1 (rows ++ a ∷ [])) a
      cases true e = Contains-push rows a
      cases false e = behind_oldest rows e

  pub kept_here : (rows : List Inner) → 0 < room → Contains (kept room rows a) a
  kept_here rows some = cases (has_low rows a.low) refl
    where
      cases : (b : Bool) → has_low rows a.low ≡ b → Contains (if b then replaced rows a else added room rows a) a
      cases true e = replaced_here rows a e
      cases false e = added_here rows some

  pub kept_stays : (rows : List Inner) (row : Inner) → Contains rows row → Contains (kept room rows a) row ⊎ ((row.low ≡ a.low) ⊎ IsOldest room rows row)
  kept_stays rows row is = cases (has_low rows a.low)
    where
      cases : (b : Bool) → Contains (if b then replaced rows a else added room rows a) row ⊎ ((row.low ≡ a.low) ⊎ IsOldest room rows row)
      cases true = elim (of_each (λ (x : Inner). Contains (replaced rows a) x ⊎ (x.low ≡ a.low)) rows row (replaced_stays rows a) is) [ inl there ↦ inl there | inr low ↦ inr (inl low) ]
      cases false = elim (of_each (λ (x : Inner). Contains (added room rows a) x ⊎ IsOldest room rows x) rows row (added_stays rows) is) [ inl there ↦ inl there | inr old ↦ inr (inr old) ]

forgotten_each : (rows : List Inner) (low : ℕ) → AllByRecursion (λ (x : Inner). Contains (forgotten rows low) x ⊎ (x.low ≡ low)) rows
forgotten_each [] low = tt
forgotten_each (r ∷ rows) low = cases (r.low == low) refl (forgotten_each rows low)
  where
    cases : (b : Bool) → (r.low == low) ≡ b → AllByRecursion (λ (x : Inner). Contains (forgotten rows low) x ⊎ (x.low ≡ low)) rows → AllByRecursion (λ (x : Inner). Contains (if b then rows else r ∷ forgotten rows low) x ⊎ (x.low ≡ low)) (r ∷ rows)
    cases true e rest = (inr (grind (arith, nat_tests, e)), all_weaker (Contains rows) (λ (x : Inner). Contains rows x ⊎ (x.low ≡ low)) rows (λ x h. inl h) (all_there rows))
    cases false e rest = (inl (first r (forgotten rows low)), all_weaker (λ (x : Inner). Contains (forgotten rows low) x ⊎ (x.low ≡ low)) (λ (x : Inner). Contains (r ∷ forgotten rows low) x ⊎ (x.low ≡ low)) rows (λ x h. elim h [ inl is ↦ inl (behind r (forgotten rows low) x is) | inr is ↦ inr is ]) rest)

pub forgotten_stays : (rows : List Inner) (low : ℕ) (row : Inner) → Contains rows row → Contains (forgotten rows low) row ⊎ (row.low ≡ low)
forgotten_stays rows low row is = of_each (λ (x : Inner). Contains (forgotten rows low) x ⊎ (x.low ≡ low)) rows row (forgotten_each rows low) is

forgotten_fewer : (rows : List Inner) (low : ℕ) → length (forgotten rows low) ≤ length rows
forgotten_fewer [] low = omega arith
forgotten_fewer (r ∷ rows) low = cases (r.low == low) (forgotten_fewer rows low)
  where
    cases : (b : Bool) → length (forgotten rows low) ≤ length rows → length (if b then rows else r ∷ forgotten rows low) ≤ length (r ∷ rows)
    cases true h = omega arith
    cases false h = omega (arith, h)

-- where as many rows are left, none was forgotten
none_forgotten : (rows : List Inner) (low : ℕ) → length rows ≡ length (forgotten rows low) → forgotten rows low ≡ rows
none_forgotten [] low h = refl
none_forgotten (r ∷ rows) low h = cases (r.low == low) h (none_forgotten rows low)
  where
    cases : (b : Bool) → length (r ∷ rows) ≡ length (if b then rows else r ∷ forgotten rows low) → (length rows ≡ length (forgotten rows low) → forgotten rows low ≡ rows) → (if b then rows else r ∷ forgotten rows low) ≡ r ∷ rows
    cases true e rest = absurd (omega (arith, e))
    cases false e rest = ap (λ (l : List Inner). r ∷ l) (rest (omega (arith, e)))

-- the oldest row of a cache that is still full behind a forget was so before
pub oldest_before : (room : ℕ) (rows : List Inner) (low : ℕ) (row : Inner) → length rows ≤ room → IsOldest room (forgotten rows low) row → IsOldest room rows row
oldest_before room rows low row within h = subst (λ (l : List Inner). IsOldest room l row) (none_forgotten rows low (omega (arith, within, h.full, forgotten_fewer rows low))) h

-- of rows that lack a low fence none has it
pub lacks_each : (rows : List Inner) (low : ℕ) (row : Inner) → has_low rows low ≡ false → Contains rows row → row.low ≢ low
lacks_each rows low row h is = of_each (λ (x : Inner). x.low ≢ low) rows row (lacking rows h) is
  where
    lacking : (rows : List Inner) → has_low rows low ≡ false → AllByRecursion (λ (x : Inner). x.low ≢ low) rows
    lacking [] h = tt
    lacking (r ∷ rows) h = ((λ e. grind (arith, nat_tests, h, e)), lacking rows (grind (arith, nat_tests, h)))
