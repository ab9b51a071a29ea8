-- The row that is found, row by row.
use Rattle.std.proofs.Common.{rules, ◌≡◌, ℕ, zero, suc, ◌+◌, ◌<◌, ◌≤◌, ◌⊎◌, Bool, true, false, List, [], ◌∷◌, length, drop, refl, ap, sym, subst, inl, inr, arith}
use Rattle.std.specs.{Prelude.{◌&&◌, nat_lt, if◌then◌else◌, slice_get, Option, Some, None}, List.{AllByRecursion}}
use mathlib.Core.Bool.{false≢true}
use Rattle.std.proofs.lemmas.{Bool.Decides.{nat_tests}, List.{drop_more}}
use Rattle.sh_logic.proofs.Tests.{and_true}
use Rattle.sh_image.specs.Inner.{Inner}
use Rattle.sh_cache.specs.{Cached.{better, covers, found, found_from, FoundBy}, Columns.{no_row, row_in}}

pub found_step : (rows : List Inner) (i : ℕ) (best : Option Inner) (key : ℕ) → i < length rows → found_from best (drop i rows) key ≡ found_from (better best (row_in rows i) key) (drop (i + 1) rows) key
found_step rows i best key below = ap (λ l. found_from best l key) (drop_more rows i no_row below)

record Place (rows : List Inner) (a : Inner) : Type 0 where
  index : ℕ
  here : slice_get rows index ≡ Some a

-- what is found where a row that covers the key was found before
record IsFrom (rows : List Inner) (key : ℕ) (best : Inner) (o : Option Inner) : Type 0 where
  row : Inner
  is : o ≡ Some row
  covering : covers row key ≡ true
  not_below : best.low ≤ row.low
  greatest : AllByRecursion (λ (r : Inner). covers r key ≡ true → r.low ≤ row.low) rows
  place : (row ≡ best) ⊎ Place rows row

from_some : (rows : List Inner) (best : Inner) (key : ℕ) → covers best key ≡ true → IsFrom rows key best (found_from (Some best) rows key)
from_some [] best key h = record { row = best; is = refl; covering = h; not_below = omega arith; greatest = tt; place = inl refl }
from_some (r ∷ rows) best key h = cases (covers r key && nat_lt best.low r.low) refl (from_some rows r key) (from_some rows best key h)
  where
    cases : (b : Bool) → (covers r key && nat_lt best.low r.low) ≡ b → (covers r key ≡ true → IsFrom rows key r (found_from (Some r) rows key)) → IsFrom rows key best (found_from (Some best) rows key) → IsFrom (r ∷ rows) key best (found_from (if b then Some r else Some best) rows key)
    cases true e here there =
        let parts = and_true (covers r key) (nat_lt best.low r.low) e in
        let rest = here parts.0 in
        let above : best.low < r.low = grind (arith, nat_tests, parts.1) in
        record {
          row = rest.row;
          is = rest.is;
          covering = rest.covering;
          not_below = omega (arith, rest.not_below);
          greatest = ((λ t. rest.not_below), rest.greatest);
          place = elim rest.place [
            | inl is ↦ inr (record { index = 0; here = ap Some (sym is) })
            | inr p ↦ inr (record { index = suc p.index; here = p.here })
          ];
        }
    cases false e here rest =
        record {
          row = rest.row;
          is = rest.is;
          covering = rest.covering;
          not_below = rest.not_below;
          greatest = ((λ t. not_above t e rest.not_below), rest.greatest);
          place = elim rest.place [
            | inl is ↦ inl is
            | inr p ↦ inr (record { index = suc p.index; here = p.here })
          ];
        }
      where
        not_above : {n : ℕ} → covers r key ≡ true → (covers r key && nat_lt best.low r.low) ≡ false → best.low ≤ n → r.low ≤ n
        not_above {n} t e h = grind (arith, nat_tests, t, e, h)

pub found_by : (rows : List Inner) (key : ℕ) → FoundBy rows key (found rows key)
found_by [] key = tt
found_by (r ∷ rows) key = cases (covers r key) refl (found_by rows key)
  where
    more : (o : Option Inner) → covers r key ≡ false → FoundBy rows key o → FoundBy (r ∷ rows) key o
    more None e h = (e, h)
    more (Some a) e h = record { index = suc h.index; here = h.here; covering = h.covering; greatest = ((λ t. absurd (grind (arith, t, e))), h.greatest) }

    first : (o : Option Inner) → IsFrom rows key r o → FoundBy (r ∷ rows) key o
    first o h = subst (FoundBy (r ∷ rows) key) (sym h.is) (elim h.place [
      | inl is ↦ record { index = 0; here = ap Some (sym is); covering = h.covering; greatest = ((λ t. h.not_below), h.greatest) }
      | inr p ↦ record { index = suc p.index; here = p.here; covering = h.covering; greatest = ((λ t. h.not_below), h.greatest) }
    ])

    cases : (b : Bool) → covers r key ≡ b → FoundBy rows key (found rows key) → FoundBy (r ∷ rows) key (found_from (if b && true then Some r else None) rows key)
    cases true e rest = first (found_from (Some r) rows key) (from_some rows r key e)
    cases false e rest = more (found rows key) e rest

abbrev is_there : Option Inner → Bool
is_there None = false
is_there (Some r) = true

abbrev given : Inner → Option Inner → Inner
given other None = other
given other (Some r) = r

-- what holds of each row holds of one at an index
row_at : (P : Inner → Type 0) (rows : List Inner) (i : ℕ) (a : Inner) → AllByRecursion P rows → slice_get rows i ≡ Some a → P a
row_at P [] i a h is = absurd (false≢true (ap is_there is))
row_at P (r ∷ rows) zero a h is = subst P (ap (given r) is) h.0
row_at P (r ∷ rows) (suc i) a h is = row_at P rows i a h.1 is

-- what is found is a row, and covers the key
pub found_has : (P : Inner → Type 0) (rows : List Inner) (key : ℕ) (a : Inner) → found rows key ≡ Some a → AllByRecursion P rows → P a
found_has h0 rows key a is h = search (rules, found_by, row_at)

pub found_covers : (rows : List Inner) (key : ℕ) (a : Inner) → found rows key ≡ Some a → covers a key ≡ true
found_covers rows key a is = let by = subst (FoundBy rows key) is (found_by rows key) in by.covering

pub covers_fences : (a : Inner) (key : ℕ) → covers a key ≡ true → (a.low ≤ key) × (key < a.high)
covers_fences a key h = (grind (arith, nat_tests, h), grind (arith, nat_tests, h))
