-- The fields of a row, one by one.
use Rattle.std.proofs.Common.{rules, ℕ, zero, suc, ◌≡◌, ◌≢◌, List, [], ◌∷◌, length, get_or, Some, None, Err, refl, arith, false}
use Rattle.csv.specs.Records.{field_at}
use Rattle.sh_base.specs.declared.config.ConfigParts.{ConfigParts}
use Rattle.sh_sheet.specs.{Row.{item_in, is_heading}, declared.{item.Mode.{Mode}, status.RowCause.TheVariants.{FieldCount}}}

-- no field at the place
pub field_none : (fields : List (List ℕ)) (i : ℕ) → None ≡ field_at fields i → [] ≡ get_or fields i []
unfolding field_at
field_none [] i h = refl
field_none (f ∷ fs) zero h = cc
field_none (f ∷ fs) (suc i) h = field_none fs i h

-- the field at the place
pub field_some : (fields : List (List ℕ)) (i : ℕ) (text : List ℕ) → Some text ≡ field_at fields i → text ≡ get_or fields i []
unfolding field_at
field_some [] i text h = cc
field_some (f ∷ fs) zero text h = cc
field_some (f ∷ fs) (suc i) text h = field_some fs i text h

-- four fields are those at the places 0 to 3
pub four : (fields : List (List ℕ)) → length fields ≡ 4 → fields ≡ get_or fields 0 [] ∷ get_or fields 1 [] ∷ get_or fields 2 [] ∷ get_or fields 3 [] ∷ []
four [] h = absurd (omega arith)
four (op ∷ []) h = absurd (omega arith)
four (op ∷ seat ∷ []) h = absurd (omega arith)
four (op ∷ seat ∷ a ∷ []) h = absurd (omega arith)
four (op ∷ seat ∷ a ∷ b ∷ []) h = refl
four (op ∷ seat ∷ a ∷ b ∷ c ∷ more) h = absurd (omega arith)

-- any other number of fields is refused, and is no heading
pub not_four : (p : ConfigParts) (mode : Mode) (marks : List ℕ) (fields : List (List ℕ)) → length fields ≢ 4 → Err FieldCount ≡ item_in p mode marks fields
not_four p mode marks fields h = search rules

pub not_four_heading : (fields : List (List ℕ)) → length fields ≢ 4 → false ≡ is_heading fields
not_four_heading fields h = search rules
