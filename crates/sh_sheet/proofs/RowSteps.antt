-- The reading of a sheet, row by row.
use Rattle.std.{proofs.Common.{rules, ℕ, ◌≡◌, ◌<◌, Bool, true, false, List, [], ◌∷◌, Option, ◌∙◌, ap, subst, sym, arith}, specs.{Prelude.{Result, MatchResult}, Result.{IsErrAnd}}}
use Rattle.std.proofs.lemmas.Result.{err_from_is_err_and}
use Rattle.csv.specs.{Reading.{ReadRecord, took_first}, declared.reader.Reader.{Reader}}
use Rattle.sh_base.specs.declared.config.ConfigParts.{ConfigParts}
use Rattle.sh_sheet.specs.{Sheet.{Reading, Items, sheet_of, IsFault}, Reader.{rows_behind}, declared.item.{Mode.{Mode}, Item.{Item}, SheetFault.{SheetFault}}}
use Rattle.sh_sheet.proofs.RecordSteps.{IsReading, reading_more, reading_end}

-- a reader over the rows behind those that gave these items
pub record IsTaking {R : Type 0} (left : R → Option (List ℕ)) (p : ConfigParts) (mode : Mode) (bytes : List ℕ) (heading : Bool) (found : List Item) (reader : Reader R) (turns : ℕ) : Type 0 where
  pub rows : List (List (List ℕ))
  pub reading : IsReading left reader turns rows
  pub whole : sheet_of p mode bytes ≡ rows_behind p mode heading found rows

-- after a row
pub taking_more : {R : Type 0} (left : R → Option (List ℕ)) (p : ConfigParts) (mode : Mode) (bytes : List ℕ) (h k : Bool) (found more : List Item) (a b : Reader R) (n m : ℕ) (row : List (List ℕ))
    → IsTaking left p mode bytes h found a n → ReadRecord left a b true row → took_first b ≡ true → 0 < m
    → ((rest : List (List (List ℕ))) → rows_behind p mode h found (row ∷ rest) ≡ rows_behind p mode k more rest) → IsTaking left p mode bytes k more b m
taking_more left p mode bytes h k found more a b n m row was took first turns same =
    let (rest, is, reading) = reading_more left a b n m was.rows row was.reading took first turns in
    record { rows = rest; reading = reading; whole = was.whole ∙ (ap (rows_behind p mode h found) is ∙ same rest) }

-- at a row that is refused
pub taking_stops : {R : Type 0} (left : R → Option (List ℕ)) (p : ConfigParts) (mode : Mode) (bytes : List ℕ) (h : Bool) (found : List Item) (a b : Reader R) (n : ℕ) (row : List (List ℕ)) (why : SheetFault)
    → IsTaking left p mode bytes h found a n → ReadRecord left a b true row → took_first b ≡ true
    → ((rest : List (List (List ℕ))) → IsFault p (rows_behind p mode h found (row ∷ rest)) why) → IsFault p (sheet_of p mode bytes) why
taking_stops left p mode bytes h found a b n row why was took first fault =
    let (rest, is, reading) = reading_more left a b n 1 was.rows row was.reading took first (omega arith) in
    subst (λ (r : Reading). IsFault p r why) (sym (was.whole ∙ ap (rows_behind p mode h found) is)) (fault rest)

none_behind : (p : ConfigParts) (mode : Mode) (heading : Bool) (found : List Item) → rows_behind p mode heading found [] ≡ Items heading found
none_behind p mode heading found = search rules

-- after the last row
pub taking_ends : {R : Type 0} (left : R → Option (List ℕ)) (p : ConfigParts) (mode : Mode) (bytes : List ℕ) (h : Bool) (found : List Item) (a b : Reader R) (n : ℕ) (row : List (List ℕ))
    → IsTaking left p mode bytes h found a n → ReadRecord left a b false row → sheet_of p mode bytes ≡ Items h found
taking_ends left p mode bytes h found a b n row was none =
    was.whole ∙ (ap (rows_behind p mode h found) (reading_end left a b n was.rows row was.reading none) ∙ none_behind p mode h found)

-- a fault that a call passes on
pub fault_kept : {T : Type 0} (r : Result T SheetFault) (p : ConfigParts) (reading : Reading) (why : SheetFault) (P : T → Type 0) → IsErrAnd r (λ e. e ≡ why) → IsFault p reading why → MatchResult r P (IsFault p reading)
fault_kept r p reading why h4 is fault = search (rules, err_from_is_err_and)
