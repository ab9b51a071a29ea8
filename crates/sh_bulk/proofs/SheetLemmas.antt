-- The reading of rows, one by one.
use Rattle.std.proofs.Common.{rules, ℕ, ◌≡◌, ◌≢◌, ◌<◌, true, false, List, [], ◌∷◌, ◌++◌, length, get_or, Option, Some, Err, Ok, ◌∙◌, ap, subst, sym, refl, arith}
use Rattle.std.{specs.{Prelude.{Result, MatchResult, if◌then◌else◌}, Result.{IsErrAnd}}, proofs.lemmas.{Bool.{cases_eq}, List.{get_or_append_left, get_or_push, length_push}}}
use Rattle.std.proofs.lemmas.Result.{err_from_is_err_and}
use Rattle.csv.specs.{Reading.{ReadRecord, took_first}, declared.reader.Reader.{Reader}}
use Rattle.sh_base.specs.declared.config.ConfigParts.{ConfigParts}
use Rattle.sh_map.specs.{declared.book.Row.{Row}, Map.{pair_row}}
use Rattle.sh_sheet.{specs.{Row.{is_key, or_cause}, declared.status.RowCause.{TheVariants.{BadKey, BadNumber, FieldCount}}}, proofs.Lawful.{length-value_in}}
use Rattle.sh_sheet.proofs.RecordSteps.{IsReading, reading_more, reading_end}
use Rattle.sh_bulk.specs.{Fault.{AreGood, key_before}, Sheet.{row_in, rows_from, rows_of, Good, IsRowsFault, Reading}, declared.gather.RowsFault.{RowsFault}}

-- two fields are those at places 0 and 1
pub two : (fields : List (List ℕ)) → length fields ≡ 2 → fields ≡ get_or fields 0 [] ∷ get_or fields 1 [] ∷ []
two [] h = absurd (omega arith)
two (a ∷ []) h = absurd (omega arith)
two (a ∷ b ∷ []) h = refl
two (a ∷ b ∷ c ∷ more) h = absurd (omega arith)

pub not_two : (p : ConfigParts) (fields : List (List ℕ)) → length fields ≢ 2 → Err FieldCount ≡ row_in p fields
not_two p fields h = search rules

-- a good row more
pub good_more : (found : List Row) (r : Row) → AreGood found → is_key r.key ≡ true → key_before found (length found) < r.key → AreGood (found ++ r ∷ [])
good_more found r good key above i lt = search (rules, cases_eq, length_push, get_or_append_left, get_or_push)

pub row_good : (p : ConfigParts) (fields : List (List ℕ)) (r : Row) → Ok r ≡ row_in p fields → (is_key r.key ≡ true) × (length r.value ≡ p.value_words)
row_good p fields r e = search (rules, length-value_in)

-- a reader over the rows behind those that were found
pub record IsGathering {R : Type 0} (left : R → Option (List ℕ)) (p : ConfigParts) (bytes : List ℕ) (found : List Row) (reader : Reader R) (turns : ℕ) : Type 0 where
  pub rows : List (List (List ℕ))
  pub reading : IsReading left reader turns rows
  pub whole : rows_of p bytes ≡ rows_from p found rows

pub gathering_more : {R : Type 0} (left : R → Option (List ℕ)) (p : ConfigParts) (bytes : List ℕ) (found more : List Row) (a b : Reader R) (n m : ℕ) (row : List (List ℕ))
    → IsGathering left p bytes found a n → ReadRecord left a b true row → took_first b ≡ true → 0 < m
    → ((rest : List (List (List ℕ))) → rows_from p found (row ∷ rest) ≡ rows_from p more rest) → IsGathering left p bytes more b m
gathering_more left p bytes found more a b n m row was took first turns same =
    let (rest, is, reading) = reading_more left a b n m was.rows row was.reading took first turns in
    record { rows = rest; reading = reading; whole = was.whole ∙ (ap (rows_from p found) is ∙ same rest) }

pub gathering_stops : {R : Type 0} (left : R → Option (List ℕ)) (p : ConfigParts) (bytes : List ℕ) (found : List Row) (a b : Reader R) (n : ℕ) (row : List (List ℕ)) (why : RowsFault)
    → IsGathering left p bytes found a n → ReadRecord left a b true row → took_first b ≡ true
    → ((rest : List (List (List ℕ))) → IsRowsFault (rows_from p found (row ∷ rest)) why) → IsRowsFault (rows_of p bytes) why
gathering_stops left p bytes found a b n row why was took first fault =
    let (rest, is, reading) = reading_more left a b n 1 was.rows row was.reading took first (omega arith) in
    subst (λ (r : Reading). IsRowsFault r why) (sym (was.whole ∙ ap (rows_from p found) is)) (fault rest)

pub gathering_ends : {R : Type 0} (left : R → Option (List ℕ)) (p : ConfigParts) (bytes : List ℕ) (found : List Row) (a b : Reader R) (n : ℕ) (row : List (List ℕ))
    → IsGathering left p bytes found a n → ReadRecord left a b false row → rows_of p bytes ≡ Good found
gathering_ends left p bytes found a b n row was none = was.whole ∙ ap (rows_from p found) (reading_end left a b n was.rows row was.reading none)

pub fault_kept : {T : Type 0} (r : Result T RowsFault) (reading : Reading) (why : RowsFault) (P : T → Type 0) → IsErrAnd r (λ e. e ≡ why) → IsRowsFault reading why → MatchResult r P (IsRowsFault reading)
fault_kept r reading why h3 is fault = search (rules, err_from_is_err_and)
