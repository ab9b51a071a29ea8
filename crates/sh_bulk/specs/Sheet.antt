-- What the rows of a sheet say: a key and its value each, with rising keys.
use Rattle.std.specs.Prelude.{◌≡◌, ℕ, ◌+◌, nat_lt, List, [], ◌∷◌, ◌++◌, length, Result, Ok, Err, if◌then◌else◌}
use Rattle.sh_base.specs.declared.config.ConfigParts.{ConfigParts}
use Rattle.sh_map.specs.{declared.book.Row.{Row}, Map.{pair_row}}
use Rattle.sh_sheet.specs.{Number.{number_of}, Records.{records_in}, Row.{is_key, or_cause, tested, value_in}, declared.status.RowCause.{RowCause, TheVariants.{FieldCount, BadNumber, BadKey}}}
use Rattle.sh_bulk.specs.{Fault.{key_before}, declared.gather.RowsFault.{RowsFault}}
use Rattle.sh_bulk.specs.declared.gather.RowsFault.TheVariants as fault

-- the rows of a sheet, or the first that is refused and why, or the first whose key isn't above that of the row before
pub data Reading : Type 0 where
  Good : List Row → Reading
  Refused : ℕ → RowCause → Reading
  Still : ℕ → Reading

-- a row of two fields, a key and a value of the setting's words, or the first test that it fails
abbrev pub row_in : ConfigParts → List (List ℕ) → Result Row RowCause
row_in p (key ∷ value ∷ []) =
    or_cause (number_of key) BadNumber (λ k.
    or_cause (value_in p.value_words value) BadNumber (λ v.
    tested (is_key k) BadKey (
    Ok (pair_row k v))))
row_in p fields = Err FieldCount

-- the reading behind these rows, by what the next one says; rows are numbered from 1
abbrev pub row_then : (found : List Row) → Result Row RowCause → (Row → Reading) → Reading
row_then found (Ok r) next = if nat_lt (key_before found (length found)) r.key then next r else Still (length found + 1)
row_then found (Err why) next = Refused (length found + 1) why

-- the reading of these rows behind those
abbrev pub rows_from : ConfigParts → (found : List Row) → List (List (List ℕ)) → Reading
rows_from p found [] = Good found
rows_from p found (row ∷ rows) = row_then found (row_in p row) (λ r. rows_from p (found ++ r ∷ []) rows)

-- the reading of a sheet's bytes; no first row is skipped
abbrev pub rows_of : ConfigParts → List ℕ → Reading
rows_of p bytes = rows_from p [] (records_in bytes)

-- why a sheet gives no rows
abbrev pub IsRowsFault : Reading → RowsFault → Type 0
IsRowsFault reading (fault.Row row why) = reading ≡ Refused row why
IsRowsFault reading (fault.NotRising row) = reading ≡ Still row
IsRowsFault reading fault.NoMemory = Unit {0}
