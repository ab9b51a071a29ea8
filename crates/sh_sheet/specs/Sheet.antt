-- What a sheet says.
use Rattle.std.specs.Prelude.{ℕ, ◌≡◌, ◌+◌, ◌-◌, ◌<◌, ◌≤◌, ◌⊎◌, Bool, true, false, nat_le, List, [], ◌∷◌, ◌++◌, length, take, Option, Some, None, Result, Ok, Err, if◌then◌else◌}
use Rattle.std.specs.List.{Contains, filter_map, slice_get, sum_by}
use Rattle.sh_base.specs.{declared.config.ConfigParts.{ConfigParts}, Setting.{all_seats}}
use Rattle.sh_map.specs.{declared.{book.Done.{Done}, call.Call.TheVariants.{Range}}, Calls.{IsInRange}}
use Rattle.sh_sheet.specs.{Records.{records_in}, Row.{item_in, is_heading}, declared.{status.RowCause.{RowCause}, item.{Mode.{Mode}, Item.{Item, TheVariants.{Ask, Mark, After, Turn}}}}}
use Rattle.sh_sheet.specs.declared.item.SheetFault.{SheetFault}
use Rattle.sh_sheet.specs.declared.item.SheetFault.TheVariants as fault

-- what a sheet is seen as: whether its first row is a heading, and the items of its other rows
pub record Contents : Type 0 where
  pub headed : Bool
  pub items : List Item

-- what a sheet's bytes say: its items, behind a heading or not, or the first row that is refused, and why
pub data Reading : Type 0 where
  Items : Bool → List Item → Reading
  Refused : ℕ → RowCause → Reading

-- the number of the row of item i, the first of which is item 0: rows are numbered from 1, and a heading is a row
abbrev pub row_of : Bool → ℕ → ℕ
row_of heading i = if heading then i + 2 else i + 1

-- the number of a mark
abbrev pub mark_of : Item → Option ℕ
mark_of (Mark seat n) = Some n
mark_of other = None

-- the numbers of the marks among these items
abbrev pub marks_in : List Item → List ℕ
marks_in found = filter_map mark_of found

-- the reading behind a row that gives this, behind i others: what follows its item, or its refusal
abbrev pub row_then : Bool → ℕ → Result Item RowCause → (Item → Reading) → Reading
row_then heading i (Ok item) next = next item
row_then heading i (Err why) next = Refused (row_of heading i) why

-- the reading of these rows, behind rows that gave these items
abbrev pub rows_from : ConfigParts → Mode → Bool → List Item → List (List (List ℕ)) → Reading
rows_from p mode heading found [] = Items heading found
rows_from p mode heading found (row ∷ rows) = row_then heading (length found) (item_in p mode (marks_in found) row) (λ item. rows_from p mode heading (found ++ item ∷ []) rows)

-- the reading of all rows; a first row that is a heading is skipped
abbrev pub rows_in : ConfigParts → Mode → List (List (List ℕ)) → Reading
rows_in p mode [] = Items false []
rows_in p mode (row ∷ rows) = if is_heading row then rows_from p mode true [] rows else rows_from p mode false [] (row ∷ rows)

-- the reading of a sheet's bytes
abbrev pub sheet_of : ConfigParts → Mode → List ℕ → Reading
sheet_of p mode bytes = rows_in p mode (records_in bytes)

-- an item's seat
abbrev pub item_seat : Item → ℕ
item_seat (Ask seat call) = seat
item_seat (Mark seat n) = seat
item_seat (After seat n) = seat
item_seat (Turn seat count) = seat

-- whether an item is a call
abbrev pub is_call : Item → Bool
is_call (Ask seat call) = true
is_call other = false

-- the item that a finished call was asked by
abbrev pub done_item : Done → Item
done_item d = Ask d.seat d.call

-- whether an item is a call, as a number
abbrev pub item_calls : Item → ℕ
item_calls (Ask seat call) = 1
item_calls other = 0

-- the turns that an item asks for
abbrev pub item_turns : Item → ℕ
item_turns (Turn seat count) = count
item_turns other = 0

-- the most rows that an item's answer may have: for a range as many as it has numbers, and at most a range's buffer
abbrev pub rows_of : ConfigParts → Item → ℕ
rows_of p (Ask seat (Range low high)) = if nat_le p.rows (high - low) then p.rows else high - low
rows_of p other = 0

-- the most calls that a sheet may ask for
abbrev pub most_calls : ℕ
most_calls = 1000000

-- the most turns that a sheet may ask for
abbrev pub most_turns : ℕ
most_turns = 50000000

-- the most rows that a sheet's ranges may be answered with
abbrev pub most_rows : ℕ
most_rows = 4194304

-- there aren't too many calls, turns or rows of ranges
pub record AreFew (p : ConfigParts) (found : List Item) : Type 0 where
  pub calls : sum_by item_calls found ≤ most_calls
  pub turns : sum_by item_turns found ≤ most_turns
  pub rows : sum_by (rows_of p) found ≤ most_rows

-- every row is lawful, and there are too many calls, turns or rows of ranges
abbrev pub IsTooMany : ConfigParts → Reading → Type 0
IsTooMany p (Items heading found) = (most_calls < sum_by item_calls found) ⊎ (most_turns < sum_by item_turns found) ⊎ (most_rows < sum_by (rows_of p) found)
IsTooMany p (Refused row why) = ⊥

-- why a sheet isn't read
abbrev pub IsFault : ConfigParts → Reading → SheetFault → Type 0
IsFault p reading (fault.Row row why) = reading ≡ Refused row why
IsFault p reading fault.TooMany = IsTooMany p reading
IsFault p reading fault.NoMemory = Unit {0}

-- an item's seat is one of the setting's, and its call is in range for the setting
abbrev pub IsLawfulItem : ConfigParts → Item → Type 0
IsLawfulItem p (Ask seat call) = (seat < all_seats p) × IsInRange p call
IsLawfulItem p (Mark seat n) = seat < all_seats p
IsLawfulItem p (After seat n) = seat < all_seats p
IsLawfulItem p (Turn seat count) = seat < all_seats p

-- behind marks of these numbers, a mark is new, and an after names one of them
abbrev pub IsLawfulMark : List ℕ → Item → Type 0
IsLawfulMark marks (Mark seat n) = Contains marks n → ⊥
IsLawfulMark marks (After seat n) = Contains marks n
IsLawfulMark marks other = Unit {0}

-- each item is lawful behind the marks of the items before it: no two marks have one number, and an after names an
-- earlier mark
abbrev pub AreMarksLawful : List Item → Type 0
AreMarksLawful found = (i : ℕ) (item : Item) → slice_get found i ≡ Some item → IsLawfulMark (marks_in (take i found)) item
