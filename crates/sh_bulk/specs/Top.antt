-- What a bulk building leaves, by how it ended.
use Rattle.std.specs.{Prelude.{ℕ, ◌≡◌, ◌<◌, ◌≤◌, List, ◌++◌, codes, length, Option, Some, None, if◌then◌else◌}, Fmt.{decimal}, Io.KnownBytes.{Appends}}
use Rattle.sh_base.specs.{declared.config.ConfigParts.{ConfigParts}, Setting.{nodes}}
use Rattle.sh_map.specs.declared.book.Row.{Row}
use Rattle.sh_port.specs.{Port.{HasRisen, AppendsFront, Unwritten}, Intake.{TookAll, TookSome, TookMost}}
use Rattle.sh_sheet.specs.declared.status.Status.TheVariants as status
use Rattle.sh_sheet.specs.Status.{status_code, status_text}
use Rattle.sh_picture.specs.Picture.{picture_of}
use Rattle.sh_bulk.specs.{Shape.{need_of}, Words.{bulk_words}, Fault.{HoldRows}, Order.{Asked}, Sheet.{rows_of, Good, Reading, Refused, Still}, declared.gather.RowsFault.{RowsFault}}
use Rattle.sh_bulk.specs.declared.{fault.BulkFault.{BulkFault}, status.BulkStatus.{BulkStatus, TheVariants.{Served, NotRising, NoRoom}}}
use Rattle.sh_text.specs.declared.write.WriteError.{WriteError}
use Rattle.sh_text.specs.declared.write.WriteError.TheVariants as error
use Rattle.sh_bulk.specs.declared.gather.RowsFault.TheVariants as rows_fault
use Rattle.sh_bulk.specs.declared.fault.BulkFault.TheVariants as bulk_fault

-- the code that a program ends with, and the text of a status
abbrev pub bulk_code : BulkStatus → ℕ
bulk_code (Served s) = status_code s
bulk_code (NotRising row) = 12
bulk_code (NoRoom need count) = 13

abbrev pub bulk_text : BulkStatus → List ℕ
bulk_text (Served s) = status_text s
bulk_text (NotRising row) = (codes "row " ++ decimal row) ++ codes " not rising"
bulk_text (NoRoom need count) = codes "no room"

-- the most rows
abbrev pub most_rows : ℕ
most_rows = 1000000

-- the line of what was built: how many nodes, and how many rows
unfoldable pub built_line : (need rows : ℕ) → List ℕ
built_line need rows = codes "built," ++ ((decimal need ++ codes ",") ++ (decimal rows ++ codes "\n"))

-- what is written of these rows: the picture of the pool, or the line
abbrev pub built_text : Asked → List Row → List ℕ
built_text asked rows = if asked.picture then picture_of asked.parts (bulk_words asked.parts rows) else built_line (need_of asked.parts (length rows)) (length rows)

-- the whole input was taken, and this is what its rows say
pub record HasRead (p : ConfigParts) (left rest : Option (List ℕ)) (before now : ℕ) (reading : Reading) : Type 0 where
  pub bytes : List ℕ
  pub took : TookAll left rest before now bytes
  pub says : rows_of p bytes ≡ reading

-- the rows are good and not too many, and the pool has room for their tree, which the memory holds
pub record HasBuilt (p : ConfigParts) (left rest : Option (List ℕ)) (before now : ℕ) (rows : List Row) : Type 0 where
  pub read : HasRead p left rest before now (Good rows)
  pub few : length rows ≤ most_rows
  pub room : need_of p (length rows) ≤ nodes p
  pub holds : HoldRows p rows (bulk_words p rows)

-- What a building leaves. The source: the bytes that were left and that are left, and its counts of faults before and now.
-- The sink: the bytes that it held and holds, and its counts.
abbrev pub Built : Asked → (left rest : Option (List ℕ)) → (before now : ℕ) → (held after : Option (List ℕ)) → (fell fallen : ℕ) → BulkStatus → Type 0
Built asked left rest before now held after fell fallen (Served status.Ok) =
    (rows : List Row) × HasBuilt asked.parts left rest before now rows × Appends held after (built_text asked rows) × (fallen ≡ fell)
Built asked left rest before now held after fell fallen (Served status.WriteFault) =
    (rows : List Row) × HasBuilt asked.parts left rest before now rows × AppendsFront held after (built_text asked rows) × HasRisen fell fallen
Built asked left rest before now held after fell fallen (Served status.ReadFault) = TookSome left rest before now × Unwritten held after fell fallen
Built asked left rest before now held after fell fallen (Served status.TooLong) = TookMost left rest before now × Unwritten held after fell fallen
Built asked left rest before now held after fell fallen (Served (status.BadRow row cause)) = HasRead asked.parts left rest before now (Refused row cause) × Unwritten held after fell fallen
Built asked left rest before now held after fell fallen (NotRising row) = HasRead asked.parts left rest before now (Still row) × Unwritten held after fell fallen
Built asked left rest before now held after fell fallen (Served status.TooMany) =
    (rows : List Row) × HasRead asked.parts left rest before now (Good rows) × (most_rows < length rows) × Unwritten held after fell fallen
Built asked left rest before now held after fell fallen (NoRoom need count) =
    (rows : List Row) × HasRead asked.parts left rest before now (Good rows) × (length rows ≤ most_rows) × (need ≡ need_of asked.parts (length rows)) × (count ≡ nodes asked.parts) × (nodes asked.parts < need_of asked.parts (length rows)) × Unwritten held after fell fallen
Built asked left rest before now held after fell fallen (Served status.NoMemory) = (now ≡ before) × Unwritten held after fell fallen
Built asked left rest before now held after fell fallen (Served s) = ⊥

-- where the words are refused nothing is read or written, nor where memory is wanting for them
abbrev pub Headline : (asked : Option Asked) → (left rest : Option (List ℕ)) → (before now : ℕ) → (held after : Option (List ℕ)) → (fell fallen : ℕ) → BulkStatus → Type 0
Headline (Some asked) left rest before now held after fell fallen s = Built asked left rest before now held after fell fallen s
Headline None left rest before now held after fell fallen (Served status.Usage) = (rest ≡ left) × (now ≡ before) × Unwritten held after fell fallen
Headline None left rest before now held after fell fallen (Served status.NoMemory) = (rest ≡ left) × (now ≡ before) × Unwritten held after fell fallen
Headline None left rest before now held after fell fallen s = ⊥

-- the status of a sheet that gives no rows, of rows that give no pool, and of a pool that wasn't written whole
abbrev pub unread : RowsFault → BulkStatus
unread (rows_fault.Row row cause) = Served (status.BadRow row cause)
unread (rows_fault.NotRising row) = NotRising row
unread rows_fault.NoMemory = Served status.NoMemory

abbrev pub unbuilt : BulkFault → BulkStatus
unbuilt (bulk_fault.NoRoom need count) = NoRoom need count
unbuilt fault = Served status.NoMemory

abbrev pub unwritten : WriteError → BulkStatus
unwritten error.Fault = Served status.WriteFault
unwritten error.NoMemory = Served status.NoMemory
