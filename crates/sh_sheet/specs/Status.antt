-- What a status is, as a number and as a text.
use Rattle.std.specs.{Prelude.{ℕ, List, [], ◌++◌, codes}, Fmt.{decimal}}
use Rattle.sh_sheet.specs.declared.status.{RowCause.{RowCause, TheVariants.{FieldCount, BadOp, TurnNotHere, BadNumber, BadSeat, BadKey, BadBounds, BadMark}}, Status.{Status}}
use Rattle.sh_sheet.specs.declared.status.Status.TheVariants as status

-- the code that a program ends with
abbrev pub status_code : Status → ℕ
status_code status.Ok = 0
status_code status.Usage = 2
status_code status.ReadFault = 3
status_code status.WriteFault = 4
status_code status.TooLong = 5
status_code (status.BadRow row cause) = 6
status_code status.TooMany = 7
status_code status.NoMemory = 8
status_code (status.Unfinished turns) = 9

-- the name of a row's cause
abbrev pub cause_text : RowCause → List ℕ
cause_text FieldCount = codes "FieldCount"
cause_text BadOp = codes "BadOp"
cause_text TurnNotHere = codes "TurnNotHere"
cause_text BadNumber = codes "BadNumber"
cause_text BadSeat = codes "BadSeat"
cause_text BadKey = codes "BadKey"
cause_text BadBounds = codes "BadBounds"
cause_text BadMark = codes "BadMark"

-- the text of a row that is refused: its number, and the cause's name
abbrev pub row_text : ℕ → RowCause → List ℕ
row_text row cause = ((codes "row " ++ decimal row) ++ codes " ") ++ cause_text cause

-- the text of a status: empty where the last line of the output says it
abbrev pub status_text : Status → List ℕ
status_text status.Ok = []
status_text status.Usage = codes "usage"
status_text status.ReadFault = codes "read fault"
status_text status.WriteFault = codes "write fault"
status_text status.TooLong = codes "too long"
status_text (status.BadRow row cause) = row_text row cause
status_text status.TooMany = codes "too many"
status_text status.NoMemory = codes "no memory"
status_text (status.Unfinished turns) = []

-- the words are refused, or memory is wanting
abbrev pub IsUsage : Status → Type 0
IsUsage status.Usage = Unit {0}
IsUsage status.NoMemory = Unit {0}
IsUsage s = ⊥

-- it wasn't a fault of the source or the sink
abbrev pub IsNoFault : Status → Type 0
IsNoFault status.ReadFault = ⊥
IsNoFault status.WriteFault = ⊥
IsNoFault s = Unit {0}
