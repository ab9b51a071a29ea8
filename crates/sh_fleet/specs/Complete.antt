-- A run that meets nothing in its way.
use Rattle.std.specs.{Prelude.{ℕ, Bool, ◌≡◌, ◌<◌, List, length, Option, Some}}
use Rattle.sh_port.specs.Port.{HasNoFault}
use Rattle.sh_sheet.specs.{declared.{item.{Item.{Item}, Mode.TheVariants.{Run}}, status.Status.{Status}}, Sheet.{Items, AreFew, sheet_of}}
use Rattle.sh_sheet.specs.declared.status.Status.TheVariants as status
use Rattle.sh_options.specs.Order.{Asked}

-- The words are accepted; the source's bytes are told and not too many, and the items of its rows are lawful and not too
-- many; and neither the source nor the sink failed.
pub record IsFree (asked : Option Asked) (left : Option (List ℕ)) (before now fell fallen : ℕ) : Type 0 where
  pub order : Asked
  pub accepted : asked ≡ Some order
  pub bytes : List ℕ
  pub headed : Bool
  pub items : List Item
  pub told : left ≡ Some bytes
  pub short : length bytes < 16777217
  pub reads : sheet_of order.parts Run bytes ≡ Items headed items
  pub few : AreFew order.parts items
  pub source : HasNoFault before now
  pub sink : HasNoFault fell fallen

-- it ended well, or memory was wanting
abbrev pub EndsWell : Status → Type 0
EndsWell status.Ok = Unit {0}
EndsWell status.NoMemory = Unit {0}
EndsWell s = ⊥
