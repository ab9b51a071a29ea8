-- A replay that meets nothing in its way.
use Rattle.std.specs.Prelude.{ℕ, Bool, ◌≡◌, ◌<◌, ◌⊎◌, List, length, Option, Some, None}
use Rattle.sh_sheet.specs.{declared.{item.{Item.{Item}, Mode.TheVariants.{Replay}}, status.Status.{Status}}, Sheet.{Items, AreFew, sheet_of}, Generate.{made_items}}
use Rattle.sh_sheet.specs.declared.status.Status.TheVariants as status
use Rattle.sh_port.specs.Port.{HasNoFault}
use Rattle.sh_options.specs.Order.{Asked}

-- The source's bytes are told and not too many, these are the items of its rows, and it didn't fail.
pub record InputIsFree (o : Asked) (left : Option (List ℕ)) (before now : ℕ) (items : List Item) : Type 0 where
  pub make : o.make ≡ None
  pub bytes : List ℕ
  pub headed : Bool
  pub told : left ≡ Some bytes
  pub short : length bytes < 16777217
  pub reads : sheet_of o.parts Replay bytes ≡ Items headed items
  pub source : HasNoFault before now

-- These calls are made.
pub record MadeIsFree (o : Asked) (items : List Item) : Type 0 where
  pub n : ℕ
  pub make : o.make ≡ Some n
  pub made : items ≡ made_items o.parts n o.seed

-- The words are accepted, the items are read without a fault or made, they are lawful and not too many, and the sink
-- didn't fail.
pub record IsFree (asked : Option Asked) (left : Option (List ℕ)) (before now fell fallen : ℕ) : Type 0 where
  pub order : Asked
  pub items : List Item
  pub accepted : asked ≡ Some order
  pub are : InputIsFree order left before now items ⊎ MadeIsFree order items
  pub few : AreFew order.parts items
  pub sink : HasNoFault fell fallen

-- it ended well, or memory was wanting, or the rounds made so many turns
abbrev pub EndsWell : (budget : ℕ) → Status → Type 0
EndsWell budget status.Ok = Unit {0}
EndsWell budget status.NoMemory = Unit {0}
EndsWell budget (status.Unfinished turns) = turns ≡ budget
EndsWell budget s = ⊥
