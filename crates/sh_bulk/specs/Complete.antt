-- A building that meets nothing in its way.
use Rattle.std.specs.Prelude.{ℕ, ◌≡◌, ◌<◌, ◌≤◌, List, length, Option, Some}
use Rattle.sh_base.specs.Setting.{nodes}
use Rattle.sh_map.specs.declared.book.Row.{Row}
use Rattle.sh_port.specs.Port.{HasNoFault}
use Rattle.sh_sheet.specs.declared.status.Status.TheVariants as status
use Rattle.sh_bulk.specs.{Shape.{need_of}, Order.{Asked}, Sheet.{rows_of, Good}, Top.{most_rows}, declared.status.BulkStatus.{BulkStatus, TheVariants.{Served}}}

-- The source's bytes are told and not too many, their rows are good and not too many, and the pool has room for their tree;
-- and neither the source nor the sink failed.
pub record IsFree (asked : Asked) (left : Option (List ℕ)) (before now fell fallen : ℕ) : Type 0 where
  pub bytes : List ℕ
  pub rows : List Row
  pub told : left ≡ Some bytes
  pub short : length bytes < 16777217
  pub says : rows_of asked.parts bytes ≡ Good rows
  pub few : length rows ≤ most_rows
  pub room : need_of asked.parts (length rows) ≤ nodes asked.parts
  pub source : HasNoFault before now
  pub sink : HasNoFault fell fallen

-- the pool was built and written, or memory was wanting
abbrev pub EndsWell : BulkStatus → Type 0
EndsWell (Served status.Ok) = Unit {0}
EndsWell (Served status.NoMemory) = Unit {0}
EndsWell s = ⊥
