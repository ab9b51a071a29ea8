-- A judge that meets nothing in its way.
use Rattle.std.specs.Prelude.{ℕ, ◌≡◌, ◌<◌, List, length, Option, Some}
use Rattle.sh_port.specs.Port.{HasNoFault}
use Rattle.sh_sheet.specs.declared.status.Status.TheVariants as status
use Rattle.sh_judge.specs.declared.status.JudgeStatus.{JudgeStatus, TheVariants.{Served, NotLawful}}

-- The words are accepted, the source's bytes are told and not too many, and neither the source nor the sink failed.
pub record IsFree (width : Option ℕ) (left : Option (List ℕ)) (before now fell fallen : ℕ) : Type 0 where
  pub words : ℕ
  pub bytes : List ℕ
  pub accepted : width ≡ Some words
  pub told : left ≡ Some bytes
  pub short : length bytes < 16777217
  pub source : HasNoFault before now
  pub sink : HasNoFault fell fallen

-- it was judged, or memory was wanting
abbrev pub EndsWell : JudgeStatus → Type 0
EndsWell (Served status.Ok) = Unit {0}
EndsWell (Served status.NoMemory) = Unit {0}
EndsWell NotLawful = Unit {0}
EndsWell s = ⊥

-- it wasn't a fault of the source or the sink
abbrev pub IsNoFault : JudgeStatus → Type 0
IsNoFault (Served status.ReadFault) = ⊥
IsNoFault (Served status.WriteFault) = ⊥
IsNoFault s = Unit {0}
