-- What the check of an input leaves, by how it ended.
use Rattle.std.specs.{Prelude.{ℕ, ◌≡◌, ◌<◌, ◌⊎◌, Bool, true, false, List, [], ◌∷◌, length, Option, Some, None, bytes_eq, codes, if◌then◌else◌}, Io.KnownBytes.{Appends}}
use Rattle.sh_base.specs.declared.config.Config.{Config}
use Rattle.sh_map.specs.declared.book.Row.{Row}
use Rattle.sh_port.specs.{Port.{HasNoFault, HasRisen, AppendsFront, Unwritten}, Intake.{TookUpTo, TookSomeUpTo, TookMoreThan, TookNoMoreThan}}
use Rattle.sh_sheet.specs.declared.status.Status.TheVariants as status
use Rattle.sh_sheet.specs.Status.{status_code, status_text}
use Rattle.sh_picture.specs.declared.{place.FirstPlace.{FirstPlace}, verdict.Verdict.{Verdict, TheVariants.{Lawful, Refused}}, ending.PictureStatus.{PictureStatus, TheVariants.{Served, NotLawful}}}
use Rattle.sh_picture.specs.{Text.{verdict_text}, Verdict.{VerdictOf}}
use Rattle.sh_text.specs.declared.write.WriteError.{WriteError}
use Rattle.sh_text.specs.declared.write.WriteError.TheVariants as error

-- the code that a program ends with
abbrev pub picture_code : PictureStatus → ℕ
picture_code (Served s) = status_code s
picture_code NotLawful = 11

-- the text that tells it: none where the verdict's line does
abbrev pub picture_text : PictureStatus → List ℕ
picture_text (Served s) = status_text s
picture_text NotLawful = []

-- the most bytes of a picture: that of the largest pool
abbrev pub most_bytes : ℕ
most_bytes = 33554488

-- What the words ask for: no word, or `--map` alone, which asks for the map. Any other list is refused.
abbrev pub map_asked : List (List ℕ) → Option Bool
map_asked [] = Some false
map_asked (word ∷ []) = if bytes_eq word (codes "--map") then Some true else None
map_asked (word ∷ more ∷ words) = None

-- the whole input was taken, and this is the verdict on its bytes
pub record HasVerdict (left rest : Option (List ℕ)) (before now : ℕ) (verdict : Verdict) : Type 0 where
  pub bytes : List ℕ
  pub took : TookUpTo most_bytes left rest before now bytes
  pub verdict_is : VerdictOf bytes verdict

-- all lines of the verdict were written
pub record HasWritten (asked : Bool) (held after : Option (List ℕ)) (fell fallen : ℕ) (verdict : Verdict) : Type 0 where
  pub written : Appends held after (verdict_text asked verdict)
  pub count : fallen ≡ fell

-- a front of them was written
pub record HalfWritten (asked : Bool) (left rest : Option (List ℕ)) (before now : ℕ) (held after : Option (List ℕ)) : Type 0 where
  pub verdict : Verdict
  pub judged : HasVerdict left rest before now verdict
  pub written : AppendsFront held after (verdict_text asked verdict)

-- What a check leaves. The source: the bytes that were left and that are left, and its counts of faults before and now.
-- The sink: the bytes that it held and holds, and its counts.
abbrev pub Checked : (asked : Bool) → (left rest : Option (List ℕ)) → (before now : ℕ) → (held after : Option (List ℕ)) → (fell fallen : ℕ) → PictureStatus → Type 0
Checked asked left rest before now held after fell fallen (Served status.Ok) =
    (cfg : Config) × (pairs : List Row) × HasVerdict left rest before now (Lawful cfg pairs) × HasWritten asked held after fell fallen (Lawful cfg pairs)
Checked asked left rest before now held after fell fallen NotLawful =
    (place : FirstPlace) × HasVerdict left rest before now (Refused place) × HasWritten asked held after fell fallen (Refused place)
Checked asked left rest before now held after fell fallen (Served status.ReadFault) =
    TookSomeUpTo most_bytes left rest before now × Unwritten held after fell fallen
Checked asked left rest before now held after fell fallen (Served status.TooLong) =
    TookMoreThan most_bytes left rest before now × Unwritten held after fell fallen
Checked asked left rest before now held after fell fallen (Served status.WriteFault) =
    HalfWritten asked left rest before now held after × HasRisen fell fallen
Checked asked left rest before now held after fell fallen (Served status.NoMemory) =
    TookNoMoreThan most_bytes left rest before now × (Unwritten held after fell fallen ⊎ (HalfWritten asked left rest before now held after × (fallen ≡ fell)))
Checked asked left rest before now held after fell fallen (Served s) = ⊥

-- Where the words are refused nothing is read or written; where they aren't, the check of the input.
abbrev pub Headline : (asked : Option Bool) → (left rest : Option (List ℕ)) → (before now : ℕ) → (held after : Option (List ℕ)) → (fell fallen : ℕ) → PictureStatus → Type 0
Headline None left rest before now held after fell fallen s =
    (s ≡ Served status.Usage) × (rest ≡ left) × (now ≡ before) × Unwritten held after fell fallen
Headline (Some asked) left rest before now held after fell fallen s = Checked asked left rest before now held after fell fallen s

-- the words are accepted, the source's bytes are told and not too many, and neither the source nor the sink failed
pub record IsFree (asked : Option Bool) (left : Option (List ℕ)) (before now fell fallen : ℕ) : Type 0 where
  pub map : Bool
  pub bytes : List ℕ
  pub accepted : asked ≡ Some map
  pub told : left ≡ Some bytes
  pub short : length bytes < 33554489
  pub source : HasNoFault before now
  pub sink : HasNoFault fell fallen

-- it ended with a verdict, or memory was wanting
abbrev pub EndsWell : PictureStatus → Type 0
EndsWell (Served status.Ok) = Unit {0}
EndsWell (Served status.NoMemory) = Unit {0}
EndsWell (Served s) = ⊥
EndsWell NotLawful = Unit {0}

-- it wasn't a fault of the source or the sink
abbrev pub IsNoFault : PictureStatus → Type 0
IsNoFault (Served status.ReadFault) = ⊥
IsNoFault (Served status.WriteFault) = ⊥
IsNoFault s = Unit {0}

-- the status of a verdict whose lines were all written, and of one whose lines weren't
abbrev pub told : Verdict → PictureStatus
told (Lawful cfg pairs) = Served status.Ok
told (Refused place) = NotLawful

abbrev pub untold : WriteError → PictureStatus
untold error.Fault = Served status.WriteFault
untold error.NoMemory = Served status.NoMemory
