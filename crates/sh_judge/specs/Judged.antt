-- What a judge of a printed replay leaves, by how it ended.
use Rattle.std.specs.{Prelude.{ℕ, ◌≡◌, List, [], Option, Some, None}, Io.KnownBytes.{Appends}}
use Rattle.sh_port.specs.{Port.{HasRisen, AppendsFront, Unwritten}, Intake.{TookAll, TookFew, TookSome, TookMost}}
use Rattle.sh_sheet.specs.declared.status.Status.TheVariants as status
use Rattle.sh_sheet.specs.Status.{status_code, status_text}
use Rattle.sh_judge.specs.{declared.{status.JudgeStatus.{JudgeStatus, TheVariants.{Served, NotLawful}}, finding.Finding.{Finding}}, Finding.{IsFinding}, FindingLine.{finding_line}}
use Rattle.sh_judge.specs.declared.finding.Finding.TheVariants as finding

-- the code that a program ends with, and the text of a status
abbrev pub judge_code : JudgeStatus → ℕ
judge_code (Served s) = status_code s
judge_code NotLawful = 14

abbrev pub judge_text : JudgeStatus → List ℕ
judge_text (Served s) = status_text s
judge_text NotLawful = []

-- how a judge ends whose finding's line was written whole
abbrev pub finding_status : Finding → JudgeStatus
finding_status (finding.Lawful calls entries) = Served status.Ok
finding_status found = NotLawful

-- the whole input was taken, and this is found of it
pub record HasFound (width : ℕ) (left rest : Option (List ℕ)) (before now : ℕ) (found : Finding) : Type 0 where
  pub bytes : List ℕ
  pub took : TookAll left rest before now bytes
  pub is : IsFinding width bytes found

-- the line of what is found was written whole, and it is found so that the judge ends with this status
pub record WroteFinding (width : ℕ) (left rest : Option (List ℕ)) (before now : ℕ) (held after : Option (List ℕ)) (fell fallen : ℕ) (s : JudgeStatus) : Type 0 where
  pub found : Finding
  pub has : HasFound width left rest before now found
  pub ends : finding_status found ≡ s
  pub written : Appends held after (finding_line found)
  pub count : fallen ≡ fell

-- a front of the line of what is found was written, and a call of the sink failed
pub record WroteFront (width : ℕ) (left rest : Option (List ℕ)) (before now : ℕ) (held after : Option (List ℕ)) (fell fallen : ℕ) : Type 0 where
  pub found : Finding
  pub has : HasFound width left rest before now found
  pub written : AppendsFront held after (finding_line found)
  pub cause : HasRisen fell fallen

-- What a judge of values of this many words leaves. The source: the bytes that were left and that are left, and its counts
-- of faults before and now. The sink: the bytes that it held and holds, and its counts.
abbrev pub Judged : (width : ℕ) → (left rest : Option (List ℕ)) → (before now : ℕ) → (held after : Option (List ℕ)) → (fell fallen : ℕ) → JudgeStatus → Type 0
Judged width left rest before now held after fell fallen (Served status.Ok) = WroteFinding width left rest before now held after fell fallen (Served status.Ok)
Judged width left rest before now held after fell fallen NotLawful = WroteFinding width left rest before now held after fell fallen NotLawful
Judged width left rest before now held after fell fallen (Served status.ReadFault) = TookSome left rest before now × Unwritten held after fell fallen
Judged width left rest before now held after fell fallen (Served status.TooLong) = TookMost left rest before now × Unwritten held after fell fallen
Judged width left rest before now held after fell fallen (Served status.WriteFault) = WroteFront width left rest before now held after fell fallen
Judged width left rest before now held after fell fallen (Served status.NoMemory) = TookFew left rest before now × Unwritten held after fell fallen
Judged width left rest before now held after fell fallen (Served status.Usage) = ⊥
Judged width left rest before now held after fell fallen (Served (status.BadRow row cause)) = ⊥
Judged width left rest before now held after fell fallen (Served status.TooMany) = ⊥
Judged width left rest before now held after fell fallen (Served (status.Unfinished turns)) = ⊥

-- the words are refused, or memory is wanting
abbrev pub IsUsage : JudgeStatus → Type 0
IsUsage (Served status.Usage) = Unit {0}
IsUsage (Served status.NoMemory) = Unit {0}
IsUsage s = ⊥

-- Where the words are refused, nothing was read or written; where they say how many words a value has, the judge of such
-- values.
abbrev pub JudgeHeadline : (width : Option ℕ) → (left rest : Option (List ℕ)) → (before now : ℕ) → (held after : Option (List ℕ)) → (fell fallen : ℕ) → JudgeStatus → Type 0
JudgeHeadline None left rest before now held after fell fallen s = IsUsage s × (rest ≡ left) × (now ≡ before) × Unwritten held after fell fallen
JudgeHeadline (Some width) left rest before now held after fell fallen s = Judged width left rest before now held after fell fallen s
