-- Why lines weren't written.
use Rattle.std.specs.Prelude.{ℕ, ◌≡◌, Result, MatchResult}
use Rattle.sh_port.specs.Port.{HasRisen}
use Rattle.sh_text.specs.declared.write.WriteError.{WriteError, TheVariants.{Fault, NoMemory}}

-- a call of the sink failed, or no call failed and memory was wanting
abbrev pub CauseOf : ℕ → ℕ → WriteError → Type 0
CauseOf before now Fault = HasRisen before now
CauseOf before now NoMemory = now ≡ before

-- the count of faults stays where all was written, and at an error tells its cause
abbrev pub HasWriteCause : ℕ → ℕ → Result (Unit {0}) WriteError → Type 0
HasWriteCause before now result = MatchResult result (λ _. now ≡ before) (CauseOf before now)
