-- What a replay's output is to the judge.
use Rattle.std.specs.{Prelude.{ℕ, ◌≡◌, false, List, length, Option, Some, None}, Io.KnownBytes.{Appends}}
use Rattle.sh_sheet.specs.declared.status.Status.{Status, TheVariants.{Ok}}
use Rattle.sh_options.specs.Order.{Asked}
use Rattle.sh_world.specs.States.{State}
use Rattle.sh_judge.specs.{declared.finding.Finding.TheVariants.{Lawful}, Finding.{IsFinding}}

-- a text was written of which the judge finds that it is lawful, with the calls and the entries of this world
pub record AppendsLawful (words : ℕ) (s : State) (held after : Option (List ℕ)) : Type 0 where
  pub text : List ℕ
  pub written : Appends held after text
  pub found : IsFinding words text (Lawful (length s.calls) (length s.log))

-- Such a text is what a replay writes that ends with `Ok`, where its calls were read and events aren't asked for.
abbrev pub WritesLawful : (asked : Option Asked) → State → (held after : Option (List ℕ)) → Status → Type 0
WritesLawful (Some o) s held after Ok = o.make ≡ None → o.events ≡ false → AppendsLawful o.parts.value_words s held after
WritesLawful asked s held after status = Unit {0}
