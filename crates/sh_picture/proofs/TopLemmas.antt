-- How a check ends whose lines were all written, and a place's line before it is written.
use Rattle.std.proofs.Common.{ℕ, ◌≢◌, Bool, List, [], Option, rules}
use Rattle.sh_port.{specs.Port.{AppendsFront}, proofs.Fronts.{front_none}}
use Rattle.sh_picture.specs.{declared.{place.FirstPlace.{FirstPlace}, verdict.Verdict.{Verdict, TheVariants.{Lawful, Refused}}}, Text.{place_line}, Top.{told, Checked, HasVerdict, HasWritten}}

pub ended_well : (verdict : Verdict) (asked : Bool) (left rest : Option (List ℕ)) (before now : ℕ) (held after : Option (List ℕ)) (fell fallen : ℕ) → HasVerdict left rest before now verdict → HasWritten asked held after fell fallen verdict → Checked asked left rest before now held after fell fallen (told verdict)
ended_well (Lawful cfg pairs) asked left rest before now held after fell fallen h w = (cfg, pairs, h, w)
ended_well (Refused place) asked left rest before now held after fell fallen h w = (place, h, w)

has_bytes : (place : FirstPlace) → place_line place ≢ []
has_bytes place = search rules

pub place_unwritten : (a : Option (List ℕ)) (place : FirstPlace) → AppendsFront a a (place_line place)
place_unwritten a place = front_none a (place_line place) (has_bytes place)
