-- A client never gathers more rows than its buffer holds.
use Rattle.std.proofs.Common.{rules, ℕ, ◌≤◌, Option, List, [], ◌∷◌, length, length-append, arith}
use Rattle.sh_base.specs.declared.config.ConfigParts.{ConfigParts}
use Rattle.sh_map.specs.declared.call.Call.{Call}
use Rattle.sh_image.specs.declared.inner.Image.{Image}
use Rattle.sh_edit.{proofs.RangeLemmas.{taken_within}}
use Rattle.sh_decide.specs.{declared.state.{Aim.{Aim}, Way.{Way}}}
use Rattle.sh_client.specs.{declared.state.{Phase.{Phase}}, Machine.{Machine, fresh_machine}, Rests.{rows_told}}
use Rattle.sh_client.specs.Feeds.{begun, fed_in, held_by, turned_in, went}
use Rattle.sh_pool_rule.specs.{declared.view.Tiding.{Tiding, TheVariants.{CallTold, TurnTold, WordTold}}, Lives.{lived}}

abbrev pub HasFewRows : Machine → Type 0
HasFewRows m = length m.registers.rows ≤ m.setting.rows

goes : (m : Machine) (aim : Aim) (image : Image) (w : Way) → HasFewRows m → HasFewRows (went m aim image w)
goes m aim image w h = search (rules, length-append, taken_within)

holds : (m : Machine) (aim : Aim) (depth : ℕ) (o : Option Image) → HasFewRows m → HasFewRows (held_by m aim depth o)
holds m aim depth o h = search rules

feeds : (m : Machine) (word : ℕ) (phase : Phase) → HasFewRows m → HasFewRows (fed_in m word phase)
feeds m word phase h = search (rules, goes, holds)

turns : (m : Machine) (depth : Option ℕ) (phase : Phase) → HasFewRows m → HasFewRows (turned_in m depth phase)
turns m depth phase h = search rules

begins : (m : Machine) (call : Call) → HasFewRows m → HasFewRows (begun m call)
begins m call h = search rules

-- whatever a client was told since its making
pub lives_few : (p : ConfigParts) (seat : ℕ) (life : List Tiding) → HasFewRows (lived (fresh_machine p seat) life)
lives_few p seat [] = omega arith
lives_few p seat (CallTold call ∷ life) = begins (lived (fresh_machine p seat) life) call (lives_few p seat life)
lives_few p seat (WordTold word ∷ life) = let m = lived (fresh_machine p seat) life in feeds m word m.phase (lives_few p seat life)
lives_few p seat (TurnTold depth ∷ life) = let m = lived (fresh_machine p seat) life in turns m depth m.phase (lives_few p seat life)

-- what it tells of the rows of a call that has ended
pub told_few : (m : Machine) → HasFewRows m → length (rows_told m) ≤ m.setting.rows
told_few m h = search rules
