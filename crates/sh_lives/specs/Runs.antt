-- A world whose seats are given calls and asked for turns, one after another, and the events that it makes. The last move
-- stands first.
use Rattle.std.specs.Prelude.{◌≡◌, ℕ, ◌==◌, if◌then◌else◌, List, [], ◌∷◌, ◌++◌}
use Rattle.sh_map.specs.declared.call.Call.{Call}
use Rattle.sh_client.specs.Machine.{Machine}
use Rattle.sh_course.specs.{Ends.{AreEnds}, Life.{ends_in, events_of, lived, turns_in, SeatAct, AreActs, Made}}
use Rattle.sh_world.specs.{declared.turn.Turn.{Turn}, States.{Place, State}, Turning.{answer_of, give_of, turn_of}}
use Rattle.sh_world.specs.declared.turn.Turn.TheVariants as turn

pub data Move : Type 0 where
  Gives : (seat : ℕ) (call : Call) → Move
  Asks : (seat : ℕ) → Move

-- the world behind these moves
abbrev pub after : State → List Move → State
after s [] = s
after s (Gives seat call ∷ moves) = give_of (after s moves) seat call
after s (Asks seat ∷ moves) = turn_of (after s moves) seat

-- what a turn answers, as events
abbrev pub event_in : Turn → List Made
event_in (turn.Event e word) = record { event = e; word = word } ∷ []
event_in told = []

-- the events of a seat in these moves
abbrev pub events_by : State → (seat : ℕ) → List Move → List Made
events_by s seat [] = []
events_by s seat (Gives i call ∷ moves) = events_by s seat moves
events_by s seat (Asks i ∷ moves) = if i == seat then event_in (answer_of (after s moves) i) ++ events_by s seat moves else events_by s seat moves

-- A seat has a life: its client came by it from m, its events are the seat's own of the moves, in their order, and each call
-- that ended in it stands at a place of it with its cause.
pub record HasLife (s : State) (moves : List Move) (seat : ℕ) (m : Machine) (q : Place) : Type 0 where
  pub life : List SeatAct
  pub may : AreActs m life
  pub client : q.client ≡ lived m life
  pub events : events_of (turns_in m life) ≡ events_by s seat moves
  pub ends : AreEnds m life (ends_in m life)
