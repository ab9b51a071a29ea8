-- A course that stops at the line of an event.
use Rattle.std.specs.{Prelude.{◌≡◌, ℕ, true, List, [], ◌∷◌, ◌++◌, Option}, List.{fold}, Io.KnownBytes.{Appends}}
use Rattle.sh_port.specs.Port.{AppendsFront}
use Rattle.sh_sheet.specs.declared.item.Item.{Item}
use Rattle.sh_world.specs.States.{State}
use Rattle.sh_replay.specs.{Course.{ask, events_by, goes_on, Asking, Course, SeatEvent}, Output.{event_lines, line_of}}

-- Behind this course the first of these asks were made, up to one with an event. The lines of the events before it were
-- written, and a front of its own. The world is the one right behind its turn.
pub record Stops (items : List Item) (c : Course) (asks : List Asking) (world : State) (held after : Option (List ℕ)) : Type 0 where
  pub made : List Asking
  pub last : Asking
  pub rest : List Asking
  pub whole : asks ≡ made ++ last ∷ rest
  pub before : Course
  pub before_is : before ≡ fold (goes_on items) c made
  pub event : SeatEvent
  pub event_is : events_by items before.stage last ≡ event ∷ []
  pub world_is : world ≡ (ask items before.stage last).world
  pub told : Option (List ℕ)
  pub lines : Appends held told (event_lines true before.events)
  pub front : AppendsFront told after (line_of event)
