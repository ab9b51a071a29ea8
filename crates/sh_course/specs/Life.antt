-- All that the client of one seat has done since it was made, the last act first.
use Rattle.std.specs.Prelude.{if◌then◌else◌, List, [], ◌∷◌, ◌++◌, ℕ}
use Rattle.sh_base.specs.declared.event.Event.{Event}
use Rattle.sh_map.specs.declared.{book.Row.{Row}, call.{Call.{Call}, Reply.{Reply}}}
use Rattle.sh_client.specs.{declared.state.Want.{Want}, Feeds.{begun, finished}, Machine.{Machine}, Rests.{has_ended, rows_told}, Wants.{want_of}}
use Rattle.sh_client.specs.declared.state.Want.TheVariants as want
use Rattle.sh_course.specs.Turns.{machine_behind, turn_found, Found, MayFind, Taken, Word}

-- it began a call; a turn of it found something; its call, which had ended, was taken away
pub data SeatAct : Type 0 where
  Begins : (call : Call) → SeatAct
  Takes : (found : Found) → SeatAct
  Rests : SeatAct

-- the client behind these acts
abbrev pub lived : Machine → List SeatAct → Machine
lived m [] = m
lived m (Begins call ∷ life) = begun (lived m life) call
lived m (Takes x ∷ life) = machine_behind (lived m life) x
lived m (Rests ∷ life) = finished (lived m life)

-- its turns may be so
abbrev pub AreActs : Machine → List SeatAct → Type 0
AreActs m [] = Unit {0}
AreActs m (Takes x ∷ life) = MayFind (want_of (lived m life)) x × AreActs m life
AreActs m (act ∷ life) = AreActs m life

-- its turns
abbrev pub turns_in : Machine → List SeatAct → List Taken
turns_in m [] = []
turns_in m (Takes x ∷ life) = turn_found (want_of (lived m life)) x ∷ turns_in m life
turns_in m (act ∷ life) = turns_in m life

-- an event that was made, and the word that it found
pub record Made : Type 0 where
  pub event : Event
  pub word : ℕ

abbrev pub event_made : Want → Found → List Made
event_made (want.Event e) (Word word) = record { event = e; word = word } ∷ []
event_made w found = []

-- the events among turns
abbrev pub events_of : List Taken → List Made
events_of [] = []
events_of (t ∷ turns) = event_made t.want t.found ++ events_of turns

-- the turns of the last call that was begun
abbrev pub course_in : Machine → List SeatAct → List Taken
course_in m [] = []
course_in m (Begins call ∷ life) = []
course_in m (Takes x ∷ life) = turn_found (want_of (lived m life)) x ∷ course_in m life
course_in m (Rests ∷ life) = course_in m life

-- the client that began it
abbrev pub start_in : Machine → List SeatAct → Machine
start_in m [] = m
start_in m (Begins call ∷ life) = lived m life
start_in m (act ∷ life) = start_in m life

-- a call is begun, and nothing was taken away since
abbrev pub IsBegun : List SeatAct → Type 0
IsBegun [] = ⊥
IsBegun (Begins call ∷ life) = Unit {0}
IsBegun (Takes x ∷ life) = IsBegun life
IsBegun (Rests ∷ life) = ⊥

-- its call
abbrev pub call_begun : Machine → List SeatAct → Call
call_begun m life = (lived m life).registers.call

-- a call that has ended, its reply and its rows
pub record Ended : Type 0 where
  pub call : Call
  pub reply : Reply
  pub rows : List Row

abbrev pub end_of_call : Machine → Ended
end_of_call m = record { call = m.registers.call; reply = m.registers.reply; rows = rows_told m }

-- the calls that have ended in a life, in their order
abbrev pub ends_in : Machine → List SeatAct → List Ended
ends_in m [] = []
ends_in m (Takes x ∷ life) = let n = machine_behind (lived m life) x in if has_ended n.phase then ends_in m life ++ end_of_call n ∷ [] else ends_in m life
ends_in m (act ∷ life) = ends_in m life
