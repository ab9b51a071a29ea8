-- What a turn of a world adds to the life of its seat.
use Rattle.std.specs.Prelude.{ℕ, ◌-◌, ◌==◌, if◌then◌else◌, List, [], ◌∷◌, ◌++◌, length, slice_get, Option, Some, None}
use Rattle.sh_base.specs.Memory.{found_by}
use Rattle.sh_client.specs.{declared.state.Want.{Want}, Machine.{Machine}, Rests.{has_ended}, Wants.{want_of}}
use Rattle.sh_client.specs.declared.state.Want.TheVariants as want
use Rattle.sh_course.specs.{Life.{SeatAct, Begins, Rests, Takes}, Turns.{machine_behind, Found, Turn, Word}}
use Rattle.sh_world.specs.{declared.state.Line.{Line}, States.{Given, Place, State}, Turning.{asked, behind as behind_in, line_of}}

-- a look finds the served number, or, where that is the ticket, what was left in the line
abbrev pub look_finds : Place → Line → Found
look_finds q line = if line.served == q.ticket then Turn line.left else Word line.served

-- what the wanted turn finds
abbrev pub finds : State → (seat : ℕ) → Place → Want → List Found
finds s seat q (want.Event e) = Word (found_by s.words e) ∷ []
finds s seat q (want.Draw lock) = let line = line_of s seat lock in Word line.next ∷ []
finds s seat q (want.Look lock) = look_finds q (line_of s seat lock) ∷ []
finds s seat q (want.Waiting lock) = Word (behind_in (line_of s seat lock) q.ticket) ∷ []
finds s seat q (want.Leave lock carry) = Word 0 ∷ []
finds s seat q want.Done = []

-- the turn, and that the call was taken away where it has ended
abbrev pub turn_acts : Machine → List Found → List SeatAct
turn_acts m [] = []
turn_acts m (x ∷ xs) = (let n = machine_behind m x in if has_ended n.phase then Rests ∷ [] else []) ++ Takes x ∷ []

abbrev pub begins_call : Option Given → List SeatAct
begins_call None = []
begins_call (Some g) = Begins g.call ∷ []

abbrev pub begins_next : List Given → Option ℕ → List SeatAct
begins_next calls None = []
begins_next calls (Some number) = begins_call (slice_get calls (number - 1))

-- a seat at rest begins its next call
abbrev pub begin_acts : List Given → Place → Want → List SeatAct
begin_acts calls q want.Done = begins_next calls (slice_get q.numbers q.ended)
begin_acts calls q w = []

abbrev pub acts_at : State → (seat : ℕ) → Place → List SeatAct
acts_at s seat q =
    let r = asked s.calls q (length s.log) in
    turn_acts r.client (finds s seat r (want_of r.client)) ++ begin_acts s.calls q (want_of q.client)
