-- What a turn of a seat makes of a world, and what it answers; and what it is to give a seat a call.
use Rattle.std.specs.Prelude.{◌≡◌, ℕ, ◌+◌, ◌-◌, ◌^◌, ◌%◌, ◌==◌, ◌&&◌, if◌then◌else◌, Bool, true, false, List, [], ◌∷◌, ◌++◌, length, slice_get, slice_set, Option, None, Some}
use Rattle.sh_base.specs.{declared.event.Event.{Event}, Layout.{compute_of}, Memory.{apply, found_by}}
use Rattle.sh_map.specs.{declared.{call.Call.{Call}, log.Entry.{Entry}}, Points.{point_of}}
use Rattle.sh_client.specs.{declared.state.{Step.{Step}, Want.{Want}, Phase.TheVariants.{Idle}, Tally.{Tally}}, Machine.{Machine, no_tally, to}, Feeds.{fed_by, turned_by, begun}, Giving.{makes}}
use Rattle.sh_client.specs.{Wants.{want_of}, Rests.{has_ended, rows_told}}
use Rattle.sh_client.specs.declared.state.Want.TheVariants as want
use Rattle.sh_core.specs.Actors.{point_after, seen_after}
use Rattle.sh_world.specs.{declared.{state.Line.{Line}, turn.Turn.{Turn}}, States.{Given, Place, State, answered, free_line, fresh_call, line_at}}
use Rattle.sh_world.specs.declared.turn.Turn.TheVariants as turn

-- ---- a call begins

-- the seat begins the call of this number, with a log of this length
abbrev pub started : Place → (number : ℕ) → Call → (seen : ℕ) → Place
started q number call seen = record q { client = begun q.client call; number = number; seen = seen; first = seen; point = 0 }

abbrev pub starts : List Given → Place → (number seen : ℕ) → Option Given → Place
starts calls q number seen None = q
starts calls q number seen (Some g) = started q number g.call seen

abbrev pub starts_next : List Given → Place → (seen : ℕ) → Option ℕ → Place
starts_next calls q seen None = q
starts_next calls q seen (Some number) = starts calls q number seen (slice_get calls (number - 1))

-- a seat that is asked begins its next call, where its client wants nothing and a call is left
abbrev pub asked_in : List Given → Place → (seen : ℕ) → Want → Place
asked_in calls q seen want.Done = starts_next calls q seen (slice_get q.numbers q.ended)
asked_in calls q seen w = q

abbrev pub asked : List Given → Place → (seen : ℕ) → Place
asked calls q seen = asked_in calls q seen (want_of q.client)

-- ---- its client was fed

-- The client has become m, and has made the entries, with this log before. Where its call has ended it is taken away.
abbrev pub going : Place → List Entry → (more : List Entry) → Machine → Place
going q log more m = record q { client = m; seen = seen_after more (length log); point = point_after more q.point (length log) }

abbrev pub resting : Place → List Entry → Machine → Place
resting q log m = record q { client = to m Idle; ended = q.ended + 1; seen = length log; first = length log }

abbrev pub place_after : Place → List Entry → (more : List Entry) → Machine → Place
place_after q log more m = if has_ended m.phase then resting q log m else going q log more m

-- its client made a step inside a verb itself, with a log of this length, or did nothing
abbrev pub place_stepped : Place → Machine → (seen : ℕ) → Option Step → Place
place_stepped q m seen (Some step) = record q { client = m; seen = seen }
place_stepped q m seen None = q

-- the calls then: the one that has ended is answered
abbrev pub calls_after : List Given → Place → List Entry → Machine → List Given
calls_after calls q log m = if has_ended m.phase then answered calls (q.number - 1) m.registers.reply (rows_told m) q.first (point_of log q.first q.point m.registers.call m.registers.reply) else calls

-- the world then
abbrev pub settled : State → (seat : ℕ) → Place → (more : List Entry) → Machine → State
settled s seat q more m = record s { log = s.log ++ more; seats = slice_set s.seats seat (place_after q s.log more m); calls = calls_after s.calls q s.log m }

-- ---- the lines

abbrev pub or_free : Option Line → Line
or_free None = free_line
or_free (Some line) = line

-- the line of a lock at a seat's compute server
abbrev pub line_of : State → (seat lock : ℕ) → Line
line_of s seat lock = or_free (slice_get s.lines (line_at s.setting lock (compute_of s.setting seat)))

abbrev pub with_line : State → (seat lock : ℕ) → Line → State
with_line s seat lock line = record s { lines = slice_set s.lines (line_at s.setting lock (compute_of s.setting seat)) line }

-- numbers of tickets are words, and after the last word comes 0
abbrev pub next_ticket : ℕ → ℕ
next_ticket n = (n + 1) % 2 ^ 64

-- the difference of two words
abbrev pub minus : ℕ → ℕ → ℕ
minus a b = (a + 2 ^ 64 - b) % 2 ^ 64

-- how many tickets were drawn behind this one
abbrev pub behind : Line → (ticket : ℕ) → ℕ
behind line ticket = minus (minus line.next ticket) 1

-- ---- the turns

-- an event is made on the words, and an update's entry goes into the log with its last store
abbrev pub made : State → (seat : ℕ) → Place → Event → State
made s seat q e = settled (record s { words = apply s.words e }) seat q (makes q.client) (fed_by q.client (found_by s.words e))

-- a ticket is drawn
abbrev pub drawn : Line → Line
drawn line = record line { next = next_ticket line.next }

-- A look: where the seat's ticket is served it takes what was left in the line.
abbrev pub looked_client : Place → Line → Machine
looked_client q line = if line.served == q.ticket then turned_by q.client line.left else fed_by q.client line.served

abbrev pub looked_line : Place → Line → Line
looked_line q line = if line.served == q.ticket then record line { left = None } else line

-- the line is left, with a right for the next or without
abbrev pub left_line : Line → (carry : Option ℕ) → Line
left_line line carry = record line { served = next_ticket line.served; left = carry }

-- A call on a line: the lock, what it makes of the line, and of the seat, whose client is fed. A count is fed how many later
-- tickets were drawn.
abbrev pub wanted_lock : Want → Option ℕ
wanted_lock (want.Draw lock) = Some lock
wanted_lock (want.Look lock) = Some lock
wanted_lock (want.Waiting lock) = Some lock
wanted_lock (want.Leave lock carry) = Some lock
wanted_lock w = None

abbrev pub line_called : Place → Line → Want → Line
line_called q line (want.Draw lock) = drawn line
line_called q line (want.Look lock) = looked_line q line
line_called q line (want.Leave lock carry) = left_line line carry
line_called q line w = line

abbrev pub place_called : Place → Line → Want → Place
place_called q line (want.Draw lock) = record q { client = fed_by q.client line.next; ticket = line.next }
place_called q line (want.Look lock) = record q { client = looked_client q line }
place_called q line (want.Waiting lock) = record q { client = fed_by q.client (behind line q.ticket) }
place_called q line (want.Leave lock carry) = record q { client = fed_by q.client 0 }
place_called q line w = q

abbrev pub called : State → (seat lock : ℕ) → Place → Line → Want → State
called s seat lock q line w = settled (with_line s seat lock (line_called q line w)) seat (place_called q line w) [] (place_called q line w).client

-- the turn that the client wants: a call on a line, an event, or nothing
abbrev pub took_in : State → (seat : ℕ) → Place → Want → (lock : Option ℕ) → State
took_in s seat q w (Some lock) = called s seat lock q (line_of s seat lock) w
took_in s seat q (want.Event e) None = made s seat q e
took_in s seat q w None = record s { seats = slice_set s.seats seat q }

abbrev pub took : State → (seat : ℕ) → Place → Want → State
took s seat q w = took_in s seat q w (wanted_lock w)

abbrev pub turn_at : State → (seat : ℕ) → Option Place → State
turn_at s seat None = s
turn_at s seat (Some q) = let r = asked s.calls q (length s.log) in took s seat r (want_of r.client)

-- The world after a turn of the seat: the one that its client wants. A seat at rest with a call left begins it with this
-- turn; where none is left nothing changes.
abbrev pub turn_of : State → (seat : ℕ) → State
turn_of s seat = turn_at s seat (slice_get s.seats seat)

-- ---- what a turn answers

abbrev pub turn_answer_in : List ℕ → Want → Turn
turn_answer_in words (want.Event e) = turn.Event e (found_by words e)
turn_answer_in words want.Done = turn.Idle
turn_answer_in words w = turn.Local

abbrev pub answer_at : State → Option Place → Turn
answer_at s None = turn.Idle
answer_at s (Some q) = turn_answer_in s.words (want_of (asked s.calls q (length s.log)).client)

-- the event with the word that it found; or that the turn was a call on a line; or that there was nothing to do
abbrev pub answer_of : State → (seat : ℕ) → Turn
answer_of s seat = answer_at s (slice_get s.seats seat)

-- this came of a turn of the seat, and was answered
pub record IsTurn (old : State) (seat : ℕ) (new : State) (told : Turn) : Type 0 where
  pub world : new ≡ turn_of old seat
  pub answer : told ≡ answer_of old seat

-- the seat has no call under way, and none left
abbrev pub is_done : Want → Bool
is_done want.Done = true
is_done w = false

abbrev pub is_idle : Place → Bool
is_idle q = is_done (want_of q.client) && (q.ended == length q.numbers)

abbrev pub is_idle_at : Option Place → Bool
is_idle_at None = true
is_idle_at (Some q) = is_idle q

-- ---- what a client has counted

abbrev pub tally_at : Option Place → Tally
tally_at None = no_tally
tally_at (Some q) = q.client.registers.tally

-- ---- a call is given

abbrev pub queued : Place → (number : ℕ) → Place
queued q number = record q { numbers = q.numbers ++ number ∷ [] }

abbrev pub give_at : State → (seat : ℕ) → Call → Option Place → State
give_at s seat call None = s
give_at s seat call (Some q) = record s { seats = slice_set s.seats seat (queued q (length s.calls + 1)); calls = s.calls ++ fresh_call seat call ∷ [] }

-- the world after a seat was given a call: it is the last of all calls, and of the seat's
abbrev pub give_of : State → (seat : ℕ) → Call → State
give_of s seat call = give_at s seat call (slice_get s.seats seat)
