-- The output of a replay: the lines of the events and of each call, and the last lines.
use Rattle.std.specs.{Prelude.{ℕ, ◌+◌, Bool, List, [], ◌∷◌, ◌++◌, length, Option, Some, None, is_some, if◌then◌else◌}, List.{flat_map, sum_by}}
use Rattle.sh_map.specs.declared.{book.Row.{Row}, call.{Call.{Call}, Reply.{Reply}}}
use Rattle.sh_text.specs.declared.points.Points.TheVariants as points
use Rattle.sh_text.specs.{Text.{call_text, end_lines, event_line, made_line, pending_line, unfinished_line}, Counts.{counts_line, counts_of, with_answer}, declared.counts.Counts.{Counts}}
use Rattle.sh_options.specs.Order.{Asked}
use Rattle.sh_world.specs.States.{Given, dones_of}
use Rattle.sh_replay.specs.Course.{have_ended, SeatEvent}

-- the lines of a call that has ended so, with those of its rows, or the line of one that hasn't ended
abbrev pub text_with : (n : ℕ) → Given → Option Reply → List ℕ
text_with n g None = pending_line points.Shown n g.seat g.call
text_with n g (Some reply) = call_text points.Shown (record { n = n; seat = g.seat; call = g.call; reply = reply; first = g.first; point = g.point; rows = g.rows })

-- the lines of these calls, of which the first has the number n
abbrev pub lines_from : (n : ℕ) → List Given → List ℕ
lines_from n [] = []
lines_from n (g ∷ calls) = text_with n g g.reply ++ lines_from (n + 1) calls

-- whether a call has ended, as a number; and how many of them have
abbrev pub ended_by : Given → ℕ
ended_by g = if is_some g.reply then 1 else 0

abbrev pub count_ended : List Given → ℕ
count_ended calls = sum_by ended_by calls

abbrev pub last_lines : (asked : Bool) → List Given → List Row → List ℕ
last_lines asked calls rows = if have_ended calls then end_lines asked (length calls) rows else unfinished_line (length calls) (count_ended calls)

-- the counts with this call, where it has ended; and how many calls they count
abbrev pub counted : Counts → Call → Option Reply → Counts
counted c call None = c
counted c call (Some reply) = with_answer c call reply

abbrev pub total : Counts → ℕ
total c = c.some + c.none + c.rows + c.part + c.full + c.worn

-- what is told of the calls: the lines of each; or of made calls how many they are, their seed, and how many were answered
-- in which way
abbrev pub calls_lines : (make : Option ℕ) → (seed : ℕ) → List Given → List ℕ
calls_lines None seed calls = lines_from 1 calls
calls_lines (Some n) seed calls = made_line n seed ++ counts_line (counts_of (dones_of calls))

-- the output of an order behind its events: for these calls, and the rows that the words hold
unfoldable pub lines_behind : Asked → List Given → List Row → List ℕ
lines_behind o calls rows = calls_lines o.make o.seed calls ++ last_lines o.map calls rows

-- a line for each event, where they are asked for
abbrev pub line_of : SeatEvent → List ℕ
line_of e = event_line e.seat e.event e.found

abbrev pub event_lines : (asked : Bool) → List SeatEvent → List ℕ
event_lines asked es = if asked then flat_map line_of es else []

-- the whole output
abbrev pub text_of : Asked → List SeatEvent → List Given → List Row → List ℕ
text_of o events calls rows = event_lines o.events events ++ lines_behind o calls rows
