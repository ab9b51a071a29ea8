-- The lines of an answer. Each ends with a line feed; numbers are decimal, without leading zeros.
use Rattle.std.specs.{Prelude.{ℕ, Bool, List, [], ◌∷◌, ◌++◌, nat_lt, codes, if◌then◌else◌, length, sum}, Fmt.{decimal}, List.{flat_map, sum_by}}
use Rattle.sh_base.specs.{declared.event.Event.{Event}, Memory.{at_of}}
use Rattle.sh_base.specs.declared.event.Event.TheVariants as event
use Rattle.sh_map.specs.declared.{call.{Call.{Call, TheVariants.{Get, Put, Del, Range}}, Reply.{Reply}}, book.{Row.{Row}, Done.{Done}}}
use Rattle.sh_map.specs.declared.call.Reply.TheVariants as reply
use Rattle.sh_text.specs.declared.{finished.Finished.{Finished}, points.Points.{Points}}
use Rattle.sh_text.specs.declared.points.Points.TheVariants as points

-- a value: its words, joined by colons
abbrev pub value_text : List ℕ → List ℕ
value_text [] = []
value_text (word ∷ words) = decimal word ++ flat_map (λ w. codes ":" ++ decimal w) words

-- a call's word
abbrev pub op_text : Call → List ℕ
op_text (Get key) = codes "get"
op_text (Put key value) = codes "put"
op_text (Del key) = codes "del"
op_text (Range low high) = codes "range"

-- a call's a: its key, or a range's low
abbrev pub a_of : Call → ℕ
a_of (Get key) = key
a_of (Put key value) = key
a_of (Del key) = key
a_of (Range low high) = low

-- a call's b: a put's value, a range's high, and else empty
abbrev pub b_text : Call → List ℕ
b_text (Get key) = []
b_text (Put key value) = value_text value
b_text (Del key) = []
b_text (Range low high) = decimal high

-- a reply's word; a range that stopped below its high is answered in part
abbrev pub reply_text : Call → Reply → List ℕ
reply_text call (reply.Some value) = codes "some"
reply_text call reply.None = codes "none"
reply_text (Range low high) (reply.Rows upto) = if nat_lt upto high then codes "part" else codes "rows"
reply_text call (reply.Rows upto) = codes "rows"
reply_text call reply.Full = codes "full"
reply_text call (reply.Worn version) = codes "worn"

-- a reply's value: the value that was there, how far a range's rows go, or the version that is worn
abbrev pub reply_value : Reply → List ℕ
reply_value (reply.Some value) = value_text value
reply_value reply.None = []
reply_value (reply.Rows upto) = decimal upto
reply_value reply.Full = []
reply_value (reply.Worn version) = decimal version

-- where in the log a reply is answered: a point, for a range the two ends of its points, and empty where it isn't
abbrev pub point_text : Reply → ℕ → ℕ → List ℕ
point_text (reply.Some value) first point = decimal point
point_text reply.None first point = decimal point
point_text (reply.Rows upto) first point = decimal first ++ (codes ":" ++ decimal point)
point_text reply.Full first point = []
point_text (reply.Worn version) first point = []

-- what ends a call's line behind its value: the column of points, where it is shown, and the line feed
abbrev pub point_column : Points → Reply → ℕ → ℕ → List ℕ
point_column points.Shown r first point = codes "," ++ (point_text r first point ++ codes "\n")
point_column points.Hidden r first point = codes "\n"

-- the front of a call's line: its number, its seat, its word, a and b
abbrev pub call_front : ℕ → ℕ → Call → List ℕ
call_front n seat call = (decimal n ++ codes ",") ++ ((decimal seat ++ codes ",") ++ ((op_text call ++ codes ",") ++ ((decimal (a_of call) ++ codes ",") ++ (b_text call ++ codes ","))))

-- the rest: the reply's word, its value and its point
abbrev pub call_rest : Points → Finished → List ℕ
call_rest shown d = (reply_text d.call d.reply ++ codes ",") ++ (reply_value d.reply ++ point_column shown d.reply d.first d.point)

-- the line of a finished call
unfoldable pub call_line : Points → Finished → List ℕ
call_line shown d = call_front d.n d.seat d.call ++ call_rest shown d

-- the rest of the line of a call that hasn't ended: no value, and no point
abbrev pub pending_rest : Points → List ℕ
pending_rest points.Shown = codes "pending,,\n"
pending_rest points.Hidden = codes "pending,\n"

-- the line of a call that hasn't ended
unfoldable pub pending_line : Points → ℕ → ℕ → Call → List ℕ
pending_line shown n seat call = call_front n seat call ++ pending_rest shown

-- a key and its value, and the end of a line
abbrev pub pair_rest : Row → List ℕ
pair_rest r = (decimal r.key ++ codes ",") ++ (value_text r.value ++ codes "\n")

-- the line of one of the rows of range n
unfoldable pub row_line : ℕ → Row → List ℕ
row_line n r = codes "row," ++ ((decimal n ++ codes ",") ++ pair_rest r)

-- a finished call without its rows
abbrev pub finished_of : Done → Finished
finished_of d = record { n = d.n; seat = d.seat; call = d.call; reply = d.reply; first = d.first; point = d.point }

-- the lines of a finished call: its own, and those of its rows in their order
abbrev pub call_text : Points → Done → List ℕ
call_text shown d = call_line shown (finished_of d) ++ flat_map (row_line d.n) d.rows

-- the lines of finished calls
abbrev pub calls_text : Points → List Done → List ℕ
calls_text shown dones = flat_map (call_text shown) dones

-- the line of a key of the map and its value
unfoldable pub map_line : Row → List ℕ
map_line r = codes "map," ++ pair_rest r

-- the last line of a run whose calls have all ended: how many calls there were, how many keys there are, and the sum of
-- all words of their values
unfoldable pub end_line : ℕ → ℕ → ℕ → List ℕ
end_line calls keys sum = codes "end," ++ ((decimal calls ++ codes ",") ++ ((decimal keys ++ codes ",") ++ (decimal sum ++ codes "\n")))

-- the last line of a run that was given up: how many calls there were, and how many of them have ended
unfoldable pub unfinished_line : ℕ → ℕ → List ℕ
unfinished_line calls done = codes "unfinished," ++ ((decimal calls ++ codes ",") ++ (decimal done ++ codes "\n"))

-- an event's word
abbrev pub event_text : Event → List ℕ
event_text (event.Load at) = codes "load"
event_text (event.Store at word) = codes "store"
event_text (event.Exchange at old new) = codes "exchange"
event_text (event.Add at) = codes "add"

-- the words of an event: what a store puts, what an exchange looks for and what it puts, and the word that was found,
-- but by a store
abbrev pub event_words : Event → ℕ → List ℕ
event_words (event.Load at) found = decimal found ++ codes "\n"
event_words (event.Store at word) found = decimal word ++ codes "\n"
event_words (event.Exchange at old new) found = (decimal old ++ codes ",") ++ ((decimal new ++ codes ",") ++ (decimal found ++ codes "\n"))
event_words (event.Add at) found = decimal found ++ codes "\n"

-- the line of a seat's event and the word that it found
unfoldable pub event_line : ℕ → Event → ℕ → List ℕ
event_line seat e found = codes "event," ++ ((decimal seat ++ codes ",") ++ ((event_text e ++ codes ",") ++ ((decimal (at_of e) ++ codes ",") ++ event_words e found)))

-- the line of made calls: how many, and their seed
unfoldable pub made_line : ℕ → ℕ → List ℕ
made_line n seed = codes "made," ++ ((decimal n ++ codes ",") ++ (decimal seed ++ codes "\n"))

-- the sum of all words of the rows' values
abbrev pub sum_of : List Row → ℕ
sum_of rows = sum_by (λ (r : Row). sum r.value) rows

-- a line for each key, where the map is asked for
abbrev pub map_lines : (asked : Bool) → List Row → List ℕ
map_lines asked rows = if asked then flat_map map_line rows else []

-- the lines behind the calls' lines, where every call has ended: the map where it is asked for, the numbers of calls and
-- keys, and the sum of all words of the keys' values
abbrev pub end_lines : (asked : Bool) → (calls : ℕ) → List Row → List ℕ
end_lines asked calls rows = map_lines asked rows ++ end_line calls (length rows) (sum_of rows)
