-- A world as plain data: its words, its log, its seats with their clients, the calls that were given, and the ticket
-- lines of its compute servers.
use Rattle.std.specs.Prelude.{◌≡◌, ℕ, zero, suc, ◌+◌, ◌*◌, ◌<◌, ◌==◌, List, [], ◌∷◌, ◌++◌, filter, replicate, slice_get, Option, None, Some}
use Rattle.sh_base.specs.{declared.config.ConfigParts.{ConfigParts}, Setting.{all_locks, all_seats}}
use Rattle.sh_map.specs.declared.{call.{Call.{Call}, Reply.{Reply}}, log.Entry.{Entry}, book.{Done.{Done}, Row.{Row}}}
use Rattle.sh_client.specs.Machine.{Machine, fresh_machine}
use Rattle.sh_core.specs.Actors.{Actor}
use Rattle.sh_world.specs.declared.state.{GivenCall.{GivenCall}, Line.{Line}}

-- A call that was given to a seat. Once it has ended it has its reply, and first and point are the log's length before its
-- first turn and the point of the log where it is answered, and a range has its rows; before, they are 0 and none.
pub record Given : Type 0 where
  pub seat : ℕ
  pub call : Call
  pub reply : Option Reply
  pub first : ℕ
  pub point : ℕ
  pub rows : List Row

-- A seat: its client; the numbers of its calls, in the order in which they were given, and how many of them have ended;
-- the number of the call under way, or of the last one; its ticket, while it stands in a line; how long the log was that
-- it has seen, and how long before the first turn of its call; and the place of the call's entry.
pub record Place : Type 0 where
  pub client : Machine
  pub numbers : List ℕ
  pub ended : ℕ
  pub number : ℕ
  pub ticket : ℕ
  pub seen : ℕ
  pub first : ℕ
  pub point : ℕ

-- The setting, the words, the log, the seats, all calls in the order in which they were given, and a line for each lock
-- and compute server. A blank world has no seats.
pub record State : Type 0 where
  pub setting : ConfigParts
  pub words : List ℕ
  pub log : List Entry
  pub seats : List Place
  pub calls : List Given
  pub lines : List Line

-- ---- calls

-- a call that was just given
abbrev pub fresh_call : (seat : ℕ) → Call → Given
fresh_call seat call = record { seat = seat; call = call; reply = None; first = 0; point = 0; rows = [] }

-- a call as it is told, and its rows
abbrev pub with_rows : GivenCall → List Row → Given
with_rows c rows = record { seat = c.seat; call = c.call; reply = c.reply; first = c.first; point = c.point; rows = rows }

abbrev pub rows_in : Option Given → List Row
rows_in None = []
rows_in (Some g) = g.rows

-- the rows of the call at this place
abbrev pub rows_at : List Given → (place : ℕ) → List Row
rows_at calls place = rows_in (slice_get calls place)

-- The ended call that this one is, with its number, if it has ended.
abbrev pub done_in : (n : ℕ) → Given → Option Reply → List Done
done_in n g None = []
done_in n g (Some reply) = record { n = n; seat = g.seat; call = g.call; reply = reply; first = g.first; point = g.point; rows = g.rows } ∷ []

-- The ended ones of these calls, of which the first has the number n.
abbrev pub dones_from : (n : ℕ) → List Given → List Done
dones_from n [] = []
dones_from n (g ∷ calls) = done_in n g g.reply ++ dones_from (n + 1) calls

-- The calls that have ended, in the order in which they were given; they are numbered from 1.
abbrev pub dones_of : List Given → List Done
dones_of calls = dones_from 1 calls

-- those of one seat
abbrev pub dones_by : (seat : ℕ) → List Done → List Done
dones_by seat dones = filter (λ (d : Done). d.seat == seat) dones

-- the call at this place is answered, with its rows and its two numbers
abbrev pub answered : List Given → (place : ℕ) → Reply → List Row → (first point : ℕ) → List Given
answered [] place reply rows first point = []
answered (g ∷ calls) zero reply rows first point = record { seat = g.seat; call = g.call; reply = Some reply; first = first; point = point; rows = rows } ∷ calls
answered (g ∷ calls) (suc place) reply rows first point = g ∷ answered calls place reply rows first point

-- ---- seats

-- the seat's client and what its calls were answered, for the core
abbrev pub actor_of : List Given → (seat : ℕ) → Place → Actor
actor_of calls seat q = record { client = q.client; number = q.number; seen = q.seen; first = q.first; point = q.point; dones = dones_by seat (dones_of calls) }

-- this is the seat's actor
pub record HasActor (seats : List Place) (calls : List Given) (seat : ℕ) (a : Actor) : Type 0 where
  pub place : Place
  pub here : slice_get seats seat ≡ Some place
  pub actor_is : a ≡ actor_of calls seat place

-- ---- lines

-- the place of the line of a lock and a compute server
unfoldable pub line_at : ConfigParts → (lock compute : ℕ) → ℕ
line_at p lock compute = lock * p.computes + compute

-- a line where nobody has drawn
abbrev pub free_line : Line
free_line = record { next = 0; served = 0; left = None }

-- the right to this lock lies in the compute server's line, to be handed over so often
pub record IsLeft (p : ConfigParts) (lines : List Line) (lock compute depth : ℕ) : Type 0 where
  pub line : Line
  pub lock_is : lock < all_locks p
  pub compute_is : compute < p.computes
  pub here : slice_get lines (line_at p lock compute) ≡ Some line
  pub left : line.left ≡ Some depth

-- ---- the beginning

abbrev pub fresh_place : ConfigParts → (seat : ℕ) → Place
fresh_place p seat = record { client = fresh_machine p seat; numbers = []; ended = 0; number = 0; ticket = 0; seen = 0; first = 0; point = 0 }

-- so many fresh seats, of which the first has this number
abbrev pub fresh_from : ConfigParts → (seat count : ℕ) → List Place
fresh_from p seat zero = []
fresh_from p seat (suc count) = fresh_place p seat ∷ fresh_from p (seat + 1) count

-- a world of these words, in which nothing has happened
abbrev pub fresh_state : ConfigParts → List ℕ → State
fresh_state p words = record { setting = p; words = words; log = []; seats = fresh_from p 0 (all_seats p); calls = []; lines = replicate (all_locks p * p.computes) free_line }

-- nothing is laid
pub record IsBlank (s : State) : Type 0 where
  pub words : s.words ≡ []
  pub log : s.log ≡ []
  pub seats : s.seats ≡ []
  pub calls : s.calls ≡ []
  pub lines : s.lines ≡ []
