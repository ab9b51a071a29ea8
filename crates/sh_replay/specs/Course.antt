-- The course of a replay: all calls are given, and then seats are asked one after another, first by the sheet's rows of
-- turns and then in rounds of all seats.
use Rattle.std.specs.{Prelude.{◌≡◌, ℕ, zero, suc, ◌+◌, ◌-◌, ◌*◌, ◌==◌, ◌++◌, if◌then◌else◌, ◌&&◌, not, Bool, true, false, is_some, List, [], ◌∷◌, length, map, slice_get}, List.{flat_map, fold, list_all, range_with_len, sum_by}}
use Rattle.sh_base.specs.declared.{config.ConfigParts.{ConfigParts}, event.Event.{Event}}
use Rattle.sh_sheet.specs.{declared.item.Item.{Item, TheVariants.{Ask, Mark, After, Turn}}, Sheet.{item_calls}, Marks.{is_held}}
use Rattle.sh_world.specs.{States.{Given, State, dones_by, dones_of, fresh_state}, Turning.{answer_of, give_of, is_idle_at, turn_of}, declared.turn.Turn.{Turn as Answer}}
use Rattle.sh_world.specs.declared.turn.Turn.TheVariants as turn
use Rattle.sh_replay.specs.declared.ending.Finish.{Finish, TheVariants.{Done, Spent}}

-- a call is given to its seat
abbrev pub given_by : State → Item → State
given_by s (Ask seat call) = give_of s seat call
given_by s (Mark seat n) = s
given_by s (After seat n) = s
given_by s (Turn seat count) = s

-- ---- one seat is asked

-- a seat that is asked by a row of turns, or in a round
pub data Asking : Type 0 where
  ByRow : ℕ → Asking
  InRound : ℕ → Asking

-- a world, and how many turns may still be made in its rounds
pub record Stage : Type 0 where
  pub world : State
  pub left : ℕ

abbrev pub seat_of : Asking → ℕ
seat_of (ByRow seat) = seat
seat_of (InRound seat) = seat

-- the seat has a call under way, or one left
abbrev pub is_busy : State → (seat : ℕ) → Bool
is_busy s seat = not (is_idle_at (slice_get s.seats seat))

-- how many of the seat's calls have ended
abbrev pub ended_of : State → (seat : ℕ) → ℕ
ended_of s seat = length (dones_by seat (dones_of s.calls))

-- it stands before one of the items' afters, whose mark isn't passed
abbrev pub is_held_back : List Item → State → (seat : ℕ) → Bool
is_held_back items s seat = is_held items (ended_of s) (length s.seats) seat

abbrev pub can_turn : List Item → State → (seat : ℕ) → Bool
can_turn items s seat = is_busy s seat && not (is_held_back items s seat)

-- whether the seat takes a turn: it is busy and isn't held back, and in a round a turn may still be made
abbrev pub takes : List Item → Stage → Asking → Bool
takes items s (ByRow seat) = can_turn items s.world seat
takes items s (InRound seat) = if s.left == 0 then false else can_turn items s.world seat

-- the stage after a turn of the seat; one in a round is spent
abbrev pub turned : Stage → Asking → Stage
turned s (ByRow seat) = record { world = turn_of s.world seat; left = s.left }
turned s (InRound seat) = record { world = turn_of s.world seat; left = s.left - 1 }

-- the stage when this was asked
abbrev pub ask : List Item → Stage → Asking → Stage
ask items s a = if takes items s a then turned s a else s

-- ---- the events

-- a seat's event, and the word that it found
pub record SeatEvent : Type 0 where
  pub seat : ℕ
  pub event : Event
  pub found : ℕ

-- what is found in a turn: an event, and nothing where the turn is a call on a ticket line
abbrev pub found_in : (seat : ℕ) → Answer → List SeatEvent
found_in seat (turn.Event e found) = record { seat = seat; event = e; found = found } ∷ []
found_in seat turn.Local = []
found_in seat turn.Idle = []

abbrev pub events_by : List Item → Stage → Asking → List SeatEvent
events_by items s a = if takes items s a then found_in (seat_of a) (answer_of s.world (seat_of a)) else []

-- how far a course has come: its stage, and the events of all turns so far, in their order
pub record Course : Type 0 where
  pub stage : Stage
  pub events : List SeatEvent

abbrev pub goes_on : List Item → Course → Asking → Course
goes_on items c a = record { stage = ask items c.stage a; events = c.events ++ events_by items c.stage a }

-- before anyone was asked
abbrev pub begun : State → (budget : ℕ) → Course
begun s budget = record { stage = record { world = s; left = budget }; events = [] }

-- the course from this world on, with these items' marks and afters, in whose rounds so many turns may be made, when all
-- these were asked
abbrev pub course_from : List Item → State → (budget : ℕ) → List Asking → Course
course_from items s budget asks = fold (goes_on items) (begun s budget) asks

-- ---- who is asked

-- a seat, so often
abbrev pub turn_asks : (seat count : ℕ) → List Asking
turn_asks seat zero = []
turn_asks seat (suc count) = ByRow seat ∷ turn_asks seat count

abbrev pub item_asks : Item → List Asking
item_asks (Ask seat call) = []
item_asks (Mark seat n) = []
item_asks (After seat n) = []
item_asks (Turn seat count) = turn_asks seat count

-- the seats of the rows of turns
abbrev pub row_asks : List Item → List Asking
row_asks items = flat_map item_asks items

-- all seats, rising
abbrev pub round_asks : (seats : ℕ) → List Asking
round_asks seats = map InRound (range_with_len 0 seats)

-- so many rounds
abbrev pub rounds_asks : (count seats : ℕ) → List Asking
rounds_asks zero seats = []
rounds_asks (suc count) seats = round_asks seats ++ rounds_asks count seats

-- As many rounds follow the rows as turns may be made in them. A round in which a call hasn't ended makes a turn, so behind
-- the last one every call has ended, or all the turns were made.
abbrev pub all_asks : List Item → (seats budget : ℕ) → List Asking
all_asks items seats budget = row_asks items ++ rounds_asks budget seats

-- ---- the whole course

-- what becomes of a world that was given its calls
abbrev pub finished : State → List Item → (budget : ℕ) → Course
finished s items budget = course_from items s budget (all_asks items (length s.seats) budget)

-- how many turns the rounds of so many calls may make
abbrev pub budget_of : (calls : ℕ) → ℕ
budget_of calls = 4096 + 100000 * calls

-- the world of these laid words that was given the items' calls
abbrev pub given : ConfigParts → (words : List ℕ) → List Item → State
given p words items = fold given_by (fresh_state p words) items

-- the course's end, over these laid words
abbrev pub course : ConfigParts → (words : List ℕ) → List Item → Course
course p words items = finished (given p words items) items (budget_of (sum_by item_calls items))

-- every call has ended
abbrev pub have_ended : List Given → Bool
have_ended calls = list_all (λ (g : Given). is_some g.reply) calls

-- How the rounds ended: every call has ended, or so many turns were made as were allowed, and a call hasn't ended.
abbrev pub HasFinished : (budget : ℕ) → Stage → Finish → Type 0
HasFinished budget r (Done turns) = (have_ended r.world.calls ≡ true) × (turns + r.left ≡ budget)
HasFinished budget r (Spent turns) = (have_ended r.world.calls ≡ false) × (turns ≡ budget) × (r.left ≡ 0)
