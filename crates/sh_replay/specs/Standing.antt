-- Where seats stand among the afters of a sheet, as a replay keeps it.
use Rattle.std.specs.{Prelude.{◌≡◌, ◌≢◌, ◌<◌, ◌≤◌, ◌-◌, ℕ, Bool, true, false, List, length, get_or, slice_get, Option, Some, Result, MatchResult}, Io.KnownBytes.{Appends}}
use Rattle.sh_sheet.specs.{declared.item.Item.{Item}, Marks.{is_passed, stops_of, Stop}}
use Rattle.sh_world.specs.{States.{State}, Turning.{is_idle_at, turn_of}}
use Rattle.sh_text.specs.{declared.write.WriteError.{WriteError}, Write.{CauseOf}}
use Rattle.sh_replay.specs.{declared.{ending.Finish.{Finish}, marks.{AfterRow.{AfterRow}, Marks.{Marks}}, turns.{Outcome.{Outcome}, Plan.{Plan}}}, Clocks.{AreRows}, Course.{can_turn, ended_of, Asking, ByRow, Course, HasFinished, InRound}, Output.{event_lines}, TurnRows.{turn_rows}}
use Rattle.sh_replay.specs.declared.turns.Outcome.TheVariants as outcome

abbrev pub stop_of : AfterRow → Stop
stop_of r = record { seat = r.seat; counts = λ of. get_or r.clock.counts of 0 }

-- Of the seat's rows from one place on, it has passed those before another place. There it is held back by its row; or it
-- isn't held back, where its row there, if there is one, stands behind more calls than have ended.
pub record IsStand (ended : ℕ → ℕ) (seats seat : ℕ) (rows : List AfterRow) (from at : ℕ) (held : Bool) : Type 0 where
  pub past : (i : ℕ) (r : AfterRow) → from ≤ i → i < at → slice_get rows i ≡ Some r → r.seat ≡ seat → is_passed ended seats (stop_of r) ≡ true
  pub here : held ≡ true → (r : AfterRow) × (slice_get rows at ≡ Some r) × (r.seat ≡ seat) × (get_or r.clock.counts seat 0 ≤ ended seat) × (is_passed ended seats (stop_of r) ≡ false)
  pub free : held ≡ false → (r : AfterRow) → slice_get rows at ≡ Some r → (r.seat ≡ seat) × (ended seat < get_or r.clock.counts seat 0)

-- The marks are those of these items, and each seat has passed its rows before its place.
pub record Keeps (items : List Item) (s : State) (m : Marks) : Type 0 where
  pub rows : AreRows m.rows.items (stops_of items)
  pub past : (seat i : ℕ) (r : AfterRow) → i < get_or m.next seat 0 → slice_get m.rows.items i ≡ Some r → r.seat ≡ seat → is_passed (ended_of s) (length s.seats) (stop_of r) ≡ true

-- the world after a seat was asked, by what became of it
abbrev pub IsMove : State → (seat : ℕ) → State → Outcome → Type 0
IsMove s seat t outcome.Turned = t ≡ turn_of s seat
IsMove s seat t outcome.Idle = (is_idle_at (slice_get s.seats seat) ≡ true) × (t ≡ s)
IsMove s seat t outcome.Held = t ≡ s

-- it takes a turn exactly where it can
abbrev pub IsChoice : List Item → State → (seat : ℕ) → Outcome → Type 0
IsChoice items s seat outcome.Turned = can_turn items s seat ≡ true
IsChoice items s seat o = can_turn items s seat ≡ false

-- The replay has come to this point of a course: its world, and how many turns may still be made, are the course's, the
-- marks are those of the items, and what the sink held has grown by the lines of the events so far.
pub record IsAt (items : List Item) (told : Bool) (c : Course) (s : State) (m : Marks) (left : ℕ) (held now : Option (List ℕ)) : Type 0 where
  pub keeps : Keeps items s m
  pub stage : record { world = s; left = left } ≡ c.stage
  pub lines : Appends held now (event_lines told c.events)

-- it is this seat that is asked, and a turn may be made
abbrev pub IsAsk : (seat left : ℕ) → Asking → Type 0
IsAsk seat left (ByRow x) = x ≡ seat
IsAsk seat left (InRound x) = (x ≡ seat) × (left ≢ 0)

-- how many turns may still be made
abbrev pub left_after : Outcome → Asking → (left : ℕ) → ℕ
left_after outcome.Turned (InRound x) left = left - 1
left_after o a left = left

-- the count of faults stays where all was written, and at an error tells its cause
abbrev pub HasCause : {X : Type 0} → ℕ → ℕ → Result X WriteError → Type 0
HasCause before now result = MatchResult result (λ _. now ≡ before) (CauseOf before now)

-- What a run needs of the items.
pub record IsPlan (items : List Item) (p : Plan) : Type 0 where
  pub turns : p.turns.items ≡ turn_rows items
  pub marks : (s : State) → Keeps items s p.marks

-- The course is over: the world is its last one, its rounds ended so, and the lines of all events were written.
pub record HasEnds (told : Bool) (budget : ℕ) (c : Course) (finish : Finish) (s : State) (held now : Option (List ℕ)) : Type 0 where
  pub last : s ≡ c.stage.world
  pub ends : HasFinished budget c.stage finish
  pub lines : Appends held now (event_lines told c.events)
