-- Seats that are asked in a round, and lists of seats from which idle ones are left out.
use Rattle.std.specs.Prelude.{◌≡◌, ◌≢◌, ◌≤◌, ◌⊎◌, ℕ, true, false, List, [], ◌∷◌, length, slice_get, take}
use Rattle.sh_sheet.specs.declared.item.Item.{Item}
use Rattle.sh_world.specs.{States.{State}, Turning.{is_idle_at}}
use Rattle.sh_replay.specs.declared.turns.Left.{Left}
use Rattle.sh_replay.specs.Course.{goes_on, takes, Course, InRound, Stage}

-- the seat is asked in a round
abbrev pub goes_in : List Item → Course → (seat : ℕ) → Course
goes_in items c seat = goes_on items c (InRound seat)

-- no seat takes a turn any more
abbrev pub AllRest : List Item → Stage → Type 0
AllRest items r = (seat : ℕ) → takes items r (InRound seat) ≡ false

-- every seat is idle
abbrev pub AllIdle : State → Type 0
AllIdle s = (seat : ℕ) → is_idle_at (slice_get s.seats seat) ≡ true

-- the second list is the first without some seats that are idle
abbrev pub Thins : State → List ℕ → List ℕ → Type 0
Thins s [] ys = ys ≡ []
Thins s (x ∷ xs) ys = ((is_idle_at (slice_get s.seats x) ≡ true) × Thins s xs ys) ⊎ ((rest : List ℕ) × (ys ≡ x ∷ rest) × Thins s xs rest)

-- What a round leaves of the seats that are asked: they are those from which idle ones are left out.
pub record IsThinned (old : State) (seats : List ℕ) (asked : Left) (new : State) (kept : List ℕ) (left : Left) : Type 0 where
  pub turns : left.turns ≤ asked.turns
  pub count : left.seats ≤ asked.seats
  pub long : length kept ≡ length seats
  pub idle : (x : ℕ) → is_idle_at (slice_get old.seats x) ≡ true → is_idle_at (slice_get new.seats x) ≡ true
  pub thins : left.turns ≢ 0 → Thins new (take asked.seats seats) (take left.seats kept)
