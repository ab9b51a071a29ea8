-- The ticket lines of locks: who stands in a line, who is served, and what was left for the next.
use Rattle.std.specs.Prelude.{◌≡◌, ℕ, ◌*◌, ◌^◌, ◌<◌, ◌≤◌, List, length, slice_get, None, Some}
use Rattle.sh_base.specs.{declared.config.ConfigParts.{ConfigParts}, Setting.{all_locks, all_seats}, Layout.{compute_of}}
use Rattle.sh_client.specs.InLine.{stand_of, IsIn, HasTurn, WillHand}
use Rattle.sh_world.specs.{declared.state.Line.{Line}, States.{Place, line_at}, Turning.{minus}}

-- the seat with this place stands in the line of a lock and a compute server
pub record StandsIn (p : ConfigParts) (seats : List Place) (lock compute seat : ℕ) (q : Place) : Type 0 where
  pub here : slice_get seats seat ≡ Some q
  pub compute_is : compute_of p seat ≡ compute
  pub stands : IsIn lock (stand_of q.client)

-- a seat stands in it, and so many tickets are before its own
pub record IsAtPlace (p : ConfigParts) (seats : List Place) (lock compute served k : ℕ) : Type 0 where
  pub seat : ℕ
  pub place : Place
  pub stands : StandsIn p seats lock compute seat place
  pub behind : minus place.ticket served ≡ k

-- A line: its numbers are words; the tickets that are out are those from the served one on, up to but without the next
-- one, and each is a seat's that stands in the line, and no two are one seat's. A seat that has its turn there has the
-- served ticket, and nothing is left in the line. A seat that is to hand the lock over has another behind it. What is left
-- belongs to the served ticket, which is out, and is at most the bound.
pub record IsLine (p : ConfigParts) (seats : List Place) (lock compute : ℕ) (line : Line) : Type 0 where
  pub next : line.next < 2 ^ 64
  pub served : line.served < 2 ^ 64
  pub few : minus line.next line.served ≤ all_seats p
  pub each : (k : ℕ) → k < minus line.next line.served → IsAtPlace p seats lock compute line.served k
  pub out : (seat : ℕ) (q : Place) → StandsIn p seats lock compute seat q → (q.ticket < 2 ^ 64) × (minus q.ticket line.served < minus line.next line.served)
  pub differ : (i j : ℕ) (q r : Place) → StandsIn p seats lock compute i q → StandsIn p seats lock compute j r → q.ticket ≡ r.ticket → i ≡ j
  pub turn : (seat : ℕ) (q : Place) → StandsIn p seats lock compute seat q → HasTurn lock (stand_of q.client) → (q.ticket ≡ line.served) × (line.left ≡ None)
  pub ahead : (seat : ℕ) (q : Place) → StandsIn p seats lock compute seat q → WillHand lock (stand_of q.client) → 2 ≤ minus line.next line.served
  pub left : (depth : ℕ) → line.left ≡ Some depth → (1 ≤ minus line.next line.served) × (depth ≤ p.bound)

-- each line is one, and each seat in a line is in one of the setting
pub record AreLines (p : ConfigParts) (seats : List Place) (lines : List Line) : Type 0 where
  pub count : length lines ≡ all_locks p * p.computes
  pub each : (lock compute : ℕ) (line : Line) → lock < all_locks p → compute < p.computes → slice_get lines (line_at p lock compute) ≡ Some line → IsLine p seats lock compute line
  pub within : (seat : ℕ) (q : Place) (lock : ℕ) → slice_get seats seat ≡ Some q → IsIn lock (stand_of q.client) → lock < all_locks p
