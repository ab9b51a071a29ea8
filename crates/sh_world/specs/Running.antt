-- What holds of a world after any turns.
use Rattle.std.specs.Prelude.{◌≡◌, ◌⊎◌, ℕ, ◌+◌, ◌-◌, ◌^◌, ◌<◌, ◌≤◌, ◌==◌, if◌then◌else◌, true, false, List, [], ◌∷◌, length, slice_get, None, Some}
use Rattle.sh_base.specs.{declared.config.ConfigParts.{ConfigParts}, Setting.{all_seats, IsSetting}}
use Rattle.sh_map.specs.{declared.{call.{Call.{TheVariants.{Get, Del}, Call}, Reply.{Reply}}, log.Entry.{Entry}}, Calls.{IsInRange}}
use Rattle.sh_client.specs.{declared.state.Phase.TheVariants.{Idle}, Rests.{is_resting}}
use Rattle.sh_readers.specs.Points.{HadSince}
use Rattle.sh_core.specs.Core.{Inv}
use Rattle.sh_world.specs.{States.{Given, Place, State, dones_by, dones_of, HasActor, IsBlank, IsLeft}, Lines.{AreLines}}
use Rattle.sh_map.specs.declared.call.Reply.TheVariants as reply

-- ---- points

-- a get, and a delete that found nothing, has a point
abbrev pub HasPoint : List Entry → (first : ℕ) → Call → Reply → Type 0
HasPoint log first (Get key) (reply.Some value) = HadSince log first key (Some value)
HasPoint log first (Get key) reply.None = HadSince log first key None
HasPoint log first (Del key) reply.None = HadSince log first key None
HasPoint log first call reply = Unit {0}

-- ---- calls

-- a call that was given: its seat is one of the setting, and it is in range
pub record IsGiven (p : ConfigParts) (g : Given) : Type 0 where
  pub seat_is : g.seat < all_seats p
  pub in_range : IsInRange p g.call

-- the numbers of a seat's calls, of which the first of these has the number n
abbrev pub numbers_from : (seat n : ℕ) → List Given → List ℕ
numbers_from seat n [] = []
numbers_from seat n (g ∷ calls) = if g.seat == seat then n ∷ numbers_from seat (n + 1) calls else numbers_from seat (n + 1) calls

-- A seat's place: its numbers are those of its calls, and so many of them have ended as are answered; the next one and
-- all behind it aren't answered. Its client is at rest, or at the next call.
pub record IsPlace (calls : List Given) (seat : ℕ) (q : Place) : Type 0 where
  pub numbers : q.numbers ≡ numbers_from seat 1 calls
  pub ended : q.ended ≤ length q.numbers
  pub count : length (dones_by seat (dones_of calls)) ≡ q.ended
  pub waiting : (n place : ℕ) (g : Given) → slice_get q.numbers q.ended ≡ Some n → n ≤ place + 1 → slice_get calls place ≡ Some g → g.seat ≡ seat → g.reply ≡ None
  pub rests : is_resting q.client ≡ true → q.client.phase ≡ Idle
  pub busy : is_resting q.client ≡ false → slice_get q.numbers q.ended ≡ Some q.number
  pub call : (g : Given) → is_resting q.client ≡ false → slice_get calls (q.number - 1) ≡ Some g → g.call ≡ q.client.registers.call

-- ---- the world

-- A world whose pool is laid, after any turns.
pub record IsRunning (s : State) : Type 0 where
  pub setting : IsSetting s.setting
  pub inv : Inv s.setting s.words s.log (HasActor s.seats s.calls) (IsLeft s.setting s.lines)
  pub seats : length s.seats ≡ all_seats s.setting
  pub lines : AreLines s.setting s.seats s.lines
  pub places : (seat : ℕ) (q : Place) → slice_get s.seats seat ≡ Some q → IsPlace s.calls seat q
  pub given : (place : ℕ) (g : Given) → slice_get s.calls place ≡ Some g → IsGiven s.setting g
  pub few : length s.calls < 2 ^ 32
  pub points : (seat : ℕ) (q : Place) → slice_get s.seats seat ≡ Some q → q.point ≤ length s.log
  pub by_seats : (place : ℕ) (e : Entry) → slice_get s.log place ≡ Some e → e.seat < all_seats s.setting

-- Any world: a blank one, or one that runs, with more room in its log than there are calls, and calls that are kept for
-- its setting.
abbrev pub IsWorld : State → (room : ℕ) → (kept : ConfigParts) → Type 0
IsWorld s room kept = IsBlank s ⊎ (IsRunning s × (length s.calls < room) × (kept ≡ s.setting))
