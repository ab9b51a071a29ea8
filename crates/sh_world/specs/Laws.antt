-- What holds of a world whose pool is laid, after any calls were given and any turns were taken.
use Rattle.std.specs.Prelude.{◌≡◌, ◌≢◌, ◌↔◌, ℕ, ◌≤◌, true, false, List, [], ◌++◌, length, slice_get, Option, Some, None}
use Rattle.sh_base.specs.{declared.event.Event.{Event}, Memory.{found_by}, Setting.{all_seats}}
use Rattle.sh_map.specs.declared.log.Entry.{Entry}
use Rattle.sh_client.specs.{declared.state.Want.{Want}, Giving.{makes}, Wants.{want_of}}
use Rattle.sh_client.specs.declared.state.Want.TheVariants as want
use Rattle.sh_core.specs.{Actors.{Actor}, Causes.{HaveCauses}}
use Rattle.sh_core_says.specs.{Books.{counter_in, HasAnswers, IsLawfulBook}, Moments.{IsMoment}, Rest.{AreAtRest}}
use Rattle.sh_core_turns.specs.Senses.{is_senseless}
use Rattle.sh_world.specs.declared.turn.Turn.TheVariants as turn
use Rattle.sh_world.specs.{States.{Given, Place, State, dones_of, HasActor, IsLeft}, Turning.{answer_of, asked, is_idle_at, turn_of}, Lines.{AreLines}}

-- the clients of its seats, and the rights that lie in its lines
abbrev pub Clients : State → ℕ → Actor → Type 0
Clients s = HasActor s.seats s.calls

abbrev pub Rights : State → (lock compute depth : ℕ) → Type 0
Rights s = IsLeft s.setting s.lines

-- each refusal has its cause
abbrev pub RefusalsHaveCauses : State → Type 0
RefusalsHaveCauses s = HaveCauses s.setting (counter_in s.setting s.words) s.log (dones_of s.calls)

-- every seat is idle
abbrev pub AllIdle : State → Type 0
AllIdle s = (seat : ℕ) (q : Place) → slice_get s.seats seat ≡ Some q → is_idle_at (Some q) ≡ true

-- There are as many seats as the setting has. At each moment the standing words hold a lawful tree with the log's map, and
-- each lock has at most one holder. The book is lawful; an entry that is no ended call's own is that of its seat's call
-- under way. Each refusal has its cause, and each call is answered at its point. No client comes to a senseless case. The
-- ticket lines agree. Where every seat is idle each call has ended, the words themselves hold the tree, the book is closed, and as many nodes
-- aren't posted as were skipped.
pub record IsLawfulWorld (s : State) : Type 0 where
  pub seats : length s.seats ≡ all_seats s.setting
  pub moment : IsMoment s.setting s.words s.log (Clients s) (Rights s)
  pub book : IsLawfulBook (Clients s) s.log (dones_of s.calls)
  pub causes : RefusalsHaveCauses s
  pub answers : (seat : ℕ) (a : Actor) → Clients s seat a → HasAnswers s.log seat a
  pub senses : (seat : ℕ) (a : Actor) (e : Event) → Clients s seat a → want_of a.client ≡ want.Event e → is_senseless a.client (found_by s.words e) ≡ false
  pub lines : AreLines s.setting s.seats s.lines
  pub few : length s.log ≤ length s.calls
  pub ended : AllIdle s → (place : ℕ) (g : Given) → slice_get s.calls place ≡ Some g → g.reply ≢ None
  pub rest : AllIdle s → AreAtRest s.setting s.words s.log (Clients s)

-- the entries that a turn makes: those of the event that is wanted, and none on a line
abbrev pub entries_wanted : Place → Want → List Entry
entries_wanted q (want.Event e) = makes q.client
entries_wanted q w = []

abbrev pub entries_at : State → Option Place → List Entry
entries_at s None = []
entries_at s (Some q) = entries_wanted (asked s.calls q (length s.log)) (want_of (asked s.calls q (length s.log)).client)

abbrev pub entries_of_turn : State → (seat : ℕ) → List Entry
entries_of_turn s seat = entries_at s (slice_get s.seats seat)

-- a turn extends the log by one entry at most, that of the event's last store
pub record Extends (s : State) (seat : ℕ) : Type 0 where
  pub log : (turn_of s seat).log ≡ s.log ++ entries_of_turn s seat
  pub one : length (entries_of_turn s seat) ≤ 1

-- a turn is idle exactly where the seat has no call under way and none left, and then nothing changes
pub record IdlesRight (s : State) (seat : ℕ) : Type 0 where
  pub cause : (answer_of s seat ≡ turn.Idle) ↔ (is_idle_at (slice_get s.seats seat) ≡ true)
  pub same : answer_of s seat ≡ turn.Idle → turn_of s seat ≡ s
