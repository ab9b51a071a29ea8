-- What a feed and its tokens are to their callers.
use Rattle.std.specs.{Prelude.{◌≡◌, ℕ, zero, suc, ◌+◌, Option, Some, List, [], ◌∷◌, ◌++◌, length, map}, List.{AllByRecursion}}
use Rattle.atomic_table.specs.Seated.{TableId}
use Rattle.crossbeam_queue.specs.{Fifo.{Held}, Passes.{Pass}}
use Rattle.sh_base.specs.declared.config.ConfigParts.{ConfigParts}
use Rattle.sh_feed.specs.{declared.{job.Job.{Job}, state.State.{State, TheVariants.{Blank, Open, Gathered}}, view.{Setup.{Setup}, View.{View}}}, Views.{giver_view, taker_view}, Rule.{Moment}}

-- a giver: its feed, the setup, and the jobs it gave
pub record Giving : Type 0 where
  pub feed : TableId
  pub setup : Option Setup
  pub gave : List Job

-- a taker: its feed, its number, the setup, and the jobs it took
pub record Taking : Type 0 where
  pub feed : TableId
  pub number : ℕ
  pub setup : Option Setup
  pub took : List Job

abbrev pub giving : Pass Job View → Giving
giving p = record { feed = p.table_id; setup = p.me.0.client.setup; gave = p.me.0.client.gave }

abbrev pub taking : ℕ → Pass Job View → Taking
taking n p = record { feed = p.table_id; number = n; setup = p.me.0.client.setup; took = p.me.0.client.took }

-- the token of a giver that took in no taker, and that of a taker; no slot is out
abbrev pub IsGiver : Pass Job View → Type 0
IsGiver p = (p.me.1 ≡ []) × (p.me.0.client ≡ giver_view p.me.0.client.setup 1 p.me.0.client.gave [])

abbrev pub IsTaker : Pass Job View → Type 0
IsTaker p = (p.me.1 ≡ []) × (p.me.0.client ≡ taker_view p.me.0.client.setup p.me.0.client.took)

-- a feed that wasn't started, one that is in use, with the name of its queue, and one that was gathered: what was given, and what each taker took
pub data FeedState : Type 0 where
  blank : FeedState
  open_at : TableId → FeedState
  gathered : List Job → List (List Job) → FeedState

abbrev pub state_of : State → FeedState
state_of Blank = blank
state_of (Open q) = open_at q
state_of (Gathered p) = gathered p.value.me.0.client.gave p.value.me.0.client.others

abbrev pub IsOpen : FeedState → Type 0
IsOpen blank = ⊥
IsOpen (open_at y) = Unit {0}
IsOpen (gathered a b) = ⊥

-- the feed is in use, and this is its name
abbrev pub IsOpenAt : FeedState → TableId → Type 0
IsOpenAt blank z = ⊥
IsOpenAt (open_at y) z = z ≡ y
IsOpenAt (gathered a b) z = ⊥

abbrev pub AllAt : TableId → List Taking → Type 0
AllAt z ts = AllByRecursion (λ (t : Taking). t.feed ≡ z) ts

abbrev pub took_by : Taking → List Job
took_by t = t.took

abbrev pub setup_of : ConfigParts → ℕ → Setup
setup_of p n = record { parts = p; takers = n }

-- so many takers, numbered from 0, that have taken nothing
abbrev pub fresh_takers : TableId → Option Setup → ℕ → List Taking
fresh_takers z s zero = []
fresh_takers z s (suc n) = fresh_takers z s n ++ record { feed = z; number = n; setup = s; took = [] } ∷ []

abbrev pub IsStarted : ConfigParts → ℕ → FeedState → Giving → List Taking → Type 0
IsStarted p n f g ts = (f ≡ open_at g.feed) × (g.setup ≡ Some (setup_of p n)) × (g.gave ≡ []) × (ts ≡ fresh_takers g.feed g.setup n)

-- at a moment at which the token had made just these calls, so many jobs lay in the queue
abbrev pub GiverSaw : ℕ → Giving → Type 0
GiverSaw n g = Held n (Moment (giver_view g.setup 1 g.gave []))

abbrev pub TakerSaw : ℕ → Taking → Type 0
TakerSaw n t = Held n (Moment (taker_view t.setup t.took))

-- the giver's view has taken in all takers but the rest
pub record IsTakenIn (takers rest : List Taking) (giver now : View) : Type 0 where
  pub done : List Taking
  pub whole : takers ≡ rest ++ done
  pub view : now ≡ giver_view giver.setup (length done + 1) giver.gave (map took_by done)
