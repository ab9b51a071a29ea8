-- Turns of a pass that are no step on the table of words: its view is told of them with the next step.
use Rattle.std.specs.Prelude.{◌≡◌, ℕ, ◌+◌, true, None, List, [], ◌∷◌, length}
use Rattle.sh_base.specs.declared.config.ConfigParts.{ConfigParts}
use Rattle.sh_map.specs.{declared.{call.Call.{Call}, log.Entry.{Entry}}, Calls.{IsInRange}}
use Rattle.sh_decide.specs.declared.state.Aim.{Aim}
use Rattle.sh_client.specs.{declared.state.Phase.TheVariants.{Look}, Rests.{is_resting}, Wants.{want_of}}
use Rattle.sh_core.specs.{Actors.{Actor, actor_begun, actor_stepped, actor_turned}, Core.{IsLocal}}
use Rattle.sh_core_says.specs.Books.{HasAnswers}
use Rattle.sh_pool_rule.specs.{declared.view.{PassView.{PassView}, Tiding.{Tiding, TheVariants.{CallTold, TurnTold, WordTold}}}, Views.{member, own, view_seat}, Rights.{IsHanding}}

-- a call is begun; a local turn is answered by this word; a look has its turn, and no right was left
pub data UntoldTurn : Type 0 where
  CallBegun : Call → UntoldTurn
  WordAnswered : ℕ → UntoldTurn
  TurnServed : UntoldTurn

-- the actor behind it, where its seat has seen this log
abbrev pub untold_after : (seat : ℕ) → List Entry → Actor → UntoldTurn → Actor
untold_after k seen a (CallBegun call) = actor_begun a (a.number + 1) call (length seen)
untold_after k seen a (WordAnswered word) = actor_stepped k a seen word
untold_after k seen a TurnServed = actor_turned k a seen None

abbrev pub caught_up : (seat : ℕ) → List Entry → Actor → List UntoldTurn → Actor
caught_up k seen a [] = a
caught_up k seen a (u ∷ us) = caught_up k seen (untold_after k seen a u) us

-- the actor may do so: a resting one begins a call in range, and a turn is answered that it wants
abbrev pub MayTake : ConfigParts → Actor → UntoldTurn → Type 0
MayTake p a (CallBegun call) = (is_resting a.client ≡ true) × IsInRange p call
MayTake p a (WordAnswered word) = IsLocal (want_of a.client)
MayTake p a TurnServed = (aim : Aim) × (n : ℕ) × (a.client.phase ≡ Look aim n)

abbrev pub MayTakeAll : ConfigParts → (seat : ℕ) → List Entry → Actor → List UntoldTurn → Type 0
MayTakeAll p k seen a [] = Unit {0}
MayTakeAll p k seen a (u ∷ us) = MayTake p a u × MayTakeAll p k seen (untold_after k seen a u) us

-- the pass's actor, with all turns of which its view isn't told yet
pub record IsActorOf (p : ConfigParts) (v : PassView) (a : Actor) : Type 0 where
  pub here : v.members ≡ member (view_seat v) (own v) ∷ []
  pub alone : v.pasts ≡ []
  pub turns : List UntoldTurn
  pub may : MayTakeAll p (view_seat v) v.seen (own v) turns
  pub is : a ≡ caught_up (view_seat v) v.seen (own v) turns

-- what the client was told in these turns, in front of its life so far
abbrev pub tiding_of : UntoldTurn → Tiding
tiding_of (CallBegun call) = CallTold call
tiding_of (WordAnswered word) = WordTold word
tiding_of TurnServed = TurnTold None

abbrev pub life_with : List UntoldTurn → List Tiding → List Tiding
life_with [] life = life
life_with (u ∷ us) life = life_with us (tiding_of u ∷ life)

-- A turn on a pass's chair, as its actor takes it: one of which the view isn't told, or the handing over of a lock.
pub data ChairTurn : Type 0 where
  OfPass : UntoldTurn → ChairTurn
  HandsOver : ChairTurn

abbrev pub turn_after : (seat : ℕ) → List Entry → Actor → ChairTurn → Actor
turn_after k seen a (OfPass u) = untold_after k seen a u
turn_after k seen a HandsOver = actor_stepped k a seen 0

abbrev pub behind_turns : (seat : ℕ) → List Entry → Actor → List ChairTurn → Actor
behind_turns k seen a [] = a
behind_turns k seen a (t ∷ ts) = behind_turns k seen (turn_after k seen a t) ts

abbrev pub MayTurn : ConfigParts → Actor → ChairTurn → Type 0
MayTurn p a (OfPass u) = MayTake p a u
MayTurn p a HandsOver = IsHanding a.client

abbrev pub MayTurnAll : ConfigParts → (seat : ℕ) → List Entry → Actor → List ChairTurn → Type 0
MayTurnAll p k seen a [] = Unit {0}
MayTurnAll p k seen a (t ∷ ts) = MayTurn p a t × MayTurnAll p k seen (turn_after k seen a t) ts

-- Whatever turns on its chair the actor takes, its ended calls are answered within what its seat has seen.
abbrev pub StaysAnswered : ConfigParts → (seat : ℕ) → List Entry → Actor → Type 0
StaysAnswered p k seen a = (ts : List ChairTurn) → MayTurnAll p k seen a ts → HasAnswers seen k (behind_turns k seen a ts)
