-- The invariant at the actor to which a pass has come, of which its view isn't told yet.
use Rattle.std.{proofs.Common.{rules, ◌≡◌, ℕ, ◌+◌, ◌≤◌, Bool, None, List, [], ◌∷◌, length, refl, inl}, specs.Prelude.{if◌then◌else◌}}
use Rattle.sh_base.specs.{declared.config.ConfigParts.{ConfigParts}, Setting.{IsSetting}}
use Rattle.sh_map.specs.declared.log.Entry.{Entry}
use Rattle.sh_client.specs.{declared.state.Phase.{Phase}, Machine.{Machine}, Giving.{made_in}, Wants.{want_in}}
use Rattle.sh_core.specs.{Actors.{Actor, actor_going, ending, actor_stepped, actor_turned, actor_begun}, Core.{Inv, Instead, Moves, HasSeen, IsLocal}}
use Rattle.sh_core.proofs.Moves.{put_moves, put_again}
use Rattle.sh_core_turns.proofs.{Calls.{begin_keeps}, LocalLaws.{local_keeps, look_keeps}}
use Rattle.sh_pool_rule.{specs.{Views.{Begins}, Untold.{UntoldTurn, CallBegun, WordAnswered, TurnServed, untold_after, caught_up, MayTake, MayTakeAll}}, proofs.Relations.{begins_length}}

-- a local turn makes no entry
pub makes_none : (m : Machine) (ph : Phase) → IsLocal (want_in m ph) → made_in m ph ≡ []
makes_none m ph l = search rules

pub becomes_seen : (k : ℕ) (a : Actor) (seen : List Entry) (m : Machine) (more : List Entry) → more ≡ [] → (t : Bool) → (if t then ending k a seen m else actor_going a seen more m).seen ≤ length seen
becomes_seen k a seen m more e t = search rules

pub after_seen : (p : ConfigParts) (k : ℕ) (seen : List Entry) (a : Actor) (u : UntoldTurn) → MayTake p a u → (untold_after k seen a u).seen ≤ length seen
after_seen p k seen a u may = search (rules, becomes_seen, makes_none)

module _ (p : ConfigParts) (ok : IsSetting p) (words : List ℕ) (log : List Entry) (Out : ℕ → ℕ → ℕ → Type 0) (k : ℕ) (seen : List Entry) (begins : Begins seen log) where
  saw : (a : Actor) → a.seen ≤ length seen → HasSeen log seen a
  saw a more = record { rest = begins.0; whole = begins.1; more = more }

  pub turn_keeps_on : (Has : ℕ → Actor → Type 0) (a : Actor) (u : UntoldTurn) → Inv p words log Has Out → Has k a → a.seen ≤ length seen → MayTake p a u → Inv p words log (Instead Has k (untold_after k seen a u)) Out
  turn_keeps_on Has a (CallBegun call) inv h more may =
      let b : Actor = actor_begun a (a.number + 1) call (length seen) in
      begin_keeps p ok words log Has (Instead Has k b) Out k (a.number + 1) (length seen) a call inv h may.0 may.1 more (begins_length seen log begins) (put_moves Has k b)
  turn_keeps_on Has a (WordAnswered word) inv h more may =
      let b : Actor = actor_stepped k a seen word in
      local_keeps p ok words log seen Has (Instead Has k b) Out k word a inv h may (saw a more) (put_moves Has k b)
  turn_keeps_on Has a TurnServed inv h more may =
      let b : Actor = actor_turned k a seen None in
      look_keeps p ok words log seen Has (Instead Has k b) Out k a may.0 may.1 inv h may.2 (saw a more) (put_moves Has k b)

  -- what follows of the actor to which it has come, where that takes its next turn, follows of the one that the view has
  pub catches_up : (Now : ℕ → Actor → Type 0) (next : Actor) (Goal : Type 0) (us : List UntoldTurn) (Has : ℕ → Actor → Type 0) (a : Actor) → Inv p words log Has Out → Has k a → a.seen ≤ length seen → MayTakeAll p k seen a us → Moves Has k next Now
      → ((Then : ℕ → Actor → Type 0) → Inv p words log Then Out → Then k (caught_up k seen a us) → (caught_up k seen a us).seen ≤ length seen → Moves Then k next Now → Goal) → Goal
  catches_up Now next Goal [] Has a inv h more may mv use_ = use_ Has inv h more mv
  catches_up Now next Goal (u ∷ us) Has a inv h more may mv use_ =
      let b : Actor = untold_after k seen a u in
      catches_up Now next Goal us (Instead Has k b) b (turn_keeps_on Has a u inv h more may.0) (inl (refl, refl)) (after_seen p k seen a u may.0) may.1 (put_again Has Now k b next mv) use_
