-- Actors whose ended calls stay answered: behind turns, behind a right that is taken up, and new ones.
use Rattle.std.proofs.Common.{rules, ◌≡◌, ℕ, Some, List, [], ◌∷◌, ◌++◌, refl, subst, arith, length-append}
use Rattle.sh_base.specs.declared.config.ConfigParts.{ConfigParts}
use Rattle.sh_map.specs.declared.log.Entry.{Entry}
use Rattle.sh_decide.specs.declared.state.Aim.{Aim}
use Rattle.sh_client.specs.{declared.state.Phase.{TheVariants.{Look, ReadLocked}}, Machine.{Machine, reading}}
use Rattle.sh_core.{specs.{Actors.{Actor, actor_stepped, actor_turned, becomes}, Opening.{entered}}, proofs.Logs.{answered_longer}}
use Rattle.sh_core_says.specs.Books.{HasAnswers}
use Rattle.sh_pool_rule.specs.Rights.{IsHanding}
use Rattle.sh_pool_rule.specs.Untold.{ChairTurn, OfPass, HandsOver, UntoldTurn, CallBegun, WordAnswered, TurnServed, behind_turns, caught_up, untold_after, MayTakeAll, MayTurnAll, StaysAnswered}

abbrev pub of_turns : List UntoldTurn → List ChairTurn
of_turns [] = []
of_turns (u ∷ us) = OfPass u ∷ of_turns us

behind_of : (k : ℕ) (s : List Entry) (a : Actor) (us : List UntoldTurn) (ts : List ChairTurn) → behind_turns k s a (of_turns us ++ ts) ≡ behind_turns k s (caught_up k s a us) ts
behind_of k s a [] ts = refl
behind_of k s a (u ∷ us) ts = behind_of k s (untold_after k s a u) us ts

may_of : (p : ConfigParts) (k : ℕ) (s : List Entry) (a : Actor) (us : List UntoldTurn) (ts : List ChairTurn) → MayTakeAll p k s a us → MayTurnAll p k s (caught_up k s a us) ts → MayTurnAll p k s a (of_turns us ++ ts)
may_of p k s a [] ts h l = l
may_of p k s a (u ∷ us) ts h l = (h.0, may_of p k s (untold_after k s a u) us ts h.1 l)

pub stays_behind : (p : ConfigParts) (k : ℕ) (s : List Entry) (a : Actor) (us : List UntoldTurn) → StaysAnswered p k s a → MayTakeAll p k s a us → StaysAnswered p k s (caught_up k s a us)
stays_behind p k s a us h may = λ ts l. subst (HasAnswers s k) (behind_of k s a us ts) (h (of_turns us ++ ts) (may_of p k s a us ts may l))

pub stays_handed : (p : ConfigParts) (k : ℕ) (s : List Entry) (a : Actor) → StaysAnswered p k s a → IsHanding a.client → StaysAnswered p k s (actor_stepped k a s 0)
stays_handed p k s a h hand = λ ts l. h (HandsOver ∷ ts) (hand, l)

-- behind a right that it takes up an actor wants an event
module _ (p : ConfigParts) (k : ℕ) (log : List Entry) (a : Actor) (aim : Aim) (node depth : ℕ) where
  abbrev m : Machine
  m = reading a.client node (ReadLocked aim depth)

  abbrev b : Actor
  b = becomes k a log [] m

  reads_next : HasAnswers log k b → StaysAnswered p k log b
  reads_next h [] may = h
  reads_next h (OfPass (CallBegun call) ∷ ts) may = let r = may.0.0 in absurd (cc)
  reads_next h (OfPass (WordAnswered word) ∷ ts) may = absurd (search rules)
  reads_next h (OfPass TurnServed ∷ ts) may = let r = may.0.2 in absurd (cc)
  reads_next h (HandsOver ∷ ts) may = let r = may.0.phase in absurd (cc)

pub stays_taken : (p : ConfigParts) (k : ℕ) (seen more : List Entry) (a : Actor) (aim : Aim) (node depth : ℕ) → HasAnswers seen k a → a.client.phase ≡ Look aim node → StaysAnswered p k (seen ++ more) (actor_turned k a (seen ++ more) (Some depth))
stays_taken p k seen more a aim node depth h phase = search (rules, length-append, reads_next, answered_longer)

-- a new client's call begins at the root word
module _ (p : ConfigParts) (k : ℕ) where
  pub fresh_stays : StaysAnswered p k [] (entered p k)
  fresh_stays [] may = record { answered = tt; ordered = omega arith; first = omega arith; seen = omega arith }
  fresh_stays (OfPass (CallBegun call) ∷ []) may = record { answered = tt; ordered = omega arith; first = omega arith; seen = omega arith }
  fresh_stays (OfPass (CallBegun call) ∷ OfPass (CallBegun other) ∷ ts) may = let r = may.1.0.0 in absurd (cc)
  fresh_stays (OfPass (CallBegun call) ∷ OfPass (WordAnswered word) ∷ ts) may = absurd may.1.0
  fresh_stays (OfPass (CallBegun call) ∷ OfPass TurnServed ∷ ts) may = let r = may.1.0.2 in absurd (cc)
  fresh_stays (OfPass (CallBegun call) ∷ HandsOver ∷ ts) may = let r = may.1.0.phase in absurd (cc)
  fresh_stays (OfPass (WordAnswered word) ∷ ts) may = absurd may.0
  fresh_stays (OfPass TurnServed ∷ ts) may = let r = may.0.2 in absurd (cc)
  fresh_stays (HandsOver ∷ ts) may = let r = may.0.phase in absurd (cc)
