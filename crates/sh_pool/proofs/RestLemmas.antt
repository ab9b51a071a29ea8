-- The ended calls of a pass that rests stay answered, however much more it has seen.
use Rattle.std.proofs.Common.{rules, ◌≡◌, ℕ, ◌+◌, Bool, true, false, None, Option, List, [], ◌∷◌, ◌++◌, length, refl, ap, sym, subst, arith, length-append}
use Rattle.std.specs.Prelude.{if◌then◌else◌}
use Rattle.sh_base.specs.declared.config.ConfigParts.{ConfigParts}
use Rattle.sh_map.specs.declared.log.Entry.{Entry}
use Rattle.sh_decide.specs.Aims.{call_key}
use Rattle.sh_client.specs.{declared.state.Phase.{Phase}, Machine.{Machine}, Cached.{origin_of}, Feeds.{fed_by, fed_in, turned_by}, Giving.{makes}, Rests.{has_ended, is_resting, rests}, Wants.{load_of, want_in}}
use Rattle.sh_core.{specs.{Actors.{Actor, actor_begun, actor_going, becomes, ending}, Core.{IsLocal}}, proofs.Logs.{answered_longer, in_order_later}}
use Rattle.sh_core_says.specs.Books.{HasAnswers}
use Rattle.sh_pool_rule.{specs.Untold.{OfPass, HandsOver, CallBegun, WordAnswered, TurnServed, StaysAnswered}, proofs.{LifeLemmas.{becomes_client}, Untold.{makes_none}}}
use Rattle.sh_pool.{specs.Passes.{IsBefore}, proofs.{Locals.{turns_to}, Steps.{rest_not_before, start_by}}}

not_loading : (o : Option ℕ) → IsLocal (load_of o) → ⊥
not_loading o h = search rules

-- what comes before the first event of a call ends no call
ends_not : (ph : Phase) → IsBefore ph → has_ended ph ≡ false
ends_not ph b = search rules

fed_before : (m : Machine) (word : ℕ) (ph : Phase) → ph ≡ m.phase → IsBefore ph → IsLocal (want_in m ph) → IsBefore (fed_in m word ph).phase
fed_before m word ph e b l = search (rules, not_loading)

goes_by : (k : ℕ) (a : Actor) (log more : List Entry) (m : Machine) (t : Bool) → t ≡ false → more ≡ [] → HasAnswers log k a → HasAnswers log k (if t then ending k a log m else actor_going a log more m)
goes_by k a log more m t e none h = search rules

module _ (p : ConfigParts) (k : ℕ) (log : List Entry) where
  goes : (b : Actor) (more : List Entry) (m : Machine) → IsBefore m.phase → more ≡ [] → HasAnswers log k b → HasAnswers log k (becomes k b log more m)
  goes b more m before none h = goes_by k b log more m (has_ended m.phase) (ends_not m.phase before) none h

  client_is : (b : Actor) (more : List Entry) (m : Machine) → IsBefore m.phase → IsBefore (becomes k b log more m).client.phase
  client_is b more m before = subst (λ (x : Machine). IsBefore x.phase) (sym (becomes_client k b log more m)) before

  before_stays : (b : Actor) → IsBefore b.client.phase → HasAnswers log k b → StaysAnswered p k log b
  before_stays b before h [] may = h
  before_stays b before h (OfPass (CallBegun call) ∷ ts) may = absurd (rest_not_before b.client.phase may.0.0 before)
  before_stays b before h (OfPass (WordAnswered word) ∷ ts) may =
      let m : Machine = fed_by b.client word in
      let next : IsBefore m.phase = fed_before b.client word b.client.phase refl before may.0 in
      before_stays (becomes k b log (makes b.client) m) (client_is b (makes b.client) m next) (goes b (makes b.client) m next (makes_none b.client b.client.phase may.0) h) ts may.1
  before_stays b before h (OfPass TurnServed ∷ ts) may =
      let m : Machine = turned_by b.client None in
      let next : IsBefore m.phase = turns_to b.client may.0.0 may.0.1 may.0.2 in
      before_stays (becomes k b log [] m) (client_is b [] m next) (goes b [] m next refl h) ts may.1
  before_stays b before h (HandsOver ∷ ts) may = absurd (subst IsBefore may.0.phase before)

rests_not_local : (m : Machine) (ph : Phase) → rests ph ≡ true → IsLocal (want_in m ph) → ⊥
rests_not_local m ph e l = search rules

pub rest_stays : (p : ConfigParts) (k : ℕ) (seen more : List Entry) (a : Actor) → is_resting a.client ≡ true → HasAnswers seen k a → StaysAnswered p k (seen ++ more) a
rest_stays p k seen more a rest h [] may = let l = length-append seen more in let s = h.seen in record { answered = answered_longer k a.dones seen more h.answered; ordered = h.ordered; first = h.first; seen = omega (arith, l, s) }
rest_stays p k seen more a rest h (OfPass (CallBegun call) ∷ ts) may =
    let log : List Entry = seen ++ more in
    let l = length-append seen more in
    let f = h.first in
    let s = h.seen in
    before_stays p k log (actor_begun a (a.number + 1) call (length log)) ((start_by a.client call (origin_of a.client.registers.cached (call_key call))).0)
    record { answered = answered_longer k a.dones seen more h.answered; ordered = in_order_later 0 a.dones a.first (length log) h.ordered (omega (arith, l, f, s)); first = omega arith; seen = omega arith } ts may.1
rest_stays p k seen more a rest h (OfPass (WordAnswered word) ∷ ts) may = absurd (rests_not_local a.client a.client.phase rest may.0)
rest_stays p k seen more a rest h (OfPass TurnServed ∷ ts) may = absurd (let e = ap rests may.0.2 in cc)
rest_stays p k seen more a rest h (HandsOver ∷ ts) may = absurd (let e = ap rests may.0.phase in cc)
