-- What a turn leaves of the pass's actor.
use Rattle.std.proofs.{Common.{rules, ◌≡◌, ℕ, Bool, true, false, Option, Some, None, List, [], ◌∷◌, ◌++◌, length, drop, refl, ap, sym, ◌∙◌, subst, append-nil, append_assoc}, Math.Seq.{drop-length}}
use Rattle.std.specs.Prelude.{if◌then◌else◌}
use Rattle.sh_base.specs.declared.event.Event.{Event}
use Rattle.sh_map.specs.declared.log.Entry.{Entry}
use Rattle.sh_client.specs.declared.state.Want.TheVariants as want
use Rattle.sh_client.specs.{declared.state.Want.{Want}, Machine.{Machine}, Feeds.{fed_by, turned_by}, Giving.{makes}, Rests.{has_ended, is_resting}, Wants.{want_of}}
use Rattle.sh_client.proofs.CachedLemmas.{fed_keeps, turned_keeps}
use Rattle.sh_core.specs.Actors.{Actor, actor_going, actor_stepped, actor_turned, becomes, ending}
use Rattle.sh_core_says.specs.Books.{HasAnswers}
use Rattle.sh_local.specs.declared.view.ChairCall.{ChairCall, TheVariants.{Waited, Turned, Left}}
use Rattle.sh_pool_rule.specs.{declared.view.PassView.{PassView}, Views.{longer, member, Begins, own, view_seat}, Untold.{UntoldTurn, WordAnswered, TurnServed, caught_up, untold_after}}
use Rattle.sh_pool_rule.specs.Rights.{depth_of}
use Rattle.sh_pool.specs.{Handed.{Handed}, Passes.{is_left, pass_actor, untold_by, untold_if, untold_of, untold_turns, IsPass, Standing}}
use Rattle.sh_pool.specs.Turns.{held_cell, ticket_of, GoesOrEnds, LeftQueue, LookedOnce, MadeEvent, NoRight, OtherServed, StepsBy, ToldTurn, TookTurn, WithRight}
use Rattle.sh_pool.proofs.{Steps.{answered_now, leave_not_begun, own_is, seat_is, untold_more, untold_now}, Locals.{drop-all, drop-at}, Busy.{busy_still, rests_not}, Staying.{step_kept}}

-- what a turn leaves of the actor
record ActsSo (p q : Standing) : Type 0 where
  pub log : List Entry
  pub begins : Begins p.view.seen log
  pub seen : Begins p.view.seen q.view.seen
  pub seat_is : view_seat q.view ≡ view_seat p.view
  pub cards : q.view.cards ≡ p.view.cards
  pub answered : HasAnswers q.view.seen (view_seat q.view) (pass_actor q)
  pub goes : GoesOrEnds (has_ended q.client.phase) (view_seat p.view) (pass_actor p) log q.client (pass_actor q)

adds_if : (k : ℕ) (a : Actor) (log more : List Entry) (m : Machine) (t : Bool) → GoesOrEnds t k a log m (if t then ending k a log m else actor_going a log more m)
adds_if k a log more m t = search rules

-- an actor that its turn has made of another
adds : (k : ℕ) (a b : Actor) (log more : List Entry) (m x : Machine) → b ≡ becomes k a log more m → x ≡ m → GoesOrEnds (has_ended x.phase) k a log x b
adds k a b log more m x is e = subst (λ (y : Machine). GoesOrEnds (has_ended y.phase) k a log y b) (sym e) (subst (λ (y : Actor). GoesOrEnds (has_ended m.phase) k a log m y) (sym is) (adds_if k a log more m (has_ended m.phase)))

-- of a turn on the chair
told_acts : (p q : Standing) (x : ChairCall Handed) (m : Machine) (u : UntoldTurn) (more : List Entry) → IsPass p → IsPass q → (p.begun ≡ true → is_left x ≡ false) → ToldTurn x m p q → m.registers.call ≡ p.client.registers.call → untold_by x ≡ u ∷ [] → untold_after (view_seat p.view) p.view.seen (pass_actor p) u ≡ becomes (view_seat p.view) (pass_actor p) p.view.seen more m → ActsSo p q
told_acts p q x m u more i j late t call tells is =
    let now : untold_turns q ≡ untold_turns p ++ u ∷ [] = untold_now p q x i t.calls (ap (λ (y : Machine). y.registers.call) t.client ∙ call) t.begun t.view late ∙ ap (λ (us : List UntoldTurn). untold_turns p ++ us) tells in
    record {
      log = p.view.seen;
      begins = ([], sym (append-nil p.view.seen));
      seen = ([], ap (λ (v : PassView). v.seen) t.view ∙ sym (append-nil p.view.seen));
      seat_is = ap view_seat t.view;
      cards = ap (λ (v : PassView). v.cards) t.view;
      answered = answered_now q j;
      goes = adds (view_seat p.view) (pass_actor p) (pass_actor q) p.view.seen more m q.client ((untold_more p q (u ∷ []) t.view now).0 ∙ is) t.client;
    }

answer_acts : (p q : Standing) (x : ChairCall Handed) (word : ℕ) → IsPass p → IsPass q → (p.begun ≡ true → is_left x ≡ false) → ToldTurn x (fed_by p.client word) p q → untold_by x ≡ WordAnswered word ∷ [] → ActsSo p q
answer_acts p q x word i j late t tells = told_acts p q x (fed_by p.client word) (WordAnswered word) (makes (pass_actor p).client) i j late t ((fed_keeps p.client word).2) tells (ap (λ (m : Machine). becomes (view_seat p.view) (pass_actor p) p.view.seen (makes (pass_actor p).client) (fed_by m word)) (sym i.tied))

-- of a turn of which the view is told at once
pub moved_actor : (q : Standing) (k : ℕ) (a : Actor) → q.view.members ≡ member k a ∷ [] → q.begun ≡ false → untold_of (drop q.view.heard q.chair.view.calls) ≡ [] → pass_actor q ≡ a
moved_actor q k a members begun calls =
    let none : untold_turns q ≡ [] = ap (λ (b : Bool). untold_if b q.client.registers.call (drop q.view.heard q.chair.view.calls)) begun ∙ calls in
    ap (caught_up (view_seat q.view) q.view.seen (own q.view)) none ∙ own_is q.view k a members

made_acts : (p q : Standing) (e : Event) → IsPass p → IsPass q → MadeEvent e p q → ActsSo p q
made_acts p q e i j made = search (rules, moved_actor, drop-length, append_assoc, seat_is, answered_now, adds)

looks_acts : (p q : Standing) → IsPass p → IsPass q → LookedOnce p q → ActsSo p q
looks_acts p q i j (OtherServed t) = answer_acts p q (Waited (held_cell p) (ticket_of p) t.found) t.found i j (λ b. refl) t.told refl
looks_acts p q i j (NoRight t) = told_acts p q (Turned (held_cell p) (ticket_of p) None) (turned_by p.client None) TurnServed [] i j (λ b. refl) t ((turned_keeps p.client None).2) refl (ap (λ (m : Machine). becomes (view_seat p.view) (pass_actor p) p.view.seen [] (turned_by m None)) (sym i.tied))
looks_acts p q i j (WithRight t) =
    let k : ℕ = view_seat p.view in
    let s : List Entry = longer p.view.seen t.right.view.seen in
    let b : Actor = actor_turned k (pass_actor p) s (depth_of t.right.view.right) in
    let calls : List (ChairCall Handed) = p.chair.view.calls in
    let x : ChairCall Handed = Turned (held_cell p) (ticket_of p) (Some t.right) in
    let members : q.view.members ≡ member k b ∷ [] = ap (λ (v : PassView). v.members) t.view in
    let is : pass_actor q ≡ b = moved_actor q k b members t.none ((λ z. untold_of (drop ((t.view z).heard) (t.calls z))) ∙ ap untold_of (drop-all calls x)) in
    record {
      log = s;
      begins = (drop (length p.view.seen) t.right.view.seen, refl);
      seen = (drop (length p.view.seen) t.right.view.seen, ap (λ (v : PassView). v.seen) t.view);
      seat_is = seat_is q.view k b members;
      cards = ap (λ (v : PassView). v.cards) t.view;
      answered = answered_now q j;
      goes = adds k (pass_actor p) (pass_actor q) s [] (turned_by (pass_actor p).client (depth_of t.right.view.right)) q.client is (t.client ∙ (λ z. turned_by (i.tied z) (sym t.depth z)));
    }

leaves_acts : (p q : Standing) (lock : ℕ) (carry : Option ℕ) → IsPass p → IsPass q → want_of p.client ≡ want.Leave lock carry → LeftQueue carry p q → ActsSo p q
leaves_acts p q lock None i j wants t = answer_acts p q (Left (held_cell p) (ticket_of p) None) 0 i j (λ b. let n = leave_not_begun p lock None i wants in absurd (cc)) t refl
leaves_acts p q lock (Some depth) i j wants t =
    let k : ℕ = view_seat p.view in
    let b : Actor = actor_stepped k (pass_actor p) p.view.seen 0 in
    let calls : List (ChairCall Handed) = p.chair.view.calls in
    let x : ChairCall Handed = Left (held_cell p) (ticket_of p) (Some t.right) in
    let members : q.view.members ≡ member k b ∷ [] = ap (λ (v : PassView). v.members) t.view in
    let is : pass_actor q ≡ b = moved_actor q k b members (t.begun ∙ leave_not_begun p lock (Some depth) i wants) ((λ z. untold_of (drop ((t.view z).heard) (t.calls z))) ∙ ap untold_of (drop-at calls x)) in
    record {
      log = p.view.seen;
      begins = ([], sym (append-nil p.view.seen));
      seen = ([], ap (λ (v : PassView). v.seen) t.view ∙ sym (append-nil p.view.seen));
      seat_is = seat_is q.view k b members;
      cards = ap (λ (v : PassView). v.cards) t.view;
      answered = answered_now q j;
      goes = adds k (pass_actor p) (pass_actor q) p.view.seen (makes (pass_actor p).client) (fed_by (pass_actor p).client 0) q.client is (t.client ∙ ap (λ (m : Machine). fed_by m 0) i.tied);
    }

acts_of : (p q : Standing) (w : Want) → IsPass p → IsPass q → want_of p.client ≡ w → StepsBy w p q → (w ≡ want.Done → ⊥) → ActsSo p q
acts_of p q w i j is s n = search (rules, made_acts, answer_acts, looks_acts, leaves_acts)

pub turn_of : (p q : Standing) (w : Want) → IsPass p → IsPass q → want_of p.client ≡ w → StepsBy w p q → (w ≡ want.Done → ⊥) → is_resting p.client ≡ false → TookTurn p q
turn_of p q w i j is s n busy =
    let a = acts_of p q w i j is s n in
    let k = step_kept p q w s in
    record { log = a.log; begins = a.begins; seen = a.seen; seat_is = a.seat_is; cards = a.cards; call = k.keeps.2; busy = λ e. busy_still q.client.phase (k.busy (rests_not p.client.phase busy)) e; answered = a.answered; goes = a.goes }
