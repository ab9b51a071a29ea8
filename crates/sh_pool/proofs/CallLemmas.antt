-- A call of a pass, from its begin to its end.
use Rattle.std.proofs.Common.{rules, arith, ◌≡◌, ◌≤◌, ◌+◌, ℕ, suc, length, Bool, true, false, Option, Some, None, List, [], ◌∷◌, ◌++◌, refl, ap, sym, ◌∙◌, subst, append-nil, append_assoc}
use Rattle.sh_map.specs.declared.{call.{Call.{Call}, Reply.{Reply}}, log.Entry.{Entry}, book.Done.{Done}}
use Rattle.sh_client.{specs.{Machine.{Machine}, Rests.{has_ended, is_resting, reply_of, rests, rows_told}, Wants.{want_of}, declared.state.Phase.{Phase}}, proofs.BeginLemmas.{has_begun}}
use Rattle.sh_client.proofs.Wanting.{ended_in, going_in}
use Rattle.sh_core.specs.Actors.{done_of}
use Rattle.sh_core_says.specs.Books.{HasAnswers}
use Rattle.sh_pool_rule.{specs.Views.{view_seat, Begins}, proofs.BufferLemmas.{lives_few, told_few, HasFewRows}}
use Rattle.sh_pool.specs.{Calls.{HasServed, IsServing}, Passes.{life_of, IsPass, pass_actor, PoolTable, Standing}, Pools.{IsOfTables}, Turns.{step_of, GoesOrEnds, StepsBy, TookTurn, TookTurns}}
use Rattle.sh_pool.{specs.declared.state.Step.TheVariants.{Going, Done as Ended}, proofs.Steps.{begun_actor, begun_as, begun_setting}}

pub begun_serves : (p : Standing) (call : Call) → IsPass p → is_resting p.client ≡ true → IsServing call p (begun_as p call)
begun_serves p call i rest = search (rules, has_begun, begun_actor, append-nil)

begins_more : (xs ys zs : List Entry) → Begins xs ys → Begins ys zs → Begins xs zs
begins_more xs ys zs b c = (b.0 ++ c.0, c.1 ∙ ap (λ (es : List Entry). es ++ c.0) b.1 ∙ append_assoc xs b.0 c.0)

pub goes_serves : (p q r : Standing) (call : Call) → IsServing call p q → TookTurn q r → reply_of r.client ≡ None → IsServing call p r
goes_serves p q r call s t none =
    let e : has_ended r.client.phase ≡ false = going_in r.client r.client.phase none in
    let g = subst (λ (b : Bool). GoesOrEnds b (view_seat q.view) (pass_actor q) t.log r.client (pass_actor r)) e t.goes in
    record {
      busy = t.busy e;
      call_is = t.call ∙ s.call_is;
      seat_is = t.seat_is ∙ s.seat_is;
      seen = begins_more p.view.seen q.view.seen r.view.seen s.seen t.seen;
      cards = t.cards ∙ s.cards;
      dones = g.0 ∙ s.dones;
      first = g.1 ∙ s.first;
      number = g.2 ∙ s.number;
    }

ended_rests : (m : Machine) (reply : Reply) → reply_of m ≡ Some reply → (has_ended m.phase ≡ true) × (reply ≡ m.registers.reply)
ended_rests m reply e = ended_in m reply m.phase e

-- a client never gathers more rows than its buffer holds
pass_few : (p : Standing) → IsPass p → length (rows_told p.client) ≤ p.client.setting.rows
pass_few p i = told_few p.client (subst HasFewRows (sym (i.tied ∙ i.lived.client)) (lives_few p.client.setting (view_seat p.view) (life_of p)))

pub ends_served : (p q r : Standing) (call : Call) (reply : Reply) → IsServing call p q → TookTurn q r → reply_of r.client ≡ Some reply → is_resting r.client ≡ true → IsPass r → HasServed call reply p r
ends_served p q r call reply s t some rest pass =
    let e = ended_rests r.client reply some in
    let d : Done = done_of (view_seat q.view) (pass_actor q) t.log r.client in
    let g : (pass_actor r).dones ≡ (pass_actor q).dones ++ d ∷ [] = subst (λ (b : Bool). GoesOrEnds b (view_seat q.view) (pass_actor q) t.log r.client (pass_actor r)) e.0 t.goes in
    record {
      done = d;
      dones = g ∙ ap (λ (ds : List Done). ds ++ d ∷ []) s.dones;
      call_is = t.call ∙ s.call_is;
      reply_is = sym e.1;
      rows_are = refl;
      seat_is = s.seat_is;
      first = s.first;
      number = s.number;
      replied = some;
      call_now = t.call ∙ s.call_is;
      few_rows = pass_few r pass;
      pass = pass;
      same_seat = t.seat_is ∙ s.seat_is;
      seen = begins_more p.view.seen q.view.seen r.view.seen s.seen t.seen;
      cards = t.cards ∙ s.cards;
      answered = subst (λ (k : ℕ). HasAnswers r.view.seen k (pass_actor r)) (t.seat_is ∙ s.seat_is) t.answered;
      rests = rest;
    }

pub pool_begun : (laid : Option PoolTable) (p : Standing) (call : Call) → IsOfTables laid p → IsOfTables laid (begun_as p call)
pool_begun laid p call h = search (rules, begun_setting)

pub not_ended : (o : Option Reply) → step_of o ≡ Going → o ≡ None
not_ended o e = search rules

pub ended_with : (o : Option Reply) (r : Reply) → step_of o ≡ Ended r → o ≡ Some r
ended_with o r e = search rules

end_rests : (ph : Phase) → has_ended ph ≡ true → rests ph ≡ true
end_rests ph e = search rules

pub reply_rests : (m : Machine) (reply : Reply) → reply_of m ≡ Some reply → is_resting m ≡ true
reply_rests m reply e = end_rests m.phase ((ended_rests m reply e).0)

pub turns_more : (n : ℕ) (p m q : Standing) → TookTurns n p m → StepsBy (want_of m.client) m q → TookTurns (n + 1) p q
turns_more n p m q took step = let next : suc n ≡ n + 1 = omega arith in subst (λ (k : ℕ). TookTurns k p q) next (m, took, step)
