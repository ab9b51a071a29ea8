use Rattle.std.proofs.Common.{rules, ◌≡◌, ℕ, false, length, ap, sym, subst, ◌∙◌}
use Rattle.sh_base.specs.{Layout.{compute_of}}
use Rattle.sh_client.{proofs.CachedLemmas.{fed_keeps}, specs.{Machine.{Machine}, Feeds.{fed_by}, Wants.{want_of}}}
use Rattle.sh_client.specs.declared.state.Want.TheVariants as want
use Rattle.sh_core.specs.Actors.{Actor}
use Rattle.sh_pool_rule.specs.{declared.view.PassView.{PassView}, Rule.{TookEvent}, Views.{Tale}}
use Rattle.sh_pool.{specs.Passes.{Standing, pass_actor, tale_of, IsPass}, proofs.Steps.{standing, is_actor, event_pass}}
use Rattle.sh_pool.proofs.state.Pass.event_as.Goals as goal

pub event_as-found-requires-clause-table : goal.event_as-found-requires-clause-table
event_as-found-requires-clause-table g c = search (rules, standing)

pub event_as-found-requires-clause-actor : goal.event_as-found-requires-clause-actor
event_as-found-requires-clause-actor g c = search (rules, standing, is_actor)

pub invariant_of-self : goal.invariant_of-self
invariant_of-self g c =
    let p : Standing = standing c.self.inside.seat.table_id c.self.inside.client c.self.inside.begun c.self.inside.seat.me.0 c.self.inside.chair in
    let word : ℕ = c.event_as-found.result in
    let keeps = fed_keeps p.client word in
    let v : PassView = c.event_as-found.new.seat.me.0 in
    let actor : g.A.TurnOf.actor ≡ pass_actor p = subst (λ (s : Standing). g.A.TurnOf.actor ≡ pass_actor s) (sym c.self.view_is) c.requires.actor in
    let tale : g.A.TurnOf.tale ≡ tale_of p (length p.chair.view.calls) = subst (λ (s : Standing). g.A.TurnOf.tale ≡ tale_of s (length s.chair.view.calls)) (sym c.self.view_is) c.requires.tale in
    let went : TookEvent (pass_actor p) (tale_of p (length p.chair.view.calls)) p.view word v = subst (λ (q : Actor × Tale). TookEvent q.0 q.1 p.view word v) (λ k. (actor k, tale k)) c.event_as-found.ensures.went in (
      c.event_as-found.ensures.seat.1 ∙ c.self.invariant.0,
      subst (λ (m : Machine). IsPass (standing c.event_as-found.new.seat.table_id m false v p.chair)) (sym c.fed.ensures)
          (subst (λ (t : Rattle.atomic_table.specs.Seated.TableId). IsPass (standing t (fed_by p.client word) false v p.chair)) (sym c.event_as-found.ensures.seat.0)
          (event_pass p c.args.event word v c.self.invariant.1 (subst (λ (s : Standing). want_of s.client ≡ want.Event c.args.event) (sym c.self.view_is) c.requires.wants) went)),
      c.self.invariant.2 ∙ (λ k. compute_of (sym keeps.0 k) (sym keeps.1 k)) ∙ ap (λ (m : Machine). compute_of m.setting m.seat) (sym c.fed.ensures),
    )
