use Rattle.std.proofs.Common.{◌≡◌, true, ap, sym, subst, ◌∙◌}
use Rattle.sh_base.specs.Layout.{compute_of}
use Rattle.sh_map.specs.Calls.{IsInRange}
use Rattle.sh_client.specs.{Machine.{Machine}, Feeds.{begun}, Rests.{is_resting}}
use Rattle.sh_pool.proofs.state.Pass.begin.Goals as goal
use Rattle.sh_pool.{specs.Passes.{Standing, IsPass}, proofs.Steps.{begin_pass, begun_finished, begun_seated, standing}}

pub invariant_of-self : goal.invariant_of-self
invariant_of-self c =
    let p : Standing = standing c.self.inside.seat.table_id c.self.inside.client c.self.inside.begun c.self.inside.seat.me.0 c.self.inside.chair in
    let is : c.begin.new.self ≡ begun p.client c.args.call = c.begin.ensures ∙ ap (λ (m : Machine). begun m c.args.call) c.rest.ensures ∙ begun_finished p.client c.args.call in (
      c.self.invariant.0,
      subst (λ (m : Machine). IsPass (standing p.table m true p.view p.chair)) (sym is)
          (begin_pass p c.args.call c.self.invariant.1 (subst (λ (s : Standing). is_resting s.client ≡ true) (sym c.self.view_is) c.requires.rests)
          (subst (λ (s : Standing). IsInRange s.client.setting c.args.call) (sym c.self.view_is) c.requires.in_range)),
      c.self.invariant.2 ∙ begun_seated p.client c.args.call ∙ ap (λ (m : Machine). compute_of m.setting m.seat) (sym is),
    )
