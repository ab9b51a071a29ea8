use Rattle.std.proofs.{Common.{◌∙◌, ap, length, refl, sym}, lemmas.Option.{slice_get_read}}
use Rattle.sh_world.{specs.{contracts.state.World.{the_view}, States.{Place, State, dones_by, dones_of}}, proofs.WorldLemmas.{running}}
use Rattle.sh_world.proofs.state.World.done_calls.Goals as goal

pub returns : goal.returns
returns c =
    let g = running (the_view c.self.inside) c.args.self.now _ _ c.args.seat c.self.view_is c.self.invariant c.requires in
    let at = slice_get_read _ _ c.args.seat c.index.result.now refl g.2 c.index.ensures in
    ap (λ (q : Place). q.ended) c.behind-self.view_is ∙ sym (g.0.places c.args.seat c.index.result.now at).count ∙ ap (λ (s : State). length (dones_by c.args.seat (dones_of s.calls))) c.self.view_is
