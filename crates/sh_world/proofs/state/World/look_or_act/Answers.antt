use Rattle.std.proofs.Common.{◌<◌, ◌∙◌, arith, refl, subst}
use Rattle.sh_base.specs.Setting.{all_locks}
use Rattle.sh_world.{specs.{States.{Place}, contracts.state.World.{the_view}}, proofs.{StepLemmas.{look_asked, look_within, looks_seen, wait_world}, WorldLemmas.{kept_is, turned}}}
use Rattle.sh_world.proofs.state.World.look_or_act.Goals as goal

pub line_at-requires-clause-lock : goal.line_at-requires-clause-lock
line_at-requires-clause-lock c = look_within (the_view c.self.inside) c.args.self.now _ _ c.args.seat c.index_mut-place.result.now c.in-Some.lock c.self.view_is c.self.invariant c.requires c.index_mut-place.ensures.value (subst (λ (x : Place). c.in-Some.lock < all_locks x.client.setting) c.place.view_is c.in-Some.ensures.within)

pub invariant_of-self : goal.invariant_of-self
invariant_of-self c =
    let q = c.index_mut-place.result.now in
    let looks = looks_seen _ q c.in-Some.lock c.place.view_is c.in-Some.ensures.here in
    let within = subst (λ (x : Place). c.in-Some.lock < all_locks x.client.setting) c.place.view_is c.in-Some.ensures.within in
    let a = look_asked (the_view c.self.inside) c.args.self.now _ _ c.args.seat q c.in-Some.lock c.self.view_is c.self.invariant c.requires c.index_mut-place.ensures.value looks within in
    kept_is _ _ _ _ _ _ a _ _ _ (wait_world _ c.args.seat q _ c.waits.new.self c.in-Some.lock c.line_at.result c.index-line.result.now _ a.asked_is looks c.if-waits.ensures.served c.line_at.ensures.at (omega (arith, c.line_at.ensures.within, a.run.lines.count)) c.index-line.ensures (c.len-seen.ensures ∙ c.self.inside.log.ok.0) c.if-waits.ensures.seat) refl refl

pub returns-then-waits : goal.returns-then-waits
returns-then-waits c =
    let q = c.index_mut-place.result.now in
    let looks = looks_seen _ q c.in-Some.lock c.place.view_is c.in-Some.ensures.here in
    let within = subst (λ (x : Place). c.in-Some.lock < all_locks x.client.setting) c.place.view_is c.in-Some.ensures.within in
    let a = look_asked (the_view c.self.inside) c.args.self.now _ _ c.args.seat q c.in-Some.lock c.self.view_is c.self.invariant c.requires c.index_mut-place.ensures.value looks within in
    turned _ _ _ _ _ _ a _ c.args.self.now _ _ c.self.view_is refl (wait_world _ c.args.seat q _ c.waits.new.self c.in-Some.lock c.line_at.result c.index-line.result.now _ a.asked_is looks c.if-waits.ensures.served c.line_at.ensures.at (omega (arith, c.line_at.ensures.within, a.run.lines.count)) c.index-line.ensures (c.len-seen.ensures ∙ c.self.inside.log.ok.0) c.if-waits.ensures.seat) refl
