use Rattle.std.proofs.Common.{◌∙◌, ℕ, ap, length, refl, sym}
use Rattle.sh_base.specs.Setting.{pool_words}
use Rattle.sh_world.{specs.{declared.turn.Turn.TheVariants.{Event}, contracts.state.World.{the_view}}, proofs.StepLemmas.{seat_setting, step_asked, step_world, still_is, still_turns}}
use Rattle.sh_world.proofs.WorldLemmas.{kept_is, running, turned}
use Rattle.sh_world.proofs.state.World.store_or_look.Goals as goal

pub store_or_fail-requires : goal.store_or_fail-requires
store_or_fail-requires c =
    let g = running (the_view c.self.inside) c.args.self.now _ _ c.args.seat c.self.view_is c.self.invariant c.requires in
    ap length c.deref_mut.ensures.value ∙ g.0.inv.ground.shows.size ∙ sym (ap pool_words (seat_setting (the_view c.self.inside) c.args.self.now _ _ c.args.seat c.index_mut-place.result.now c.self.view_is c.self.invariant c.requires c.index_mut-place.ensures.value))

pub invariant_of-self : goal.invariant_of-self
invariant_of-self c =
    let a = step_asked (the_view c.self.inside) c.args.self.now _ _ c.args.seat c.index_mut-place.result.now _ _ _ _ c.self.view_is c.self.invariant c.requires c.index_mut-place.ensures.value c.in-Some.ensures.step.0 in
    kept_is _ _ _ _ _ _ a _ _ _ (step_world _ c.args.seat c.index_mut-place.result.now _ c.store_or_fail.new.self _ _ _ _ _ _ _ a.asked_is c.in-Some.ensures.step.0 c.deref_mut.ensures.value (sym c.self.inside.words.ok.0) (c.len-seen.ensures ∙ c.self.inside.log.ok.0) c.in-Some.ensures.seat) refl refl

pub returns-in-Some : goal.returns-in-Some
returns-in-Some c =
    let a = step_asked (the_view c.self.inside) c.args.self.now _ _ c.args.seat c.index_mut-place.result.now _ _ _ _ c.self.view_is c.self.invariant c.requires c.index_mut-place.ensures.value c.in-Some.ensures.step.0 in
    turned _ _ _ _ _ _ a _ c.args.self.now c.deref_mut.result.now _ c.self.view_is c.deref_mut.ensures.value (step_world _ c.args.seat c.index_mut-place.result.now _ c.store_or_fail.new.self _ _ _ _ _ _ _ a.asked_is c.in-Some.ensures.step.0 c.deref_mut.ensures.value (sym c.self.inside.words.ok.0) (c.len-seen.ensures ∙ c.self.inside.log.ok.0) c.in-Some.ensures.seat) (ap (λ (x : ℕ). Event c.in-Some.step.event x) c.in-Some.ensures.step.0.found)

pub returns-in-None : goal.returns-in-None
returns-in-None c = still_turns _ _ _ c.args.seat _ (still_is (the_view c.self.inside) c.args.self.now c.args.seat c.index_mut-place.result.now c.store_or_fail.new.self _ _ _ _ c.self.view_is c.index_mut-place.ensures.value c.in-None.ensures.seat c.in-None.ensures.step.1 c.deref_mut.ensures.value (sym c.self.inside.words.ok.0)) c.look_or_act.ensures
