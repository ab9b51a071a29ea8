use Rattle.std.proofs.Common.{◌∙◌, ℕ, ap, length, refl, sym}
use Rattle.sh_base.specs.Setting.{pool_words}
use Rattle.sh_world.{specs.{declared.turn.Turn.TheVariants.{Event}, contracts.state.World.{the_view}}, proofs.StepLemmas.{load_world, seat_setting, step_asked}}
use Rattle.sh_world.proofs.WorldLemmas.{kept_is, told_is, value_is, running}
use Rattle.sh_world.proofs.state.World.turn.Goals as goal

pub load-requires : goal.load-requires
load-requires c =
    let g = running (the_view c.self.inside) c.args.self.now _ _ c.args.seat c.self.view_is c.self.invariant c.requires in
    ap length c.deref.ensures.value ∙ g.0.inv.ground.shows.size ∙ sym (ap pool_words (seat_setting (the_view c.self.inside) c.args.self.now _ _ c.args.seat c.index_mut-asked.result.now c.self.view_is c.self.invariant c.requires c.index_mut-asked.ensures.value))

pub invariant_of-self : goal.invariant_of-self
invariant_of-self c =
    let a = step_asked (the_view c.self.inside) c.args.self.now _ _ c.args.seat c.index_mut-asked.result.now _ _ _ _ c.self.view_is c.self.invariant c.requires c.index_mut-asked.ensures.value c.in-Some.ensures.step.0 in
    kept_is _ _ _ _ _ _ a _ _ _ (load_world _ c.args.seat c.index_mut-asked.result.now _ c.load.new.self _ _ _ _ a.asked_is c.in-Some.ensures.step.0 c.deref.ensures.value (c.len-seen.ensures ∙ c.self.inside.log.ok.0) c.in-Some.ensures.seat) refl refl

pub returns-in-Some-clause-world : goal.returns-in-Some-clause-world
returns-in-Some-clause-world c =
    let a = step_asked (the_view c.self.inside) c.args.self.now _ _ c.args.seat c.index_mut-asked.result.now _ _ _ _ c.self.view_is c.self.invariant c.requires c.index_mut-asked.ensures.value c.in-Some.ensures.step.0 in
    value_is _ _ _ _ _ _ a _ c.args.self.now c.self.view_is (load_world _ c.args.seat c.index_mut-asked.result.now _ c.load.new.self _ _ _ _ a.asked_is c.in-Some.ensures.step.0 c.deref.ensures.value (c.len-seen.ensures ∙ c.self.inside.log.ok.0) c.in-Some.ensures.seat)

pub returns-in-Some-clause-answer : goal.returns-in-Some-clause-answer
returns-in-Some-clause-answer c =
    let a = step_asked (the_view c.self.inside) c.args.self.now _ _ c.args.seat c.index_mut-asked.result.now _ _ _ _ c.self.view_is c.self.invariant c.requires c.index_mut-asked.ensures.value c.in-Some.ensures.step.0 in
    told_is _ _ _ _ _ _ a c.args.self.now c.deref.result.now _ c.self.view_is c.deref.ensures.value (ap (λ (x : ℕ). Event c.in-Some.step.event x) c.in-Some.ensures.step.0.found)
