use Rattle.std.proofs.Common.{◌≡◌, ap, sym, subst, ◌∙◌}
use Rattle.sh_base.specs.{declared.config.ConfigParts.{ConfigParts}, Parts.{parts_of}}
use Rattle.sh_pool_rule.{specs.Untold.{IsActorOf}, proofs.GatherLemmas.{taking_in}}
use Rattle.sh_pool.{specs.Passes.{pass_actor, Standing}, proofs.Steps.{is_actor, standing}}
use Rattle.sh_pool.proofs.gathering.take_in_as.Goals as goal

pub join_seat-requires : goal.join_seat-requires
join_seat-requires g c =
    let p : Standing = standing c.pass.inside.seat.table_id c.pass.inside.client c.pass.inside.begun c.pass.inside.seat.me.0 c.pass.inside.chair in
    let actor : g.A.TurnOf.actor ≡ pass_actor p = subst (λ (s : Standing). g.A.TurnOf.actor ≡ pass_actor s) (sym c.pass.view_is) c.requires.actor in
    let setting : p.client.setting ≡ parts_of c.args.words.now.key = subst (λ (s : Standing). s.client.setting ≡ parts_of c.args.words.now.key) (sym c.pass.view_is) c.requires.setting in (
      c.requires.table.0,
      ap (λ (s : Standing). s.table) c.pass.view_is ∙ c.requires.table.1,
      c.pass.invariant.0,
      c.requires.table.2,
      taking_in (parts_of c.args.words.now.key) c.args.last.now.id c.args.last.now.me.0 c.pass.inside.seat.id c.pass.inside.seat.me.0 g.A.TurnOf.actor g.A.TurnOf.tale
          (subst (λ (q : ConfigParts). IsActorOf q p.view g.A.TurnOf.actor) setting (subst (IsActorOf p.client.setting p.view) (sym actor) (is_actor p c.pass.invariant.1))) c.pass.invariant.1.no_right,
    )
