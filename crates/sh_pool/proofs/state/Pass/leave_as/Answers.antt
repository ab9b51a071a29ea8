use Rattle.std.proofs.Common.{rules, ◌≡◌, ◌≤◌, ℕ, None, Some, length, ap, sym, subst, ◌∙◌, refl, Option}
use Rattle.sh_base.specs.Parts.{parts_of}
use Rattle.sh_client.{specs.{Feeds.{fed_by}, Sound.{IsCarry}, Wants.{want_of}}, proofs.{CachedLemmas.{fed_keeps}, WithinLemmas.{root_within}}}
use Rattle.sh_client.specs.declared.state.Want.TheVariants as want
use Rattle.sh_pool.{specs.{Fitting.{cell_for}, Passes.{Standing, PoolTable, pass_actor, tale_of, IsOf, IsPass}, Turns.{cell_of}}, proofs.Steps.{standing, seated}}
use Rattle.sh_pool.proofs.{Locals.{has_left, left_pass, hand_pass}, Cells.{cell_fits, hands_of, depth_is, fits_of}}
use Rattle.atomic_table.specs.Seated.{TableId}
use Rattle.sh_pool_rule.specs.{Rights.{parted_view}, declared.view.PassView.{PassView}}
use Rattle.sh_pool.proofs.state.Pass.leave_as.Goals as goal

pub part_as-right-requires-clause-hands : goal.part_as-right-requires-clause-hands
part_as-right-requires-clause-hands g c =
    let p : Standing = standing c.self.inside.seat.table_id c.self.inside.client c.self.inside.begun c.self.inside.seat.me.0 c.self.inside.chair in
    let z : PoolTable = record { table = c.pool.inside.table.shared.table_id; setting = parts_of c.pool.inside.table.shared.key; cells = c.pool.inside.cells } in
    let of_pool : IsOf z p = subst (λ (s : Standing). IsOf z s) (sym c.self.view_is) (subst (λ (t : PoolTable). IsOf t c.args.self.now) (sym c.pool.view_is) c.requires.of) in
    let cell_is : c.cell_at-cell.result ≡ cell_of p c.args.lock = c.cell_at-cell.ensures.at ∙ (λ k. cell_for ((c.pool.invariant.0 ∙ sym of_pool.setting) k) c.args.lock (c.self.invariant.2 k)) in
    let actor : g.A.TurnOf.actor ≡ pass_actor p = subst (λ (s : Standing). g.A.TurnOf.actor ≡ pass_actor s) (sym c.self.view_is) c.requires.actor in
    let wants : want_of p.client ≡ want.Leave c.args.lock (Some c.in-Some.depth) = subst (λ (s : Standing). want_of s.client ≡ want.Leave c.args.lock (Some c.in-Some.depth)) (sym c.self.view_is) (c.requires.wants ∙ ap (λ (o : Option ℕ). want.Leave c.args.lock o) c.in-Some.is) in
    hands_of p c.self.invariant.1 g.A.TurnOf.actor actor z.setting of_pool.setting c.args.lock c.cell_at-cell.result cell_is c.in-Some.depth wants

pub part_as-right-requires-clause-depth : goal.part_as-right-requires-clause-depth
part_as-right-requires-clause-depth g c = search (rules, standing, depth_is)

pub part_as-right-requires-clause-table : goal.part_as-right-requires-clause-table
part_as-right-requires-clause-table g c = search (rules, standing, root_within)

pub leave-requires-in-Some-clause-value : goal.leave-requires-in-Some-clause-value
leave-requires-in-Some-clause-value g c =
    let p : Standing = standing c.self.inside.seat.table_id c.self.inside.client c.self.inside.begun c.self.inside.seat.me.0 c.self.inside.chair in
    let z : PoolTable = record { table = c.pool.inside.table.shared.table_id; setting = parts_of c.pool.inside.table.shared.key; cells = c.pool.inside.cells } in
    let of_pool : IsOf z p = subst (λ (s : Standing). IsOf z s) (sym c.self.view_is) (subst (λ (t : PoolTable). IsOf t c.args.self.now) (sym c.pool.view_is) c.requires.of) in
    let cell_is : c.cell_at-cell.result ≡ cell_of p c.args.lock = c.cell_at-cell.ensures.at ∙ (λ k. cell_for ((c.pool.invariant.0 ∙ sym of_pool.setting) k) c.args.lock (c.self.invariant.2 k)) in
    let actor : g.A.TurnOf.actor ≡ pass_actor p = subst (λ (s : Standing). g.A.TurnOf.actor ≡ pass_actor s) (sym c.self.view_is) c.requires.actor in
    let wants : want_of p.client ≡ want.Leave c.args.lock (Some c.in-Some.depth) = subst (λ (s : Standing). want_of s.client ≡ want.Leave c.args.lock (Some c.in-Some.depth)) (sym c.self.view_is) (c.requires.wants ∙ ap (λ (o : Option ℕ). want.Leave c.args.lock o) c.in-Some.is) in
    let within : c.in-Some.depth ≤ p.client.setting.bound = (subst (λ (s : Standing). IsCarry s.client.setting (Some c.in-Some.depth)) (sym c.self.view_is) (subst (λ (o : Option ℕ). IsCarry c.args.self.now.client.setting o) c.in-Some.is c.requires.carry)).1 in
    let right = c.part_as-right.ensures.right in (
      (has_left p c.args.lock (Some c.in-Some.depth) c.self.invariant.1 wants).1 refl,
      cell_fits z.table z.setting z.cells c.cell_at-cell.result c.part_as-right.result c.pool.invariant.2
          (fits_of p c.self.invariant.1 g.A.TurnOf.actor actor z.setting of_pool.setting c.args.lock c.cell_at-cell.result cell_is z.table c.part_as-right.result c.in-Some.depth wants within right.0 (ap (λ (v : PassView). v.right) right.1) right.2),
    )

pub invariant_of-self : goal.invariant_of-self
invariant_of-self g c =
    let p : Standing = standing c.self.inside.seat.table_id c.self.inside.client c.self.inside.begun c.self.inside.seat.me.0 c.self.inside.chair in
    let wants : want_of p.client ≡ want.Leave c.args.lock (None) = subst (λ (s : Standing). want_of s.client ≡ want.Leave c.args.lock (None)) (sym c.self.view_is) (c.requires.wants ∙ ap (λ (o : Option ℕ). want.Leave c.args.lock o) c.in-None.is) in
    let keeps = fed_keeps p.client 0 in
    let t = seated p.table (fed_by p.client 0) c.fed.new.self p.begun p.view c.leave.new.chair p.client c.self.inside.compute c.fed.ensures (left_pass p c.leave.new.chair c.args.lock c.self.invariant.1 wants c.leave.ensures.gone) keeps c.self.invariant.2 in
    (c.self.invariant.0, t.0, t.1)

pub invariant_of-self-in-Some : goal.invariant_of-self-in-Some
invariant_of-self-in-Some g c =
    let p : Standing = standing c.self.inside.seat.table_id c.self.inside.client c.self.inside.begun c.self.inside.seat.me.0 c.self.inside.chair in
    let actor : g.A.TurnOf.actor ≡ pass_actor p = subst (λ (s : Standing). g.A.TurnOf.actor ≡ pass_actor s) (sym c.self.view_is) c.requires.actor in
    let tale : g.A.TurnOf.tale ≡ tale_of p (length p.chair.view.calls) = subst (λ (s : Standing). g.A.TurnOf.tale ≡ tale_of s (length s.chair.view.calls)) (sym c.self.view_is) c.requires.tale in
    let wants : want_of p.client ≡ want.Leave c.args.lock (Some c.in-Some.depth) = subst (λ (s : Standing). want_of s.client ≡ want.Leave c.args.lock (Some c.in-Some.depth)) (sym c.self.view_is) (c.requires.wants ∙ ap (λ (o : Option ℕ). want.Leave c.args.lock o) c.in-Some.is) in
    let keeps = fed_keeps p.client 0 in
    let v : PassView = parted_view (pass_actor p) (tale_of p (length p.chair.view.calls)) p.view in
    let view : c.part_as-right.new.seat.me.0 ≡ v = c.part_as-right.ensures.seat.2 ∙ (λ k. parted_view (actor k) (tale k) p.view) in
    let t = seated p.table (fed_by p.client 0) c.fed-in-Some.new.self p.begun v c.leave-in-Some.new.chair p.client c.self.inside.compute c.fed-in-Some.ensures
    (hand_pass p c.leave-in-Some.new.chair c.args.lock c.in-Some.depth c.part_as-right.result c.self.invariant.1 wants c.leave-in-Some.ensures.gone) keeps c.self.invariant.2 in (
      c.part_as-right.ensures.seat.1 ∙ c.self.invariant.0,
      subst (λ (u : PassView). IsPass (standing c.part_as-right.new.seat.table_id c.fed-in-Some.new.self p.begun u c.leave-in-Some.new.chair)) (sym view)
          (subst (λ (n : TableId). IsPass (standing n c.fed-in-Some.new.self p.begun v c.leave-in-Some.new.chair)) (sym c.part_as-right.ensures.seat.0) t.0),
      t.1,
    )
