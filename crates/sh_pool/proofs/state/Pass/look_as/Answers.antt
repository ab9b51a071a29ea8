use Rattle.std.proofs.Common.{rules, ◌≡◌, ◌+◌, ℕ, false, None, Some, length, ap, sym, subst, ◌∙◌, Option}
use Rattle.sh_base.specs.Parts.{parts_of}
use Rattle.atomic_table.specs.Seated.{TableId}
use Rattle.sh_client.{specs.{Machine.{Machine}, Feeds.{fed_by, turned_by}, Wants.{want_of}}, proofs.{CachedLemmas.{fed_keeps, turned_keeps}, WithinLemmas.{root_within}}}
use Rattle.sh_client.specs.declared.state.Want.TheVariants as want
use Rattle.sh_local.specs.{Calls.{turned}, Chairs.{FitsAt}, Steps.{FitsIf}}
use Rattle.sh_pool.specs.{Fitting.{cell_for, FitsCell}, Handed.{Handed}, Passes.{Standing, PoolTable, pass_actor, tale_of, IsOf, IsPass}, Turns.{cell_of}}
use Rattle.sh_pool.{proofs.{Steps.{standing, seated}, Locals.{wait_pass, served_pass, take_pass}, Cells.{fits_cell, meets_of}}}
use Rattle.sh_pool_rule.specs.{declared.view.PassView.{PassView}, Rights.{taken_view}}
use Rattle.sh_pool.proofs.state.Pass.look_as.Goals as goal

pub invariant_of-self : goal.invariant_of-self
invariant_of-self g c =
    let p : Standing = standing c.self.inside.seat.table_id c.self.inside.client c.self.inside.begun c.self.inside.seat.me.0 c.self.inside.chair in
    let wants : want_of p.client ≡ want.Look c.args.lock = subst (λ (s : Standing). want_of s.client ≡ want.Look c.args.lock) (sym c.self.view_is) c.requires.wants in
    let found : ℕ = c.in-Wait.found in
    let keeps = fed_keeps p.client found in
    let t = seated p.table (fed_by p.client found) c.fed.new.self p.begun p.view c.look.new.chair p.client c.self.inside.compute c.fed.ensures
    (wait_pass p c.look.new.chair c.args.lock found c.self.invariant.1 wants c.in-Wait.ensures.looked.1) keeps c.self.invariant.2 in
    (c.self.invariant.0, t.0, t.1)

pub invariant_of-self-in-Turn-None : goal.invariant_of-self-in-Turn-None
invariant_of-self-in-Turn-None g c =
    let p : Standing = standing c.self.inside.seat.table_id c.self.inside.client c.self.inside.begun c.self.inside.seat.me.0 c.self.inside.chair in
    let wants : want_of p.client ≡ want.Look c.args.lock = subst (λ (s : Standing). want_of s.client ≡ want.Look c.args.lock) (sym c.self.view_is) c.requires.wants in
    let keeps = turned_keeps p.client None in
    let t = seated p.table (turned_by p.client None) c.fed_turn.new.self p.begun p.view c.look.new.chair p.client c.self.inside.compute c.fed_turn.ensures
    (served_pass p c.look.new.chair c.args.lock c.self.invariant.1 wants (c.in-Turn-None.ensures.looked.0 ∙ ap (λ (o : Option Handed). turned p.chair.view o) c.in-Turn-None.field-0-is)) keeps c.self.invariant.2 in
    (c.self.invariant.0, t.0, t.1)

pub take_as-depth-requires-clause-table : goal.take_as-depth-requires-clause-table
take_as-depth-requires-clause-table g c = search (rules, standing, fits_cell, root_within)

pub take_as-depth-requires-clause-meets : goal.take_as-depth-requires-clause-meets
take_as-depth-requires-clause-meets g c =
    let p : Standing = standing c.self.inside.seat.table_id c.self.inside.client c.self.inside.begun c.self.inside.seat.me.0 c.self.inside.chair in
    let z : PoolTable = record { table = c.pool.inside.table.shared.table_id; setting = parts_of c.pool.inside.table.shared.key; cells = c.pool.inside.cells } in
    let of_pool : IsOf z p = subst (λ (s : Standing). IsOf z s) (sym c.self.view_is) (subst (λ (t : PoolTable). IsOf t c.args.self.now) (sym c.pool.view_is) c.requires.of) in
    let cell_is : c.cell_at-cell.result ≡ cell_of p c.args.lock = c.cell_at-cell.ensures.at ∙ (λ k. cell_for ((c.pool.invariant.0 ∙ sym of_pool.setting) k) c.args.lock (c.self.invariant.2 k)) in
    let actor : g.A.TurnOf.actor ≡ pass_actor p = subst (λ (s : Standing). g.A.TurnOf.actor ≡ pass_actor s) (sym c.self.view_is) c.requires.actor in
    let wants : want_of p.client ≡ want.Look c.args.lock = subst (λ (s : Standing). want_of s.client ≡ want.Look c.args.lock) (sym c.self.view_is) c.requires.wants in
    let fits : FitsCell z.setting z.table c.cell_at-cell.result c.in-Turn-Some.right = fits_cell z.table z.setting z.cells c.cell_at-cell.result c.in-Turn-Some.right c.pool.invariant.2
    (subst (FitsIf (FitsAt (λ key n x. FitsCell (parts_of key.cfg) key.seat.table_id n x) z.cells c.cell_at-cell.result)) c.in-Turn-Some.field-0-is c.in-Turn-Some.ensures.looked.1) in
    meets_of p c.self.invariant.1 g.A.TurnOf.actor actor z.setting of_pool.setting c.args.lock c.cell_at-cell.result cell_is z.table c.in-Turn-Some.right wants fits

pub invariant_of-self-in-Turn-Some : goal.invariant_of-self-in-Turn-Some
invariant_of-self-in-Turn-Some g c =
    let p : Standing = standing c.self.inside.seat.table_id c.self.inside.client c.self.inside.begun c.self.inside.seat.me.0 c.self.inside.chair in
    let z : PoolTable = record { table = c.pool.inside.table.shared.table_id; setting = parts_of c.pool.inside.table.shared.key; cells = c.pool.inside.cells } in
    let of_pool : IsOf z p = subst (λ (s : Standing). IsOf z s) (sym c.self.view_is) (subst (λ (t : PoolTable). IsOf t c.args.self.now) (sym c.pool.view_is) c.requires.of) in
    let cell_is : c.cell_at-cell.result ≡ cell_of p c.args.lock = c.cell_at-cell.ensures.at ∙ (λ k. cell_for ((c.pool.invariant.0 ∙ sym of_pool.setting) k) c.args.lock (c.self.invariant.2 k)) in
    let actor : g.A.TurnOf.actor ≡ pass_actor p = subst (λ (s : Standing). g.A.TurnOf.actor ≡ pass_actor s) (sym c.self.view_is) c.requires.actor in
    let tale : g.A.TurnOf.tale ≡ tale_of p (length p.chair.view.calls + 1) = subst (λ (s : Standing). g.A.TurnOf.tale ≡ tale_of s (length s.chair.view.calls + 1)) (sym c.self.view_is) c.requires.tale in
    let wants : want_of p.client ≡ want.Look c.args.lock = subst (λ (s : Standing). want_of s.client ≡ want.Look c.args.lock) (sym c.self.view_is) c.requires.wants in
    let fits : FitsCell z.setting z.table c.cell_at-cell.result c.in-Turn-Some.right = fits_cell z.table z.setting z.cells c.cell_at-cell.result c.in-Turn-Some.right c.pool.invariant.2
    (subst (FitsIf (FitsAt (λ key n x. FitsCell (parts_of key.cfg) key.seat.table_id n x) z.cells c.cell_at-cell.result)) c.in-Turn-Some.field-0-is c.in-Turn-Some.ensures.looked.1) in
    let r : Handed = c.in-Turn-Some.right in
    let m : Machine = turned_by p.client (Some r.depth) in
    let keeps = turned_keeps p.client (Some r.depth) in
    let v : PassView = taken_view (pass_actor p) (tale_of p (length p.chair.view.calls + 1)) p.view r.view in
    let view : c.take_as-depth.new.seat.me.0 ≡ v = c.take_as-depth.ensures.seat.2 ∙ (λ k. taken_view (actor k) (tale k) p.view r.view) in
    let client : c.fed_turn-in-Turn-Some.new.self ≡ m = c.fed_turn-in-Turn-Some.ensures ∙ ap (λ (n : ℕ). turned_by p.client (Some n)) c.take_as-depth.ensures.depth.0 in
    let t = seated p.table m c.fed_turn-in-Turn-Some.new.self false v c.look.new.chair p.client c.self.inside.compute client
    (take_pass p c.look.new.chair c.args.lock r c.self.invariant.1 wants (c.in-Turn-Some.ensures.looked.0 ∙ ap (λ (o : Option Handed). turned p.chair.view o) c.in-Turn-Some.field-0-is) c.take_as-depth.ensures.depth.1
    ) keeps c.self.invariant.2 in (
      c.take_as-depth.ensures.seat.1 ∙ c.self.invariant.0,
      subst (λ (u : PassView). IsPass (standing c.take_as-depth.new.seat.table_id c.fed_turn-in-Turn-Some.new.self false u c.look.new.chair)) (sym view)
          (subst (λ (n : TableId). IsPass (standing n c.fed_turn-in-Turn-Some.new.self false v c.look.new.chair)) (sym c.take_as-depth.ensures.seat.0) t.0),
      t.1,
    )

pub returns-in-Wait-clause-looked : goal.returns-in-Wait-clause-looked
returns-in-Wait-clause-looked g c = search (rules, standing, seated)

pub returns-in-Turn-Some-clause-looked : goal.returns-in-Turn-Some-clause-looked
returns-in-Turn-Some-clause-looked g c = search (rules, standing, seated)
