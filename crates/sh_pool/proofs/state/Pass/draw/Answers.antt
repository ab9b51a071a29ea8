use Rattle.std.proofs.Common.{◌≡◌, ℕ, ap, sym, subst, ◌∙◌}
use Rattle.sh_base.specs.Parts.{parts_of}
use Rattle.sh_client.{specs.{Feeds.{fed_by}, Wants.{want_of}}, proofs.CachedLemmas.{fed_keeps}}
use Rattle.sh_client.specs.declared.state.Want.TheVariants as want
use Rattle.sh_local.specs.Calls.{drew}
use Rattle.sh_pool.{specs.{Fitting.{cell_for}, Passes.{Standing, PoolTable, IsOf}, Turns.{cell_of}}, proofs.{Steps.{standing, seated}, Locals.{draw_pass}}}
use Rattle.sh_pool.proofs.state.Pass.draw.Goals as goal

pub invariant_of-self : goal.invariant_of-self
invariant_of-self c =
    let p : Standing = standing c.self.inside.seat.table_id c.self.inside.client c.self.inside.begun c.self.inside.seat.me.0 c.self.inside.chair in
    let z : PoolTable = record { table = c.pool.inside.table.shared.table_id; setting = parts_of c.pool.inside.table.shared.key; cells = c.pool.inside.cells } in
    let of_pool : IsOf z p = subst (λ (s : Standing). IsOf z s) (sym c.self.view_is) (subst (λ (t : PoolTable). IsOf t c.args.self.now) (sym c.pool.view_is) c.requires.of) in
    let cell_is : c.cell_at-cell.result ≡ cell_of p c.args.lock = c.cell_at-cell.ensures.at ∙ (λ k. cell_for ((c.pool.invariant.0 ∙ sym of_pool.setting) k) c.args.lock (c.self.invariant.2 k)) in
    let wants : want_of p.client ≡ want.Draw c.args.lock = subst (λ (s : Standing). want_of s.client ≡ want.Draw c.args.lock) (sym c.self.view_is) c.requires.wants in
    let d = c.draw-ticket.ensures.drew in
    let word : ℕ = c.draw-ticket.result in
    let keeps = fed_keeps p.client word in
    let t = seated p.table (fed_by p.client word) c.fed.new.self p.begun p.view c.draw-ticket.new.chair p.client c.self.inside.compute c.fed.ensures
    (draw_pass p c.draw-ticket.new.chair c.args.lock d.0 word c.self.invariant.1 wants (d.2 ∙ ap (λ (n : ℕ). drew p.chair.view n d.0) cell_is) d.1) keeps c.self.invariant.2 in
    (c.self.invariant.0, t.0, t.1)
