use Rattle.atomic_table.specs.Seated.{TableId}
use Rattle.std.proofs.Common.{rules, ◌≡◌, ℕ, ◌<◌, ◌-◌, List, false, ap, sym, subst, ◌∙◌}
use Rattle.sh_base.specs.{declared.config.ConfigParts.{ConfigParts}, Layout.{compute_of}, Parts.{parts_of}, Setting.{all_seats, IsSetting}}
use Rattle.sh_client.{specs.Machine.{fresh_machine, Machine}, proofs.WithinLemmas.{root_within}}
use Rattle.sh_local.specs.Chairs.{fresh_chair, CellTable}
use Rattle.sh_pool_rule.specs.declared.view.PassView.{PassView}
use Rattle.sh_pool.specs.{Passes.{IsPass, PoolTable, Standing}, Pools.{IsMaker}, declared.right.Knower.{Knower}}
use Rattle.sh_pool.proofs.LayLemmas.{chairs_map, chairs_use, compute_within, fresh_is, made_pass, maker_alone, maker_left, maker_makes}
use Rattle.sh_pool.proofs.pool.LaidPool.make_pass.Goals as goal

pub split_seat-place-requires : goal.split_seat-place-requires
split_seat-place-requires c = search (rules, root_within, maker_makes)

pub invariant_of-result : goal.invariant_of-result
invariant_of-result c =
    let p : ConfigParts = parts_of c.self.inside.table.shared.key in
    let k : ℕ = c.args.seat in
    let lt : k < all_seats p = subst (λ (t : PoolTable). k < all_seats t.setting) (sym c.self.view_is) c.requires.seat in
    let m : IsMaker p k (all_seats p - k) c.args.maker.now.me.0 = subst (λ (t : PoolTable). IsMaker t.setting k (all_seats t.setting - k) c.args.maker.now.me.0) (sym c.self.view_is) c.requires.maker in
    let e = c.split_seat-place.ensures in
    let z : TableId = c.self.inside.table.shared.table_id in
    let table : c.split_seat-place.result.table_id ≡ z = e.3 ∙ c.requires.table.0 ∙ ap (λ (t : PoolTable). t.table) (sym c.self.view_is) in
    let client : c.in_ok-client.client ≡ fresh_machine p k = c.in_ok-client.ensures ∙ ap (λ (x : ConfigParts). fresh_machine x k) c.self.invariant.0 in
    let view = ap (λ (x : PassView × List (ℕ × Unit {0})). x.0) e.4 ∙ maker_alone p k c.args.maker.now.me.0 lt m in
    let q : Standing = record { table = c.split_seat-place.result.table_id; client = c.in_ok-client.client; begun = false; view = c.split_seat-place.result.me.0; chair = c.args.chair } in
    let within = compute_within p (subst IsSetting c.self.invariant.0 c.self.inside.cfg.lawful) k lt in (
      ap (λ (x : PassView × List (ℕ × Unit {0})). x.1) e.4,
      chairs_use c.args.self.now.cells (λ (r : CellTable Knower). c.args.chair ≡ fresh_chair r.table r.key) (IsPass q) c.requires.chair
          (λ r f. subst IsPass (sym (made_pass z p r k q.table q.client q.view q.chair table client view f)) (fresh_is z p r k within)),
      c.compute_of.ensures ∙ ap (λ (x : Machine). compute_of x.setting x.seat) (sym c.in_ok-client.ensures),
    )

pub returns-clause-pass : goal.returns-clause-pass
returns-clause-pass c = search (rules, maker_alone, chairs_map, made_pass)

pub returns-clause-maker : goal.returns-clause-maker
returns-clause-maker c = search (rules, maker_left)
