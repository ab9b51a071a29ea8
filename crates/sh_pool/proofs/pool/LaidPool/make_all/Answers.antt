use Rattle.std.{proofs.Common.{rules, ◌≡◌, ◌<◌, ℕ, ap, sym, subst, ◌∙◌, add-one, arith}}
use Rattle.sh_base.specs.{Parts.{parts_of}, Setting.{all_seats}}
use Rattle.sh_pool.{specs.{Passes.{PoolTable}, Pools.{AreMade}}, proofs.LayLemmas.{chair_is, made_all, made_more, made_none, some_chair}}
use Rattle.sh_pool.proofs.pool.LaidPool.make_all.Goals as goal

pub loop-seat-init : goal.loop-seat-init
loop-seat-init c = search (rules, made_none)

pub unreachable-requires : goal.unreachable-requires
unreachable-requires c =
    let same : parts_of c.self.inside.cfg ≡ c.args.self.now.setting = c.self.invariant.0 ∙ ap (λ (t : PoolTable). t.setting) c.self.view_is in
    let lt : c.loop-seat.seat < all_seats c.args.self.now.setting = subst (λ (n : ℕ). c.loop-seat.seat < n) (c.all_seats-seat-end.ensures ∙ ap all_seats same) c.loop-seat-test.true in
    some_chair c.args.self.now c.loop-seat.seat c.loop-seat.maker.me.0 c.loop-seat.chairs.items c.loop-seat.passes.items c.loop-seat.invariant.0 lt (let z = c.in_default.ensures.cases.0 in let o = c.loop-seat.chairs.ok.0 in omega (arith, z, o))

pub make_pass-requires-clause-maker : goal.make_pass-requires-clause-maker
make_pass-requires-clause-maker c = c.loop-seat.invariant.0.maker

pub make_pass-requires-clause-table : goal.make_pass-requires-clause-table
make_pass-requires-clause-table c = (c.loop-seat.invariant.1, c.loop-seat.invariant.2)

pub make_pass-requires-clause-chair : goal.make_pass-requires-clause-chair
make_pass-requires-clause-chair c =
    let same : parts_of c.self.inside.cfg ≡ c.args.self.now.setting = c.self.invariant.0 ∙ ap (λ (t : PoolTable). t.setting) c.self.view_is in
    let lt : c.loop-seat.seat < all_seats c.args.self.now.setting = subst (λ (n : ℕ). c.loop-seat.seat < n) (c.all_seats-seat-end.ensures ∙ ap all_seats same) c.loop-seat-test.true in
    chair_is c.args.self.now c.loop-seat.seat c.loop-seat.maker.me.0 c.loop-seat.chairs.items c.pop.new.self.items c.loop-seat.passes.items c.in-Some.chair c.loop-seat.invariant.0 lt c.in-Some.ensures.items

pub push_reserved-requires : goal.push_reserved-requires
push_reserved-requires c = search rules

pub loop-seat-preserved : goal.loop-seat-preserved
loop-seat-preserved c =
    let same : parts_of c.self.inside.cfg ≡ c.args.self.now.setting = c.self.invariant.0 ∙ ap (λ (t : PoolTable). t.setting) c.self.view_is in
    let lt : c.loop-seat.seat < all_seats c.args.self.now.setting = subst (λ (n : ℕ). c.loop-seat.seat < n) (c.all_seats-seat-end.ensures ∙ ap all_seats same) c.loop-seat-test.true in (
      subst (λ (n : ℕ). AreMade c.args.self.now n c.make_pass.new.maker.me.0 c.pop.new.self.items c.push_reserved.new.self.items) (sym (add-one c.loop-seat.seat))
          (made_more c.args.self.now c.loop-seat.seat c.loop-seat.maker.me.0 c.make_pass.new.maker.me.0 c.loop-seat.chairs.items c.pop.new.self.items c.loop-seat.passes.items c.push_reserved.new.self.items c.in-Some.chair c.in_ok-make_pass.field-0 c.loop-seat.invariant.0 lt c.in-Some.ensures.items c.push_reserved.ensures.items c.in_ok-make_pass.ensures.pass c.in_ok-make_pass.ensures.maker),
      c.make_pass.ensures.table.0,
      c.make_pass.ensures.table.1,
      (let cap = c.loop-seat.invariant.3 in let more = c.push_reserved.ensures.capacity in omega (arith, cap, more)),
    )

pub returns : goal.returns
returns c = search (rules, made_all)
