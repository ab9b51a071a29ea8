use Rattle.std.proofs.Common.{rules, ◌≡◌, ◌*◌, ◌-◌, ◌++◌, length, replicate, ap, sym, ◌∙◌, arith}
use Rattle.std.proofs.lemmas.List.{length-take-le}
use Rattle.sh_base.specs.Setting.{node_size, nodes}
use Rattle.sh_bulk.{specs.{Shape.{need_of}, Words.{words_to}}, proofs.FillLemmas.{begun, filled_end, filled_more, filled_start, level_bounded}}
use Rattle.sh_bulk.proofs.building.fill_nodes.Goals as goal

pub overflow_mul-at : goal.overflow_mul-at
overflow_mul-at g c = omega (arith, begun _ c.args.cfg.now.lawful _ c.requires.room _ _ _ c.leaf_count-count.ensures c.node_size-size.ensures c.requires.blank)

pub slice_bounds-build_beside-end : goal.slice_bounds-build_beside-end
slice_bounds-build_beside-end g c = omega (arith, begun _ c.args.cfg.now.lawful _ c.requires.room _ _ _ c.leaf_count-count.ensures c.node_size-size.ensures c.requires.blank)

pub slice_bounds-build_beside-end-2 : goal.slice_bounds-build_beside-end-2
slice_bounds-build_beside-end-2 g c = sym (length-take-le (c.leaf_count-count.result * c.node_size-size.result) c.args.out.now (omega (arith, begun _ c.args.cfg.now.lawful _ c.requires.room _ _ _ c.leaf_count-count.ensures c.node_size-size.ensures c.requires.blank)))

pub build_beside-requires-clause-size : goal.build_beside-requires-clause-size
build_beside-requires-clause-size g c = (
    let begins = begun _ c.args.cfg.now.lawful _ c.requires.room _ _ _ c.leaf_count-count.ensures c.node_size-size.ensures c.requires.blank in
    λ κs outlives. length-take-le (c.leaf_count-count.result * c.node_size-size.result) c.args.out.now begins.within ∙ begins.at_is)

pub loop-number-init : goal.loop-number-init
loop-number-init g c = (
    let begins = begun _ c.args.cfg.now.lawful _ c.requires.room _ _ _ c.leaf_count-count.ensures c.node_size-size.ensures c.requires.blank in
    let long = length-take-le (c.leaf_count-count.result * c.node_size-size.result) c.args.out.now begins.within in
    filled_start _ c.args.cfg.now.lawful _ c.requires.room c.requires.values _ _ _ c.args.out.now c.build_beside.new.out c.leaf_count-count.ensures c.leaf_fill-span.ensures.fill (ap (λ w. c.leaf_count-count.result * w) c.node_size-size.ensures) c.requires.blank (omega (arith, c.build_beside.auto.out, long)) (λ i lt. c.build_beside.ensures i (omega (arith, lt, long))))

pub overflow_mul-end : goal.overflow_mul-end
overflow_mul-end g c = (omega (arith, level_bounded _ c.args.cfg.now.lawful _ c.requires.room c.loop-number.number _ _ _ _ _ _ _ _ (omega (arith, c.requires.top)) c.div_up-above.ensures c.node_size-size.ensures c.inner_fill-fill.ensures.fill c.inner_fill-fill.ensures.high c.loop-number.invariant))

pub overflow_add-end : goal.overflow_add-end
overflow_add-end g c = (omega (arith, level_bounded _ c.args.cfg.now.lawful _ c.requires.room c.loop-number.number _ _ _ _ _ _ _ _ (omega (arith, c.requires.top)) c.div_up-above.ensures c.node_size-size.ensures c.inner_fill-fill.ensures.fill c.inner_fill-fill.ensures.high c.loop-number.invariant))

pub offset_bounds-out-at : goal.offset_bounds-out-at
offset_bounds-out-at g c = omega (arith, level_bounded _ c.args.cfg.now.lawful _ c.requires.room c.loop-number.number _ _ _ _ _ _ _ _ (omega (arith, c.requires.top)) c.div_up-above.ensures c.node_size-size.ensures c.inner_fill-fill.ensures.fill c.inner_fill-fill.ensures.high c.loop-number.invariant)

pub slice_bounds-build_above-end : goal.slice_bounds-build_above-end
slice_bounds-build_above-end g c = (omega (arith, level_bounded _ c.args.cfg.now.lawful _ c.requires.room c.loop-number.number _ _ _ _ _ _ _ _ (omega (arith, c.requires.top)) c.div_up-above.ensures c.node_size-size.ensures c.inner_fill-fill.ensures.fill c.inner_fill-fill.ensures.high c.loop-number.invariant, begun _ c.args.cfg.now.lawful _ c.requires.room _ _ _ c.leaf_count-count.ensures c.node_size-size.ensures c.requires.blank))

pub overflow_add-first : goal.overflow_add-first
overflow_add-first g c = omega (arith, level_bounded _ c.args.cfg.now.lawful _ c.requires.room c.loop-number.number _ _ _ _ _ _ _ _ (omega (arith, c.requires.top)) c.div_up-above.ensures c.node_size-size.ensures c.inner_fill-fill.ensures.fill c.inner_fill-fill.ensures.high c.loop-number.invariant)

pub overflow_mul-span : goal.overflow_mul-span
overflow_mul-span g c = omega (arith, (level_bounded _ c.args.cfg.now.lawful _ c.requires.room c.loop-number.number _ _ _ _ _ _ _ _ (omega (arith, c.requires.top)) c.div_up-above.ensures c.node_size-size.ensures c.inner_fill-fill.ensures.fill c.inner_fill-fill.ensures.high c.loop-number.invariant).wide c.requires.few)

pub loop-number-preserved : goal.loop-number-preserved
loop-number-preserved g c = (
    let bounds = level_bounded _ c.args.cfg.now.lawful _ c.requires.room c.loop-number.number _ _ _ _ _ _ _ _ (omega (arith, c.requires.top)) c.div_up-above.ensures c.node_size-size.ensures c.inner_fill-fill.ensures.fill c.inner_fill-fill.ensures.high c.loop-number.invariant in
    let begins = begun _ c.args.cfg.now.lawful _ c.requires.room _ _ _ c.leaf_count-count.ensures c.node_size-size.ensures c.requires.blank in
    filled_more _ c.args.cfg.now.lawful _ c.requires.room c.loop-number.number _ _ _ _ _ _ _ c.loop-number.out c.build_above.new.out (omega (arith, c.requires.top)) bounds c.inner_fill-fill.ensures.fill (omega (arith, begins)) (omega (arith, c.build_above.auto.out, bounds, begins)) c.build_above.ensures c.loop-number.invariant)

pub returns : goal.returns
returns g c = (
    let p = c.args.cfg.now.parts in
    let rows = c.args.rows.now in
    let at_top : c.loop-number.number ≡ c.args.top = omega arith in
    filled_end p c.args.cfg.now.lawful rows c.requires.room _ _ _ _ _ c.loop-number.out (omega (arith, c.requires.top)) c.loop-number.invariant ∙ ap (λ h. words_to p rows h ++ replicate ((nodes p - need_of p (length rows)) * node_size p) 0) at_top)
