use Rattle.std.{proofs.{Common.{subst, arith, ap, ◌∙◌}, lemmas.List.{take_all}}, specs.Prelude.{unwrap_or}}
use Rattle.sh_map.{specs.{Judge.{FitsOrder}, Tables.{AreKept}}, proofs.OrderLemmas.{bounds_none, bounds_more, order_decides, kept_none, kept_more}}
use Rattle.sh_map.proofs.order.are_in_order.Goals as goal

pub loop-done-init : goal.loop-done-init
loop-done-init c = (kept_none FitsOrder _ c.in_ok-kept.ensures.items, bounds_none _ c.new-ends.ensures.empty, omega (arith, c.in_ok-kept.ensures.len, c.in_ok-kept.ensures.capacity))

pub push_reserved-requires : goal.push_reserved-requires
push_reserved-requires c = omega (arith, c.loop-done.invariant.2)

pub loop-done-preserved : goal.loop-done-preserved
loop-done-preserved c =
    let dones = c.args.dones.now in
    let at = c.loop-done.done-index in
    let end_is = c.unwrap_or-end.ensures ∙ ap (λ o. unwrap_or o 0) (c.copied.ensures ∙ c.get.ensures.value) in (
      rw c.push_reserved.ensures.items (kept_more FitsOrder dones at _ _ _ c.loop-done-test.true c.done-item.is c.loop-done.invariant.0 (order_decides _ _ _ c.loop-done.invariant.1 _ _ end_is _ c.is_within.ensures)),
      bounds_more dones at _ c.loop-done-test.true c.done-item.is _ _ _ _ _ _ _ c.loop-done.invariant.1 c.max-above.ensures end_is c.end_of.ensures c.max.ensures c.in_ok-insert.ensures.updates,
      omega (arith, c.loop-done.invariant.2, c.push_reserved.ensures.len, c.push_reserved.ensures.capacity, c.loop-done-test.true),
    )

pub returns : goal.returns
returns c = subst (λ l. AreKept FitsOrder l c.loop-done.kept.items) (take_all _ c.args.dones.now c.loop-done-test.false) c.loop-done.invariant.0
