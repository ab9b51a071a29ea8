use Rattle.std.{proofs.{Common.{refl, sym, subst, arith, ◌+◌, ◌-◌, ◌≤◌, length, take, List}, lemmas.List.{take_all}}, specs.Vec.{vec_capacity, vec_len}}
use Rattle.sh_map.{specs.declared.book.Done.{Done}, proofs.{SweepLemmas.{AreDue, due_none, due_more, due_kept, due_sorted}, sweep.by_points.Goals.{then-is_asked, else-is_asked}}}
use Rattle.sh_map.proofs.sweep.by_points.Goals as goal

pub loop-place-init : goal.loop-place-init
loop-place-init c = (due_none c.args.part _ c.in_ok-due.ensures.items, omega (arith, c.in_ok-due.ensures.len, c.in_ok-due.ensures.capacity))

pub push_reserved-requires : goal.push_reserved-requires
push_reserved-requires c = omega (arith, c.loop-place.invariant.1)

pub loop-place-preserved : goal.loop-place-preserved
loop-place-preserved c =
    let dones = c.args.dones.now in
    let at = c.loop-place.place in
    elim c.if-is_asked.branch [
      | then-is_asked w ↦ subst (λ v. AreDue c.args.part (take (at + 1) dones) v.items × (vec_len v + (length dones - (at + 1)) ≤ vec_capacity v)) (sym w.due-is) (
        rw w.push_reserved.ensures.items (due_more c.args.part dones at c.index-dones-place.result c.loop-place-test.true c.index-dones-place.is c.loop-place.due.items c.loop-place.invariant.0 _ refl),
        omega (arith, c.loop-place.invariant.1, w.push_reserved.ensures.len, w.push_reserved.ensures.capacity, c.loop-place-test.true),
      )
      | else-is_asked w ↦ subst (λ v. AreDue c.args.part (take (at + 1) dones) v.items × (vec_len v + (length dones - (at + 1)) ≤ vec_capacity v)) (sym w.due-is) (
        due_kept c.args.part dones at c.index-dones-place.result c.loop-place-test.true c.index-dones-place.is c.loop-place.due.items c.loop-place.invariant.0 (c.is_asked.ensures w.if-is_asked.false),
        omega (arith, c.loop-place.invariant.1, c.loop-place-test.true),
      )
    ]

pub returns-clause-within : goal.returns-clause-within
returns-clause-within c = (due_sorted c.args.part c.args.dones.now c.loop-place.due.items _ (subst (λ (l : List Done). AreDue c.args.part l c.loop-place.due.items) (take_all _ c.args.dones.now c.loop-place-test.false) c.loop-place.invariant.0) c.sort_unstable_by_key.ensures.permutation).within

pub returns-clause-each : goal.returns-clause-each
returns-clause-each c = (due_sorted c.args.part c.args.dones.now c.loop-place.due.items _ (subst (λ (l : List Done). AreDue c.args.part l c.loop-place.due.items) (take_all _ c.args.dones.now c.loop-place-test.false) c.loop-place.invariant.0) c.sort_unstable_by_key.ensures.permutation).each
