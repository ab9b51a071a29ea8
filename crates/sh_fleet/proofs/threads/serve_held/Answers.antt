use Rattle.std.proofs.Common.{◌<◌, arith, subst, sym, length}
use Rattle.sh_base.specs.Parts.{parts_of}
use Rattle.sh_fleet.{specs.{declared.threads.Task.{Task}, Tasks.{IsTask}}, proofs.TaskLemmas.{seat_within, task_at_first, task_set_first}}
use Rattle.sh_fleet.proofs.threads.serve_held.Goals as goal

pub step_held-requires-clause-task : goal.step_held-requires-clause-task
step_held-requires-clause-task g c =
    let below = seat_within (parts_of c.args.floor.now.cfg.now) c.args.floor.now.items.now c.loop-item.item-index c.item-item.result c.requires.lawful c.loop-item-test.true c.item-item.is in
    let seat : c.item_seat-seat.result < length c.loop-item.tasks.items = omega (arith, below, c.item_seat-seat.ensures, c.loop-item.invariant.0, c.requires.long, c.loop-item.tasks.ok.0) in
    subst (λ (t : Task). IsTask c.args.floor.now c.item_seat-seat.result t) (sym c.index_mut.ensures.value) (task_at_first _ _ _ _ c.loop-item.invariant.1 seat)

pub loop-item-preserved : goal.loop-item-preserved
loop-item-preserved g c = (c.loop-item.invariant.0, task_set_first _ _ _ _ c.loop-item.invariant.1 c.step_held.ensures)
