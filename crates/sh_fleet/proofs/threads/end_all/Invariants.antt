use Rattle.std.proofs.Common.{◌≡◌, ◌+◌, ◌≤◌, vec_capacity, vec_len}
use Rattle.std.specs.Vec.Iter.{into_iter_items, into_iter_len}
use Rattle.sh_base.specs.Parts.{parts_of}
use Rattle.sh_fleet.specs.{Sharing.{AreDone}, Tasks.{AreTasks}}
use Rattle.sh_fleet.proofs.threads.end_all.Given as goal

abbrev pub invariant-loop-task : goal.invariant-loop-task
invariant-loop-task g l =
    let rest = l.task-iterator in
    let ended = vec_len l.done in
    (ended + into_iter_len rest ≡ vec_len l.fn.tasks)
    × (ended + into_iter_len rest ≤ vec_capacity l.done)
    × AreTasks l.floor ended (into_iter_items rest)
    × AreDone (parts_of l.floor.cfg.now) l.floor.pool.now.laid l.floor.items.now 0 l.done.items
