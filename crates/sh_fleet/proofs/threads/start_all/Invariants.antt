use Rattle.std.proofs.Common.{◌≡◌, ◌+◌, ◌≤◌, vec_capacity, vec_len}
use Rattle.std.specs.Vec.Iter.{into_iter_items, into_iter_len}
use Rattle.sh_base.specs.Parts.{parts_of}
use Rattle.sh_fleet.specs.{Sharing.{AreWorks}, Tasks.{AreTasks}}
use Rattle.sh_fleet.proofs.threads.start_all.Given as goal

abbrev pub invariant-loop-work : goal.invariant-loop-work
invariant-loop-work g l =
    let rest = l.work-iterator in
    let started = vec_len l.tasks in
    (started + into_iter_len rest ≡ vec_len l.fn.works)
    × (started + into_iter_len rest ≤ vec_capacity l.tasks)
    × AreWorks (parts_of l.floor.cfg.now) l.floor.pool.now.laid l.floor.items.now started (into_iter_items rest)
    × AreTasks l.floor 0 l.tasks.items
