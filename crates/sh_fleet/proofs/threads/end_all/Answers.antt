use Rattle.std.proofs.Common.{ℕ, ◌≡◌, ◌+◌, ◌∷◌, [], ◌++◌, rules, arith, length, sym, subst, vec_len}
use Rattle.std.specs.Vec.Iter.{into_iter_items, into_iter_len}
use Rattle.sh_base.specs.Parts.{parts_of}
use Rattle.sh_fleet.{specs.{Sharing.{AreDone, IsDone}, Tasks.{AreTasks}}, proofs.TaskLemmas.{done_more, tasks_left}}
use Rattle.sh_fleet.proofs.threads.end_all.Goals as goal

pub loop-task-preserved : goal.loop-task-preserved
loop-task-preserved g c =
    let step = c.in-Some.ensures.steps in
    let gives : into_iter_items c.loop-task.task-iterator ≡ c.in-Some.task ∷ into_iter_items c.next.new.self = step.0 in
    let left : into_iter_len c.loop-task.task-iterator ≡ into_iter_len c.next.new.self + 1 = sym step.1 in
    let pushed : vec_len c.push_reserved.new.self ≡ vec_len c.loop-task.done + 1 = search rules in
    let was = c.loop-task.invariant in
    let tasks = subst (AreTasks c.args.floor.now (vec_len c.loop-task.done)) gives was.2 in
    let at : vec_len c.loop-task.done ≡ 0 + length c.loop-task.done.items = omega (arith, c.loop-task.done.ok.0) in
    let items : c.push_reserved.new.self.items ≡ c.loop-task.done.items ++ c.end.result ∷ [] = search rules in
    (omega (arith, was.0, left, pushed), omega (arith, was.1, left, pushed, c.push_reserved.ensures.capacity), tasks_left _ _ _ _ _ pushed tasks, subst (AreDone (parts_of c.args.floor.now.cfg.now) c.args.floor.now.pool.now.laid c.args.floor.now.items.now 0) (sym items) (done_more _ _ _ 0 _ _ _ at was.3 (subst (λ (k : ℕ). IsDone (parts_of c.args.floor.now.cfg.now) c.args.floor.now.pool.now.laid c.args.floor.now.items.now k c.end.result) c.len-seat.ensures c.end.ensures)))
