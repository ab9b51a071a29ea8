use Rattle.std.proofs.Common.{ℕ, ◌≡◌, ◌+◌, ◌∷◌, [], ◌++◌, rules, arith, length, sym, subst, vec_len}
use Rattle.std.specs.Vec.Iter.{into_iter_items, into_iter_len}
use Rattle.sh_base.specs.Parts.{parts_of}
use Rattle.sh_fleet.{specs.{Sharing.{AreWorks}, Tasks.{AreTasks, IsTask}}, proofs.TaskLemmas.{tasks_more, works_left}}
use Rattle.sh_fleet.proofs.threads.start_all.Goals as goal

pub loop-work-preserved : goal.loop-work-preserved
loop-work-preserved g c =
    let step = c.in-Some.ensures.steps in
    let gives : into_iter_items c.loop-work.work-iterator ≡ c.in-Some.work ∷ into_iter_items c.next.new.self = step.0 in
    let left : into_iter_len c.loop-work.work-iterator ≡ into_iter_len c.next.new.self + 1 = sym step.1 in
    let pushed : vec_len c.push_reserved.new.self ≡ vec_len c.loop-work.tasks + 1 = search rules in
    let was = c.loop-work.invariant in
    let works = subst (AreWorks (parts_of c.args.floor.cfg.now) c.args.floor.pool.now.laid c.args.floor.items.now (vec_len c.loop-work.tasks)) gives was.2 in
    let at : vec_len c.loop-work.tasks ≡ 0 + length c.loop-work.tasks.items = omega (arith, c.loop-work.tasks.ok.0) in
    let items : c.push_reserved.new.self.items ≡ c.loop-work.tasks.items ++ c.start.result ∷ [] = search rules in
    (omega (arith, was.0, left, pushed), omega (arith, was.1, left, pushed, c.push_reserved.ensures.capacity), works_left _ _ _ _ _ _ _ pushed works, subst (AreTasks c.args.floor 0) (sym items) (tasks_more c.args.floor 0 _ _ _ at was.3 (subst (λ (k : ℕ). IsTask c.args.floor k c.start.result) c.len-seat.ensures c.start.ensures)))
