use Rattle.std.proofs.Common.{subst, sym}
use Rattle.sh_fleet.{specs.{declared.threads.Task.{Task}, Tasks.{IsTask, IsWorkOn}}, proofs.TaskLemmas.{joined}}
use Rattle.sh_fleet.proofs.threads.end.Goals.{in-Running, in-Held}
use Rattle.sh_fleet.proofs.threads.end.Goals as goal

pub finish-requires-clause-work : goal.finish-requires-clause-work
finish-requires-clause-work g c = elim c.match-task.branch [
  | in-Running w ↦ joined c.args.floor.now c.args.seat w.in-Running.handle.promise _ _ (subst (λ (t : Task). IsTask c.args.floor.now c.args.seat t) w.in-Running.is c.requires.task) w.join-work.ensures w.work-is
  | in-Held w ↦ subst (IsWorkOn c.args.floor.now c.args.seat) (sym w.work-is) (subst (λ (t : Task). IsTask c.args.floor.now c.args.seat t) w.in-Held.is c.requires.task)
]
