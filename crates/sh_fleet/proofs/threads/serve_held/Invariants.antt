use Rattle.std.proofs.Common.{◌≡◌, vec_len}
use Rattle.sh_fleet.specs.Tasks.{AreTasks}
use Rattle.sh_fleet.proofs.threads.serve_held.Given as goal

abbrev pub invariant-loop-item : goal.invariant-loop-item
invariant-loop-item g l = (vec_len l.tasks ≡ vec_len l.fn.tasks) × AreTasks l.floor 0 l.tasks.items
