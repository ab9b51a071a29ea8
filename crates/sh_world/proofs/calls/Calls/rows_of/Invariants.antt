use Rattle.std.proofs.Common.{◌≡◌, take}
use Rattle.sh_world.specs.States.{rows_at}
use Rattle.sh_world.proofs.calls.Calls.rows_of.Given as goal

abbrev pub invariant-loop-row : goal.invariant-loop-row
invariant-loop-row l = l.rows ≡ take l.row (rows_at l.self.calls l.index)
