use Rattle.std.proofs.Common.{◌≡◌, take}
use Rattle.sh_world.specs.States.{dones_of}
use Rattle.sh_world.proofs.laid.ended_calls.Given as goal

abbrev pub invariant-loop-i : goal.invariant-loop-i
invariant-loop-i l = l.dones.items ≡ dones_of (take l.i l.calls.calls)
