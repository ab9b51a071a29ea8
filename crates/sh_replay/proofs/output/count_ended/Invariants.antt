use Rattle.std.proofs.Common.{◌≡◌, ◌≤◌, take}
use Rattle.sh_replay.specs.Output.{count_ended}
use Rattle.sh_replay.proofs.output.count_ended.Given as goal

abbrev pub invariant-loop-i : goal.invariant-loop-i
invariant-loop-i l = (l.count ≡ count_ended (take l.i l.calls.calls)) × (l.count ≤ l.i)
