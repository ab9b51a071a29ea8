use Rattle.std.proofs.Common.{◌≡◌, ◌≤◌, take}
use Rattle.sh_text.specs.Counts.{counts_of}
use Rattle.sh_world.specs.States.{dones_of}
use Rattle.sh_replay.specs.Output.{total}
use Rattle.sh_replay.proofs.output.counts.Given as goal

abbrev pub invariant-loop-i : goal.invariant-loop-i
invariant-loop-i l = (l.counts ≡ counts_of (dones_of (take l.i l.calls.calls))) × (total l.counts ≤ l.i)
