use Rattle.std.proofs.Common.{◌≡◌, true, take}
use Rattle.sh_replay.specs.Course.{have_ended}
use Rattle.sh_replay.proofs.turns.have_ended.Given as goal

abbrev pub invariant-loop-i : goal.invariant-loop-i
invariant-loop-i l = have_ended (take l.i l.calls.calls) ≡ true
