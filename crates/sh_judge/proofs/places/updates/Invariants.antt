use Rattle.std.proofs.Common.{◌≡◌, ◌≤◌, take}
use Rattle.sh_judge.specs.Places.{update_count}
use Rattle.sh_judge.proofs.places.updates.Given as goal

abbrev pub invariant-loop-done : goal.invariant-loop-done
invariant-loop-done l = (l.count ≡ update_count (take l.done-index l.dones)) × (l.count ≤ l.done-index)
