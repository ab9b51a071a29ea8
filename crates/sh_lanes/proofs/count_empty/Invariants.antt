use Rattle.std.proofs.Common.{◌≡◌, ◌+◌, ◌-◌, ◌≤◌, drop, length}
use Rattle.sh_lanes.specs.Scans.{count_empty}
use Rattle.sh_lanes.proofs.count_empty.Given as goal

abbrev pub invariant-fours : goal.invariant-fours
invariant-fours l = (l.at ≤ length l.keys) × (count_empty l.keys ≡ l.empty + count_empty (drop l.at l.keys)) × (l.empty ≤ l.at)

abbrev pub decreases-fours : goal.decreases-fours
decreases-fours l = length l.keys - l.at

abbrev pub invariant-loop-index : goal.invariant-loop-index
invariant-loop-index l = (count_empty l.keys ≡ l.empty + count_empty (drop l.index l.keys)) × (l.empty ≤ l.index)
