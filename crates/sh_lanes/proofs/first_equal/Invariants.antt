use Rattle.std.{proofs.Common.{ℕ, ◌<◌, ◌≤◌, ◌-◌, ◌≢◌, length}, specs.Prelude.{slice_index}}
use Rattle.sh_lanes.proofs.first_equal.Given as goal

abbrev pub invariant-fours : goal.invariant-fours
invariant-fours l = (l.at ≤ length l.keys) × ((i : ℕ) → i < l.at → slice_index l.keys i ≢ l.key)

abbrev pub decreases-fours : goal.decreases-fours
decreases-fours l = length l.keys - l.at

abbrev pub invariant-loop-index : goal.invariant-loop-index
invariant-loop-index l = (i : ℕ) → i < l.index → slice_index l.keys i ≢ l.key
