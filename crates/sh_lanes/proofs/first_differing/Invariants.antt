use Rattle.std.{proofs.Common.{ℕ, ◌<◌, ◌≤◌, ◌-◌, ◌≡◌, length}, specs.Prelude.{slice_index}}
use Rattle.sh_lanes.proofs.first_differing.Given as goal

abbrev pub invariant-fours : goal.invariant-fours
invariant-fours l = (l.at ≤ length l.a) × ((i : ℕ) → i < l.at → slice_index l.a i ≡ slice_index l.b i)

abbrev pub decreases-fours : goal.decreases-fours
decreases-fours l = length l.a - l.at

abbrev pub invariant-loop-index : goal.invariant-loop-index
invariant-loop-index l = (i : ℕ) → i < l.index → slice_index l.a i ≡ slice_index l.b i
