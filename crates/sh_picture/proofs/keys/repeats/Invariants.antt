use Rattle.std.{proofs.Common.{◌≢◌, ◌<◌, ℕ}, specs.Prelude.{slice_index}}
use Rattle.sh_picture.proofs.keys.repeats.Given as goal

abbrev pub invariant-loop-behind : goal.invariant-loop-behind
invariant-loop-behind l = (j : ℕ) → l.at < j → j < l.behind → slice_index l.keys j ≢ l.key
