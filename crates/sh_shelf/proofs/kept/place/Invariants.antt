use Rattle.std.proofs.Common.{ℕ, ◌<◌, ◌≢◌}
use Rattle.std.specs.Prelude.{slice_index}
use Rattle.sh_cache.specs.Columns.{lows_of}
use Rattle.sh_shelf.proofs.kept.place.Given as goal

abbrev pub invariant-loop-at : goal.invariant-loop-at
invariant-loop-at l = (i : ℕ) → i < l.at → slice_index (lows_of l.rows) i ≢ l.low
