use Rattle.std.proofs.Common.{◌≡◌, ◌≤◌, ◌*◌, ◌^◌, take}
use Rattle.sh_text.specs.Text.{sum_of}
use Rattle.sh_text.proofs.sums.sum_of.Given as goal

abbrev pub invariant-loop-row : goal.invariant-loop-row
invariant-loop-row l = (l.total ≡ sum_of (take l.row-index l.rows)) × (l.total ≤ l.row-index * (8 * 2 ^ 64))
