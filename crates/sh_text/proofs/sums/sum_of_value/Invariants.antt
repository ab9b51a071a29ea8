use Rattle.std.proofs.Common.{◌≡◌, ◌≤◌, ◌*◌, ◌^◌, take, sum}
use Rattle.sh_text.proofs.sums.sum_of_value.Given as goal

abbrev pub invariant-loop-index : goal.invariant-loop-index
invariant-loop-index l = (l.total ≡ sum (take l.index l.words)) × (l.total ≤ l.index * 2 ^ 64)
