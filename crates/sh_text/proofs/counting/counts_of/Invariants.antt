use Rattle.std.proofs.Common.{◌≡◌, take}
use Rattle.sh_text.{specs.Counts.{counts_of}, proofs.CountLemmas.{AreFew}}
use Rattle.sh_text.proofs.counting.counts_of.Given as goal

abbrev pub invariant-loop-done : goal.invariant-loop-done
invariant-loop-done l = (l.counts ≡ counts_of (take l.done-index l.dones)) × AreFew l.done-index l.counts
