use Rattle.std.proofs.Common.{take}
use Rattle.sh_judge.specs.Tables.{AreCounted}
use Rattle.sh_judge.proofs.places.counts.Given as goal

abbrev pub invariant-loop-done : goal.invariant-loop-done
invariant-loop-done l = AreCounted l.len (take l.done-index l.dones) l.counts.items
