use Rattle.sh_edit.proofs.PairLemmas.{IsPushed}
use Rattle.std.specs.List.{insert}
use Rattle.sh_edit.proofs.inner.push_pairs.Given as goal

abbrev pub invariant-loop-index : goal.invariant-loop-index
invariant-loop-index l = IsPushed l.fn.image (insert l.inner.pairs l.gap l.new) l.from l.index l.image
