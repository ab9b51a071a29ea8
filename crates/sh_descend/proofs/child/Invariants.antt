use Rattle.std.proofs.Common.{◌≡◌, drop}
use Rattle.sh_descend.specs.Descent.{child_from, child_of}
use Rattle.sh_descend.proofs.child.Given as goal

abbrev pub invariant-loop-index : goal.invariant-loop-index
invariant-loop-index l = child_from l.child (drop l.index l.inner.pairs) l.key ≡ child_of l.inner.pairs l.key
