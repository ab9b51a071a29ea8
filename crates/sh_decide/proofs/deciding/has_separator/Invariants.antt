use Rattle.std.proofs.Common.{◌≡◌, drop}
use Rattle.sh_decide.specs.Deciding.{has_separator}
use Rattle.sh_decide.proofs.deciding.has_separator.Given as goal

abbrev pub invariant-loop-index : goal.invariant-loop-index
invariant-loop-index l = has_separator (drop l.index l.inner.pairs) l.separator ≡ has_separator l.inner.pairs l.separator
