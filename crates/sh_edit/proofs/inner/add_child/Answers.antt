use Rattle.std.{proofs.Common.{rules}}
use Rattle.sh_edit.proofs.PairLemmas.{pushed_fresh, whole_with}
use Rattle.sh_edit.proofs.inner.add_child.Goals as goal

pub returns : goal.returns
returns c = search (rules, pushed_fresh, whole_with)
