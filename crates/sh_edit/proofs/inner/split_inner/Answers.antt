use Rattle.std.{proofs.Common.{rules}}
use Rattle.sh_edit.proofs.PairLemmas.{pushed_fresh, front_with, rest_with, middle_with}
use Rattle.sh_edit.proofs.inner.split_inner.Goals as goal

pub returns-clause-left : goal.returns-clause-left
returns-clause-left c = search (rules, pushed_fresh, middle_with, front_with)

pub returns-clause-right : goal.returns-clause-right
returns-clause-right c = search (rules, pushed_fresh, middle_with, rest_with)

pub returns-clause-separator : goal.returns-clause-separator
returns-clause-separator c = search (rules, middle_with)
