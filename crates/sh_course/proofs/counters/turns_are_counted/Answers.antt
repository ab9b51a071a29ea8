use Rattle.sh_course.proofs.Rising.{counts, counts_no_start}
use Rattle.sh_course.proofs.counters.turns_are_counted.Goals as goal

pub returns-clause-handed : goal.returns-clause-handed
returns-clause-handed c = λ m x may. (counts m x may).0

pub returns-clause-splits : goal.returns-clause-splits
returns-clause-splits c = λ m x may. (counts m x may).1

pub returns-clause-rewritten : goal.returns-clause-rewritten
returns-clause-rewritten c = λ m x may. (counts m x may).2

pub returns-clause-from_cache : goal.returns-clause-from_cache
returns-clause-from_cache c = counts_no_start
