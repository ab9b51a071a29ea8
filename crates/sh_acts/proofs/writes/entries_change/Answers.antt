use Rattle.sh_edit.proofs.HeldLemmas.{over_is_put, new_is_put, removed_is_del, once-set}
use Rattle.sh_acts.proofs.writes.entries_change.Goals as goal

pub returns-clause-over : goal.returns-clause-over
returns-clause-over c = over_is_put

pub returns-clause-new : goal.returns-clause-new
returns-clause-new c = new_is_put

pub returns-clause-removed : goal.returns-clause-removed
returns-clause-removed c = removed_is_del

pub returns-clause-once : goal.returns-clause-once
returns-clause-once c = once-set
