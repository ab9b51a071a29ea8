use Rattle.sh_shelf.proofs.RowLemmas.{apart_shelf, found_offered, length_shelf, shelf_more, shelf_none}
use Rattle.sh_shelf.proofs.laws.shelf_is_exact.Goals as goal

pub returns-clause-none : goal.returns-clause-none
returns-clause-none c = shelf_none

pub returns-clause-more : goal.returns-clause-more
returns-clause-more c = shelf_more

pub returns-clause-within : goal.returns-clause-within
returns-clause-within c = length_shelf

pub returns-clause-apart : goal.returns-clause-apart
returns-clause-apart c = apart_shelf

pub returns-clause-offered : goal.returns-clause-offered
returns-clause-offered c = found_offered
