use Rattle.sh_cache.proofs.{FindLemmas.{found_by}, RowLemmas.{forgotten_gone}}
use Rattle.sh_cache.proofs.laws.rows_are_exact.Goals as goal

pub returns-clause-found : goal.returns-clause-found
returns-clause-found c = found_by

pub returns-clause-forgotten : goal.returns-clause-forgotten
returns-clause-forgotten c = forgotten_gone
