use Rattle.sh_cache.proofs.RowLemmas.{kept_was, forgotten_was}
use Rattle.sh_cache.proofs.laws.rows_were_kept.Goals as goal

pub returns-clause-kept : goal.returns-clause-kept
returns-clause-kept c = kept_was

pub returns-clause-forgotten : goal.returns-clause-forgotten
returns-clause-forgotten c = forgotten_was
