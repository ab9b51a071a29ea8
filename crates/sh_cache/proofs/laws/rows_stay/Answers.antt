use Rattle.sh_cache.proofs.StayLemmas.{forgotten_stays, kept_here, kept_stays}
use Rattle.sh_cache.proofs.laws.rows_stay.Goals as goal

pub returns-clause-here : goal.returns-clause-here
returns-clause-here c = λ room rows a. kept_here room a rows

pub returns-clause-kept : goal.returns-clause-kept
returns-clause-kept c = λ room rows a row. kept_stays room a rows row

pub returns-clause-forgotten : goal.returns-clause-forgotten
returns-clause-forgotten c = forgotten_stays
