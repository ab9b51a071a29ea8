use Rattle.std.proofs.Common.{[]}
use Rattle.sh_cache.proofs.ActLemmas.{found_kept, apart_acts}
use Rattle.sh_cache.proofs.laws.what_is_found_was_kept.Goals as goal

pub returns-clause-found : goal.returns-clause-found
returns-clause-found c = found_kept

pub returns-clause-apart : goal.returns-clause-apart
returns-clause-apart c = λ room acts. apart_acts room [] acts tt
