use Rattle.sh_map.proofs.{LogLemmas.{IsLegal-take}, LastLemmas.{get_by_last, get_by_none}}
use Rattle.sh_map.proofs.laws.log_laws.Goals as goal

pub returns-clause-legal_before : goal.returns-clause-legal_before
returns-clause-legal_before c = IsLegal-take

pub returns-clause-by_last : goal.returns-clause-by_last
returns-clause-by_last c = get_by_last

pub returns-clause-by_none : goal.returns-clause-by_none
returns-clause-by_none c = get_by_none
