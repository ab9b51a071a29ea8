use Rattle.sh_client.proofs.BackLemmas.{odd_gives_back, restart_gives_back}
use Rattle.sh_client.proofs.laws.senseless_words_lead_back.Goals as goal

pub returns-clause-odd : goal.returns-clause-odd
returns-clause-odd c = odd_gives_back

pub returns-clause-image : goal.returns-clause-image
returns-clause-image c = restart_gives_back
