use Rattle.sh_client.proofs.CachedLemmas.{fed_keeps}
use Rattle.sh_client.proofs.laws.turns_keep_the_call.Goals as goal

pub returns-clause-fed : goal.returns-clause-fed
returns-clause-fed c = fed_keeps
