use Rattle.sh_decide.proofs.IndexLemmas.{once_is}
use Rattle.sh_decide.proofs.leaves.are_once.Goals as goal

pub returns-clause-exact : goal.returns-clause-exact
returns-clause-exact c = once_is _ _ c.keys_differ.ensures
