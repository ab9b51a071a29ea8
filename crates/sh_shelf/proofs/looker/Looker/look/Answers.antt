use Rattle.sh_shelf.proofs.RuleLemmas.{looks}
use Rattle.sh_shelf.proofs.looker.Looker.look.Goals as goal

pub enter_as-requires : goal.enter_as-requires
enter_as-requires c = looks _ _
