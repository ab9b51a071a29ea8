use Rattle.sh_base.proofs.PlacesLemmas.{stores_keep_apart}
use Rattle.sh_base.proofs.config.Config.stores_apart.Goals as goal

pub returns : goal.returns
returns c = stores_keep_apart _
