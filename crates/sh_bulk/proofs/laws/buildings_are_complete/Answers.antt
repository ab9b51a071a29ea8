use Rattle.sh_bulk.proofs.Complete.{complete}
use Rattle.sh_bulk.proofs.laws.buildings_are_complete.Goals as goal

pub returns : goal.returns
returns c = complete
