use Rattle.sh_base.proofs.PlacesLemmas.{are_places_apart}
use Rattle.sh_base.proofs.config.Config.places_apart.Goals as goal

pub returns : goal.returns
returns c = are_places_apart _
