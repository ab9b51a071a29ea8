use Rattle.sh_picture.proofs.OneLemmas.{places_one}
use Rattle.sh_picture.proofs.laws.places_are_one.Goals as goal

pub returns : goal.returns
returns c = places_one
