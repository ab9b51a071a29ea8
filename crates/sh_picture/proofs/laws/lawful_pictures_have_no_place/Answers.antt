use Rattle.sh_picture.proofs.LawLemmas.{lawful_alone}
use Rattle.sh_picture.proofs.laws.lawful_pictures_have_no_place.Goals as goal

pub returns : goal.returns
returns c = lawful_alone
