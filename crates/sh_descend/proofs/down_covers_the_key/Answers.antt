use Rattle.sh_descend.proofs.ChildLemmas.{down_covers}
use Rattle.sh_descend.proofs.down_covers_the_key.Goals as goal

pub returns : goal.returns
returns c = down_covers
