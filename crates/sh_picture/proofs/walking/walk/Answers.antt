use Rattle.std.proofs.{Common.{rules}, lemmas.List.{map-append}}
use Rattle.sh_picture.proofs.GoingLemmas.{going_more, whole_of}
use Rattle.sh_picture.proofs.walking.walk.Goals as goal

pub loop-depth-preserved : goal.loop-depth-preserved
loop-depth-preserved c = search (rules, whole_of, going_more, map-append)
