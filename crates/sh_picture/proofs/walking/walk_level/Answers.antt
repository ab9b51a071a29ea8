use Rattle.std.proofs.Common.{rules}
use Rattle.sh_picture.{proofs.{NodeLemmas.{spelled_fit}, WalkLemmas.{along_more, along_here}}}
use Rattle.sh_picture.proofs.walking.walk_level.Goals as goal

pub nodes-preserved : goal.nodes-preserved
nodes-preserved c = search (rules, spelled_fit, along_here, along_more)
