use Rattle.std.proofs.Common.{map}
use Rattle.sh_picture.proofs.GoingLemmas.{IsGoing}
use Rattle.sh_picture.proofs.walking.walk.Given as goal

abbrev pub invariant-loop-depth : goal.invariant-loop-depth
invariant-loop-depth l = IsGoing l.cfg.parts l.words l.top l.depth (map (λ nodes. nodes.items) l.levels.items) l.first
