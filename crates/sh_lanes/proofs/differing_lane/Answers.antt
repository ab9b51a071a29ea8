use Rattle.std.proofs.Common.{rules}
use Rattle.std.proofs.lemmas.Simd.{length-chunk}
use Rattle.sh_lanes.proofs.LaneLemmas.{none_differ, first_differs}
use Rattle.sh_lanes.proofs.differing_lane.Goals as goal

pub returns-then-mask-eq0 : goal.returns-then-mask-eq0
returns-then-mask-eq0 c = search (rules, none_differ, length-chunk)

pub returns-else-mask-eq0 : goal.returns-else-mask-eq0
returns-else-mask-eq0 c = search (rules, first_differs, length-chunk)
