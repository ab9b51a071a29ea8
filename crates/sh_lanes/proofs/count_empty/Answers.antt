use Rattle.std.proofs.Common.{arith}
use Rattle.sh_lanes.proofs.LaneLemmas.{empty_more}
use Rattle.sh_lanes.proofs.count_empty.Goals as goal

pub fours-preserved : goal.fours-preserved
fours-preserved c =
    let more = empty_more c.args.keys.now c.fours.at c.fours.empty _ (omega arith) c.fours.invariant.1 c.fours.invariant.2 c.empty_lanes-empty.ensures in
    (omega arith, more.0, more.1)
