use Rattle.std.proofs.Common.{arith}
use Rattle.sh_lanes.proofs.LaneLemmas.{equal_found, equal_none}
use Rattle.sh_lanes.proofs.first_equal.Goals as goal

pub returns-then-lane-lt4 : goal.returns-then-lane-lt4
returns-then-lane-lt4 c = equal_found c.args.keys.now c.args.key c.fours.at _ (omega arith) c.fours.invariant.1 c.equal_lane-lane.ensures c.if-lane-lt4.true

pub fours-preserved : goal.fours-preserved
fours-preserved c = (omega arith, equal_none c.args.keys.now c.args.key c.fours.at _ (omega arith) c.fours.invariant.1 c.equal_lane-lane.ensures c.if-lane-lt4.false)
