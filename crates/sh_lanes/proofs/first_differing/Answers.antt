use Rattle.std.proofs.Common.{arith}
use Rattle.sh_lanes.proofs.LaneLemmas.{differing_found, differing_none, agree_all}
use Rattle.sh_lanes.proofs.first_differing.Goals as goal

pub returns-then-lane-lt4 : goal.returns-then-lane-lt4
returns-then-lane-lt4 c = differing_found c.args.a.now c.args.b.now c.fours.at _ (omega arith) (omega (arith, c.requires)) c.fours.invariant.1 c.differing_lane-lane.ensures c.if-lane-lt4.true

pub fours-preserved : goal.fours-preserved
fours-preserved c = (omega arith, differing_none c.args.a.now c.args.b.now c.fours.at _ (omega arith) (omega (arith, c.requires)) c.fours.invariant.1 c.differing_lane-lane.ensures c.if-lane-lt4.false)

pub returns : goal.returns
returns c = agree_all c.args.a.now c.args.b.now c.loop-index.index c.requires (omega arith) c.loop-index.invariant
