use Rattle.std.proofs.Common.{◌-◌, ◌^◌}
use Rattle.sh_picture.specs.Walk.{IsAlong}
use Rattle.sh_picture.proofs.walking.walk_level.Given as goal

abbrev pub invariant-nodes : goal.invariant-nodes
invariant-nodes l = IsAlong l.cfg.parts l.words l.level l.first 0 l.nodes.items l.node l.low

abbrev pub decreases-nodes : goal.decreases-nodes
decreases-nodes l = 2 ^ 64 - l.low
