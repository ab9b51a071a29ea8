use Rattle.std.proofs.Common.{◌-◌}
use Rattle.sh_bulk.proofs.ShapeLemmas.{IsClimb}
use Rattle.sh_bulk.proofs.shape.shape_of.Given as goal

-- the levels so far
abbrev pub invariant-levels : goal.invariant-levels
invariant-levels l = IsClimb l.cfg.parts l.cfg.lawful l.rows l.count l.need l.top

abbrev pub decreases-levels : goal.decreases-levels
decreases-levels l = l.count - 1
