use Rattle.std.proofs.Common.{take}
use Rattle.sh_map.specs.Tables.{AreMet}
use Rattle.sh_map.proofs.ranges.keys_met.Given as goal

abbrev pub invariant-loop-entry : goal.invariant-loop-entry
invariant-loop-entry l = AreMet (take l.entry-index l.entries) l.rows l.met
