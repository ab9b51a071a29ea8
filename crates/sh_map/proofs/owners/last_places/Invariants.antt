use Rattle.std.proofs.Common.{take}
use Rattle.sh_map.specs.Tables.{AreLastPlaces}
use Rattle.sh_map.proofs.owners.last_places.Given as goal

abbrev pub invariant-loop-at : goal.invariant-loop-at
invariant-loop-at l = AreLastPlaces (take l.at l.log) l.lasts
