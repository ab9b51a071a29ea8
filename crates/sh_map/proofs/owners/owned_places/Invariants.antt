use Rattle.std.proofs.Common.{take}
use Rattle.sh_map.specs.Tables.{AreOwned}
use Rattle.sh_map.proofs.owners.owned_places.Given as goal

abbrev pub invariant-loop-done : goal.invariant-loop-done
invariant-loop-done l = AreOwned l.len (take l.done-index l.dones) l.owned.items
