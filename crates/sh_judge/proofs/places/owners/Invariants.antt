use Rattle.std.proofs.Common.{take}
use Rattle.sh_judge.specs.Tables.{AreOwners}
use Rattle.sh_judge.proofs.places.owners.Given as goal

abbrev pub invariant-loop-at : goal.invariant-loop-at
invariant-loop-at l = AreOwners l.len l.dones (take l.at l.dones) l.owners.items
