use Rattle.std.proofs.Common.{take}
use Rattle.sh_fleet.specs.{Wants.{wants_of}, Boards.{IsLinked}}
use Rattle.sh_fleet.proofs.board.links_of.Given as goal

abbrev pub invariant-loop-at : goal.invariant-loop-at
invariant-loop-at l = IsLinked (wants_of l.items) (take l.at l.items) l.found.links.items l.found.next.items l.found.marks
