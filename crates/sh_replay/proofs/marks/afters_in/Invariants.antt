use Rattle.std.proofs.Common.{take}
use Rattle.sh_replay.specs.Clocks.{IsFound}
use Rattle.sh_replay.proofs.marks.afters_in.Given as goal

abbrev pub invariant-loop-item : goal.invariant-loop-item
invariant-loop-item l = IsFound (take l.item-index l.items) l.found.rows.items l.found.seats.items l.found.marks
