use Rattle.std.proofs.Common.{◌≡◌, take}
use Rattle.sh_replay.specs.TurnRows.{turn_rows}
use Rattle.sh_replay.proofs.turns.turn_rows.Given as goal

abbrev pub invariant-loop-item : goal.invariant-loop-item
invariant-loop-item l = l.rows.items ≡ turn_rows (take l.item-index l.items)
