use Rattle.std.{proofs.Common.{◌≡◌, ℕ, List, Option, length, take}, specs.List.{fold}}
use Rattle.sh_sheet.specs.declared.item.Item.{Item}
use Rattle.sh_replay.specs.{Course.{goes_on, Course}, Standing.{IsAt}, TurnRows.{kept_asks}}
use Rattle.sh_replay.proofs.turns.take_all.Given as goal

abbrev pub invariant-loop-row : goal.invariant-loop-row
invariant-loop-row g l = ((items : List Item) (c : Course) (left : ℕ) (held : Option (List ℕ)) → IsAt items g.T.Tells.TOLD c l.fn.world l.fn.marks left held (g.K.Sink.held l.fn.sink) → IsAt items g.T.Tells.TOLD (fold (goes_on items) c (kept_asks (take l.row-index l.rows))) l.world l.marks left held (g.K.Sink.held l.sink))
    × (length l.world.seats ≡ length l.fn.world.seats) × (g.K.Sink.faults l.sink ≡ g.K.Sink.faults l.fn.sink)
