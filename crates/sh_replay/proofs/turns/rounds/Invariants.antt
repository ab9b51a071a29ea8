use Rattle.std.proofs.Common.{◌≡◌, ◌≤◌, List, ℕ, Option, length}
use Rattle.sh_sheet.specs.declared.item.Item.{Item}
use Rattle.sh_replay.{specs.{Course.{Course}, Standing.{IsAt}}, proofs.RoundLemmas.{AreAsked, RoundsSoFar}}
use Rattle.sh_replay.proofs.turns.rounds.Given as goal

abbrev pub invariant-loop-turns : goal.invariant-loop-turns
invariant-loop-turns g l = AreAsked l.world l.seats l.count l.turns
    × ((items : List Item) (c : Course) (held : Option (List ℕ)) → IsAt items g.T.Tells.TOLD c l.fn.world l.fn.marks l.fn.budget held (g.K.Sink.held l.fn.sink) → RoundsSoFar items g.T.Tells.TOLD c l.fn.budget (length l.fn.world.seats) l.world l.marks l.turns held (g.K.Sink.held l.sink))
    × (length l.world.seats ≡ length l.fn.world.seats) × (l.turns ≤ l.fn.budget) × (g.K.Sink.faults l.sink ≡ g.K.Sink.faults l.fn.sink)

abbrev pub decreases-loop-turns : goal.decreases-loop-turns
decreases-loop-turns g l = l.turns
