use Rattle.std.proofs.Common.{◌≡◌}
use Rattle.sh_replay.proofs.HeldLemmas.{IsRound}
use Rattle.sh_replay.proofs.turns.round.Given as goal

abbrev pub invariant-loop-i : goal.invariant-loop-i
invariant-loop-i g l = IsRound g.T.Tells.TOLD l.fn.world l.fn.marks l.fn.asked.turns l.fn.seats (g.K.Sink.held l.fn.sink) l.world l.marks l.turns l.seats l.kept l.i (g.K.Sink.held l.sink) × (g.K.Sink.faults l.sink ≡ g.K.Sink.faults l.fn.sink)
