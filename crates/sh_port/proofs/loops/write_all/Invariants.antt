use Rattle.std.{proofs.Common.{length, take, ◌-◌, ◌≤◌, ◌≡◌}, specs.Io.KnownBytes.{Appends}}
use Rattle.sh_port.proofs.loops.write_all.Given as goal

abbrev pub invariant-writes : goal.invariant-writes
invariant-writes g l = (l.at ≤ length l.piece)
    × Appends (g.K.Sink.held l.fn.sink) (g.K.Sink.held l.sink) (take l.at l.piece)
    × (g.K.Sink.faults l.sink ≡ g.K.Sink.faults l.fn.sink)

abbrev pub decreases-writes : goal.decreases-writes
decreases-writes g l = length l.piece - l.at
