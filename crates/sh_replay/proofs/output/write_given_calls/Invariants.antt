use Rattle.std.{proofs.Common.{◌≡◌, take}, specs.Io.KnownBytes.{Appends}}
use Rattle.sh_replay.specs.Output.{lines_from}
use Rattle.sh_replay.proofs.output.write_given_calls.Given as goal

abbrev pub invariant-loop-i : goal.invariant-loop-i
invariant-loop-i g l = Appends (g.K.Sink.held l.fn.sink) (g.K.Sink.held l.sink) (lines_from 1 (take l.i l.calls.calls))
    × (g.K.Sink.faults l.sink ≡ g.K.Sink.faults l.fn.sink)
