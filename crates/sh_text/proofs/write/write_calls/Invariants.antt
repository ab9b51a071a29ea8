use Rattle.std.{proofs.Common.{◌≡◌, take}, specs.{List.{flat_map}, Io.KnownBytes.{Appends}}}
use Rattle.sh_text.specs.Text.{call_text}
use Rattle.sh_text.proofs.write.write_calls.Given as goal

abbrev pub invariant-loop-done : goal.invariant-loop-done
invariant-loop-done g l = Appends (g.K.Sink.held l.fn.sink) (g.K.Sink.held l.sink) (flat_map (call_text l.points) (take l.done-index l.dones))
    × (g.K.Sink.faults l.sink ≡ g.K.Sink.faults l.fn.sink)
