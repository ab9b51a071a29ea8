use Rattle.std.{proofs.Common.{◌≡◌, take}, specs.{List.{flat_map}, Io.KnownBytes.{Appends}}}
use Rattle.sh_text.specs.Text.{row_line}
use Rattle.sh_world.specs.States.{rows_at}
use Rattle.sh_replay.proofs.output.write_given_rows.Given as goal

abbrev pub invariant-loop-row : goal.invariant-loop-row
invariant-loop-row g l = Appends (g.K.Sink.held l.fn.sink) (g.K.Sink.held l.sink) (flat_map (row_line l.n) (take l.row (rows_at l.calls.calls l.place)))
    × (g.K.Sink.faults l.sink ≡ g.K.Sink.faults l.fn.sink)
