use Rattle.std.{proofs.Common.{◌≡◌, take}, specs.{List.{flat_map}, Io.KnownBytes.{Appends}}}
use Rattle.sh_text.specs.Text.{map_line}
use Rattle.sh_text.proofs.write.write_map.Given as goal

abbrev pub invariant-loop-row : goal.invariant-loop-row
invariant-loop-row g l = Appends (g.K.Sink.held l.fn.sink) (g.K.Sink.held l.sink) (flat_map map_line (take l.row-index l.rows))
    × (g.K.Sink.faults l.sink ≡ g.K.Sink.faults l.fn.sink)
