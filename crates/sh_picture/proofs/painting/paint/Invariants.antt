use Rattle.std.{proofs.Common.{length, take, ◌-◌, ◌≤◌, ◌≡◌}, specs.Io.KnownBytes.{Appends}}
use Rattle.sh_picture.specs.Picture.{picture_of}
use Rattle.sh_picture.proofs.painting.paint.Given as goal

abbrev pub invariant-pieces : goal.invariant-pieces
invariant-pieces g l = (l.at ≤ length l.words)
    × Appends (g.K.Sink.held l.fn.sink) (g.K.Sink.held l.sink) (picture_of l.cfg.parts (take l.at l.words))
    × (g.K.Sink.faults l.sink ≡ g.K.Sink.faults l.fn.sink)

abbrev pub decreases-pieces : goal.decreases-pieces
decreases-pieces g l = length l.words - l.at
