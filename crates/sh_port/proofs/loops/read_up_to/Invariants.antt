use Rattle.std.{proofs.Common.{◌+◌, ◌-◌, ◌≤◌, ◌≡◌, vec_len}, specs.Io.KnownBytes.{Consumes}}
use Rattle.sh_port.proofs.loops.read_up_to.Given as goal

abbrev pub invariant-reads : goal.invariant-reads
invariant-reads g l = (vec_len l.bytes ≤ l.most)
    × Consumes (g.S.Source.left l.fn.source) (g.S.Source.left l.source) l.bytes.items
    × (g.S.Source.faults l.source ≡ g.S.Source.faults l.fn.source)

abbrev pub decreases-reads : goal.decreases-reads
decreases-reads g l = (l.most + 1) - vec_len l.bytes
