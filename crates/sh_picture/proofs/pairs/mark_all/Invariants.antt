use Rattle.std.proofs.Common.{◌≡◌, ◌+◌, length, take}
use Rattle.sh_picture.specs.Marks.{AreMarked, AreUnder}
use Rattle.sh_picture.proofs.pairs.mark_all.Given as goal

abbrev pub invariant-loop-node : goal.invariant-loop-node
invariant-loop-node l = record { marked : AreMarked (take l.node-index l.nodes) l.mark l.marks; under : AreUnder (l.mark + 1) l.marks; long : length l.marks ≡ length l.fn.marks }
