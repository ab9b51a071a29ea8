use Rattle.std.proofs.Common.{◌≡◌, ◌++◌, drop, length}
use Rattle.sh_shelf.proofs.keeper.hand_over.Given as goal

-- the offers that were pending are pending
abbrev pub invariant-loop-waiting : goal.invariant-loop-waiting
invariant-loop-waiting l = (l.writer.desk ≡ l.fn.writer.desk) × (drop l.writer.behind l.writer.log.items ++ l.waiting.items ≡ drop l.fn.writer.behind l.fn.writer.log.items ++ l.fn.waiting.items)

abbrev pub decreases-loop-waiting : goal.decreases-loop-waiting
decreases-loop-waiting l = length l.waiting.items
