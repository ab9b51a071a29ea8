use Rattle.std.proofs.Common.{◌≡◌, []}
use Rattle.sh_local.specs.Chairs.{AllFree, TakenIn}
use Rattle.sh_local.proofs.queues.take_in.Given as goal

abbrev pub invariant-loop-chair : goal.invariant-loop-chair
invariant-loop-chair g l = (l.last.table_id ≡ l.shelf.table_id) × (l.last.me.1 ≡ []) × AllFree l.shelf.table_id l.chairs.items × TakenIn l.fn.chairs.items l.chairs.items l.last.me.0

abbrev pub decreases-loop-chair : goal.decreases-loop-chair
decreases-loop-chair g l = goal.left-loop-chair g l
