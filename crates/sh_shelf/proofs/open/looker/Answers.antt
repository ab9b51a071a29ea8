use Rattle.sh_shelf.proofs.KeeperLemmas.{empty_copy}
use Rattle.sh_shelf.proofs.open.looker.Goals as goal

pub invariant_of-result : goal.invariant_of-result
invariant_of-result c = rw (c.again.ensures, c.in_ok-rows.ensures.items) (c.seat.ensures.knows, empty_copy _ _ c.requires.none _ c.in_ok-rows.ensures.capacity)
