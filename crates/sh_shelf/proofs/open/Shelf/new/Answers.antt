use Rattle.sh_shelf.proofs.KeeperLemmas.{fresh_keeper, fresh_risen}
use Rattle.sh_shelf.proofs.open.Shelf.new.Goals as goal

pub invariant_of-keeper : goal.invariant_of-keeper
invariant_of-keeper g c =
    let k = c.sit_all.ensures.kept in
    let e = c.in_ok-writer.ensures in
    rw (k.0, k.1, k.2, e.0, e.2, c.new.ensures.items, c.in_ok-rising.ensures.items) (fresh_keeper _ _ c.open-head.ensures.log _ c.open-head.ensures.head, fresh_risen _ _ _ c.in_ok-rising.ensures.capacity)
