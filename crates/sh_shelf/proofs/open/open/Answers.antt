use Rattle.std.proofs.Common.{drop}
use Rattle.sh_shelf.specs.Racked.{Follows, IsShown}
use Rattle.sh_shelf.proofs.{KeeperLemmas.{after}, RuleLemmas.{fresh_shown, new_holds, puts}}
use Rattle.sh_shelf.proofs.open.open.Goals as goal

pub new-requires-3-clause-rule : goal.new-requires-3-clause-rule
new-requires-3-clause-rule g c = rw (c.in_ok-first.ensures, c.again.ensures) (new_holds _ (fresh_shown _ _ c.requires))

pub publish_as-requires : goal.publish_as-requires
publish_as-requires g c next is =
    let w = c.in_ok-writer.writer in
    let e = c.in_ok-writer.ensures in
    let shown : IsShown w.desk.shown.value = rw (e.0, c.in_ok-first.ensures, c.again.ensures) (fresh_shown _ _ c.requires) in
    let follows : Follows w.desk.shown.value.front (drop w.behind w.log.items) = rw e.1 tt in
    let a = after w.desk.shown.value (drop w.behind w.log.items) next shown follows is in
    puts _ _ w.desk.shown.value next a.same a.shown
