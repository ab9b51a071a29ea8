use Rattle.std.proofs.Common.{drop}
use Rattle.sh_shelf.proofs.RuleLemmas.{puts}
use Rattle.sh_shelf.proofs.KeeperLemmas.{after, of_ok}
use Rattle.sh_shelf.proofs.keeper.put.Goals as goal

pub publish_as-requires : goal.publish_as-requires
publish_as-requires g c next is =
    let w = c.args.writer in
    let a = after w.desk.shown.value (drop w.behind w.log.items) next c.requires.0 c.requires.1 is in
    puts _ _ w.desk.shown.value next a.same a.shown

pub returns : goal.returns
returns g c =
    let w = c.args.writer in
    let ok = c.publish_as.ensures.succeeds tt in
    let v = of_ok _ _ _ ok c.publish_as.ensures.values in
    (ok, after w.desk.shown.value (drop w.behind w.log.items) _ c.requires.0 c.requires.1 v.0, v.1)
