use Rattle.std.proofs.{Common.{subst}, lemmas.List.{take_all}}
use Rattle.sh_map.{specs.Tables.{AreLastPlaces}, proofs.OwnerLemmas.{last_none, lasts_more}}
use Rattle.sh_map.proofs.owners.last_places.Goals as goal

pub loop-at-init : goal.loop-at-init
loop-at-init c = last_none _ c.new-lasts.ensures.empty

pub loop-at-preserved : goal.loop-at-preserved
loop-at-preserved c = lasts_more c.args.log.now c.loop-at.at c.index-log-at.result _ _ c.loop-at-test.true c.index-log-at.is c.loop-at.invariant c.in_ok-insert.ensures.updates

pub returns : goal.returns
returns c = subst (λ l. AreLastPlaces l c.loop-at.lasts) (take_all _ c.args.log.now c.loop-at-test.false) c.loop-at.invariant
