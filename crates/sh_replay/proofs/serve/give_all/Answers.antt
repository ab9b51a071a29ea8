use Rattle.std.proofs.Common.{rules, sym, ap, ◌∙◌}
use Rattle.sh_replay.{specs.Course.{given_by}, proofs.{ItemLemmas.{few_given, given_seats, given_setting, item_more, no_call, lawful_at}, serve.give_all.Goals.{in-Ask+in_ok-give, in_default}}}
use Rattle.sh_replay.proofs.serve.give_all.Goals as goal

pub give-requires-clause-seat : goal.give-requires-clause-seat
give-requires-clause-seat c = search (rules, lawful_at, given_seats)

pub give-requires-clause-in_range : goal.give-requires-clause-in_range
give-requires-clause-in_range c = search (rules, lawful_at, given_setting)

pub give-requires-clause-few : goal.give-requires-clause-few
give-requires-clause-few c = few_given c.args.world.now _ c.args.items.now c.loop-item.item-index c.loop-item.invariant c.requires.none c.requires.few

pub loop-item-preserved : goal.loop-item-preserved
loop-item-preserved c = elim c.match-item.branch [
  | in-Ask+in_ok-give w ↦ item_more given_by _ _ _ _ _ _ c.loop-item-test.true c.item-item.is c.loop-item.invariant (w.world-is ∙ w.in_ok-give.ensures.ok ∙ ap (given_by c.loop-item.world) (sym w.in-Ask.is))
  | in_default w ↦ item_more given_by _ _ _ _ _ _ c.loop-item-test.true c.item-item.is c.loop-item.invariant (w.world-is ∙ sym (no_call c.loop-item.world c.item-item.result w.in_default.not-Ask))
]
