use Rattle.std.proofs.Common.{take, subst}
use Rattle.std.{proofs.lemmas.List.{take_all}}
use Rattle.sh_replay.{specs.Clocks.{AreRows}, proofs.{ClockLemmas.{few_counted, found_more, found_none, found_turn, in_reach}, marks.afters_in.Goals.{in-Ask, in-Mark+in_ok-mark-in-Mark, in-After+in_ok-after-in-After, in-Turn}}}
use Rattle.sh_sheet.specs.Marks.{stops_of}
use Rattle.sh_replay.proofs.marks.afters_in.Goals as goal

pub loop-item-init : goal.loop-item-init
loop-item-init c = found_none _ _ _ c.new.ensures.items (c.in_ok-vec.ensures.items_if_clones_equal (λ y h. h)) c.new-2.ensures.empty

pub count-requires-clause-seat : goal.count-requires-clause-seat
count-requires-clause-seat c = in_reach c.args.items.now c.loop-item.item-index c.item-item.result _ c.loop-item-test.true c.item-item.is c.in-Ask.is c.requires.seats

pub count-requires-clause-few : goal.count-requires-clause-few
count-requires-clause-few c = few_counted c.args.items.now c.loop-item.item-index c.in-Ask.seat c.item-item.result c.in-Ask.call _ _ _ c.loop-item.invariant (in_reach c.args.items.now c.loop-item.item-index c.item-item.result _ c.loop-item-test.true c.item-item.is c.in-Ask.is c.requires.seats) c.loop-item-test.true c.item-item.is c.in-Ask.is c.requires.few

pub loop-item-preserved : goal.loop-item-preserved
loop-item-preserved c = elim c.match-item.branch [
  | in-Ask w ↦ found_more c.args.items.now c.loop-item.item-index c.item-item.result _ _ w.count.new.self c.loop-item-test.true c.item-item.is w.in-Ask.is w.found-is (w.count.ensures _ w.in-Ask.call c.loop-item.invariant)
  | in-Mark+in_ok-mark-in-Mark w ↦ found_more c.args.items.now c.loop-item.item-index c.item-item.result _ _ w.mark.new.self c.loop-item-test.true c.item-item.is w.in-Mark.is w.found-is (w.in_ok-mark-in-Mark.ensures _ c.loop-item.invariant)
  | in-After+in_ok-after-in-After w ↦ found_more c.args.items.now c.loop-item.item-index c.item-item.result _ _ w.after.new.self c.loop-item-test.true c.item-item.is w.in-After.is w.found-is (w.in_ok-after-in-After.ensures _ c.loop-item.invariant)
  | in-Turn w ↦ found_more c.args.items.now c.loop-item.item-index c.item-item.result _ _ c.loop-item.found c.loop-item-test.true c.item-item.is w.in-Turn.is w.found-is (found_turn (take c.loop-item.item-index c.args.items.now) _ _ _ c.loop-item.invariant w.in-Turn.seat w.in-Turn.count)
]

pub returns : goal.returns
returns c = subst (λ l. AreRows c.loop-item.found.rows.items (stops_of l)) (take_all _ c.args.items.now c.loop-item-test.false) c.loop-item.invariant.rows_are
