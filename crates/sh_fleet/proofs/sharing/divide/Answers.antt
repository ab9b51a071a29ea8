use Rattle.std.proofs.Common.{refl, arith, length, ◌<◌}
use Rattle.sh_base.specs.Parts.{parts_of}
use Rattle.sh_fleet.proofs.{ShareLemmas.{counted, divided, none_shared, share_few}, TaskLemmas.{seat_within}}
use Rattle.sh_fleet.proofs.sharing.divide.Goals as goal

pub loop-at-init : goal.loop-at-init
loop-at-init c = (omega (arith, c.in_ok-shares.ensures.long, c.all_seats.ensures), refl, none_shared _ _ _ _ c.in_ok-shares.ensures.none)

pub give-requires-clause-calls : goal.give-requires-clause-calls
give-requires-clause-calls c =
    let below = seat_within (parts_of c.args.cfg.now) c.args.items.now c.loop-at.at c.index-items-at.result c.requires.lawful c.loop-at-test.true c.index-items-at.is in
    let lt : c.item_seat.result < length c.loop-at.shares.items = omega (arith, below, c.item_seat.ensures, c.loop-at.invariant.0, c.loop-at.shares.ok.0) in
    (share_few _ _ c.loop-at.at _ _ _ c.requires.few c.loop-at.invariant.2 lt c.index_mut.ensures.value).0

pub give-requires-clause-rows : goal.give-requires-clause-rows
give-requires-clause-rows c =
    let below = seat_within (parts_of c.args.cfg.now) c.args.items.now c.loop-at.at c.index-items-at.result c.requires.lawful c.loop-at-test.true c.index-items-at.is in
    let lt : c.item_seat.result < length c.loop-at.shares.items = omega (arith, below, c.item_seat.ensures, c.loop-at.invariant.0, c.loop-at.shares.ok.0) in
    (share_few _ _ c.loop-at.at _ _ _ c.requires.few c.loop-at.invariant.2 lt c.index_mut.ensures.value).1

pub loop-at-preserved : goal.loop-at-preserved
loop-at-preserved c =
    let below = seat_within (parts_of c.args.cfg.now) c.args.items.now c.loop-at.at c.index-items-at.result c.requires.lawful c.loop-at-test.true c.index-items-at.is in
    let lt : c.item_seat.result < length c.loop-at.shares.items = omega (arith, below, c.item_seat.ensures, c.loop-at.invariant.0, c.loop-at.shares.ok.0) in
    let share = share_few _ _ c.loop-at.at _ _ _ c.requires.few c.loop-at.invariant.2 lt c.index_mut.ensures.value in
    let n = counted c.args.items.now c.loop-at.at c.index-items-at.result c.loop-at-test.true c.index-items-at.is in
    (c.loop-at.invariant.0, omega (arith, n, c.loop-at.invariant.1, c.item_calls.ensures), divided _ _ _ _ _ c.index-items-at.result _ _ _ c.loop-at-test.true c.index-items-at.is c.item_seat.ensures c.loop-at.invariant.2 share.2 c.in_ok-give.ensures)
