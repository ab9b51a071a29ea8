use Rattle.std.proofs.Common.{◌<◌, length, arith, subst}
use Rattle.sh_sheet.specs.Sheet.{item_seat}
use Rattle.sh_fleet.proofs.OutputLemmas.{at_seat, at_set, rest_set, same_long}
use Rattle.sh_fleet.proofs.output.write_item.Goals as goal

pub slice_copy_out-at : goal.slice_copy_out-at
slice_copy_out-at g c =
    let lt = subst (λ item. item_seat item < length c.args.answers.now) c.in-Ask.is c.requires.seat in
    omega (arith, lt, same_long c.args.answers.now c.args.cursors.now c.requires.at)

pub behind-requires : goal.behind-requires
behind-requires g c =
    let lt = subst (λ item. item_seat item < length c.args.answers.now) c.in-Ask.is c.requires.seat in
    (at_seat c.index-answers-place.result c.args.answers.now c.args.cursors.now c.in-Ask.seat lt c.index-answers-place.is c.requires.at).0

pub bounds-cursors-place : goal.bounds-cursors-place
bounds-cursors-place g c =
    let lt = subst (λ item. item_seat item < length c.args.answers.now) c.in-Ask.is c.requires.seat in
    omega (arith, lt, same_long c.args.answers.now c.args.cursors.now c.requires.at)

pub write_told-requires : goal.write_told-requires
write_told-requires g c =
    let lt = subst (λ item. item_seat item < length c.args.answers.now) c.in-Ask.is c.requires.seat in
    (at_seat c.index-answers-place-in-Ask.result c.args.answers.now c.args.cursors.now c.in-Ask.seat lt c.index-answers-place-in-Ask.is c.requires.at).0

pub returns-in-Ask-clause-ok : goal.returns-in-Ask-clause-ok
returns-in-Ask-clause-ok g c =
    let lt = subst (λ item. item_seat item < length c.args.answers.now) c.in-Ask.is c.requires.seat in
    rw (c.in-Ask.is, (at_seat c.index-answers-place-in-Ask.result c.args.answers.now c.args.cursors.now c.in-Ask.seat lt c.index-answers-place-in-Ask.is c.requires.at).1) c.write_told.ensures.ok

pub returns-in-Ask-clause-err : goal.returns-in-Ask-clause-err
returns-in-Ask-clause-err g c =
    let lt = subst (λ item. item_seat item < length c.args.answers.now) c.in-Ask.is c.requires.seat in
    rw (c.in-Ask.is, (at_seat c.index-answers-place-in-Ask.result c.args.answers.now c.args.cursors.now c.in-Ask.seat lt c.index-answers-place-in-Ask.is c.requires.at).1) c.write_told.ensures.err

pub returns-in-Ask-clause-at : goal.returns-in-Ask-clause-at
returns-in-Ask-clause-at g c =
    let lt = subst (λ item. item_seat item < length c.args.answers.now) c.in-Ask.is c.requires.seat in
    rw c.behind.ensures (at_set c.index-answers-place.result c.args.answers.now c.args.cursors.now c.in-Ask.seat lt c.index-answers-place.is c.requires.at)

pub returns-in-Ask-clause-rest : goal.returns-in-Ask-clause-rest
returns-in-Ask-clause-rest g c =
    let lt = subst (λ item. item_seat item < length c.args.answers.now) c.in-Ask.is c.requires.seat in
    rw (c.in-Ask.is, c.behind.ensures) (rest_set c.index-answers-place.result c.args.answers.now c.args.cursors.now c.in-Ask.seat lt c.index-answers-place.is c.requires.at)
