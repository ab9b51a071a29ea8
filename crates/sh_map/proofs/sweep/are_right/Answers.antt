use Rattle.std.{proofs.{Common.{rules, ◌≡◌, ◌⊎◌, Some, sym, subst, ℕ, List, arith}, lemmas.List.{get_or_default, take_all}}, specs.Prelude.{Any, slice_get}}
use Rattle.sh_map.{specs.{declared.{book.Done.{Done}, sweep.Due.{Due}}, Judge.{AsksNothing}}, proofs.SweepLemmas.{AreSwept, swept_none, swept_more, swept_all}}
use Rattle.sh_map.proofs.sweep.are_right.Goals as goal

pub loop-one-init : goal.loop-one-init
loop-one-init c = (swept_none c.args.part c.args.log.now c.args.dones.now _ (c.in_ok-kept.ensures.items_if_clones_equal (λ y h. h)), c.new-map.ensures, omega arith)

pub move_to-requires-clause-from : goal.move_to-requires-clause-from
move_to-requires-clause-from c = c.loop-one.invariant.2

pub move_to-requires-clause-here : goal.move_to-requires-clause-here
move_to-requires-clause-here c = c.loop-one.invariant.1

pub loop-one-preserved : goal.loop-one-preserved
loop-one-preserved c = search (rules, swept_more, get_or_default)

pub returns : goal.returns
returns c =
    let items : List Due = c.deref-one-items.result.now in
    let dones = c.args.dones.now in
    let covers = subst (λ (l : List Due). (i : ℕ) (d : Done) → slice_get dones i ≡ Some d → Any (λ x. x.place ≡ i) l ⊎ AsksNothing c.args.part d.call) (sym c.deref-one-items.ensures.value) c.in_ok-due.ensures.each in
    swept_all c.args.part c.args.log.now dones items c.loop-one.kept.items covers (subst (λ (l : List Due). AreSwept c.args.part c.args.log.now dones l c.loop-one.kept.items) (take_all c.loop-one.one-index items c.loop-one-test.false) c.loop-one.invariant.0)
