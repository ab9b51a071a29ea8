use Rattle.std.proofs.Common.{rules, ◌≡◌, ap, sym, ◌∙◌, subst}
use Rattle.sh_local.{specs.{declared.view.View.{View}, Calls.{both}, Chairs.{Sitting, AllFree, TakenIn}}, proofs.{Regroup.{joins}, Taking.{all_free_snoc, taken_step, taken_first}}}
use Rattle.sh_local.proofs.queues.take_in.Goals as goal

pub loop-chair-init : goal.loop-chair-init
loop-chair-init g c = search (rules, all_free_snoc, taken_first)

pub join_seat-requires : goal.join_seat-requires
join_seat-requires g c = search (rules, all_free_snoc, joins)

pub loop-chair-preserved : goal.loop-chair-preserved
loop-chair-preserved g c =
    let i = c.loop-chair.invariant in
    let j = c.join_seat.ensures in
    let shelf = c.args.shelf.now in
    let e = c.into_seat-seat.ensures in
    let V : Type 0 = View g.row.T.Denot g.row.T-Key.Denot in
    let x : Sitting g.row.T.Denot g.row.T-Key.Denot = c.in-Some-pop.chair in
    let is = c.in-Some-pop.ensures.items in
    let free = all_free_snoc shelf.table_id c.pop-in-loop-chair.new.self.items x (subst (AllFree shelf.table_id) is i.2) in
    let now : both c.loop-chair.last.me.0 x.view ≡ c.join_seat.new.seat.me.0 = ap (both c.loop-chair.last.me.0) (sym e.seat.1) ∙ sym (ap (λ m. m.0) j.2) in (
      j.0 ∙ i.0,
      ap (λ m. m.1) j.2 ∙ i.1,
      free.0,
      subst (λ (v : V). TakenIn c.args.chairs.items c.pop-in-loop-chair.new.self.items v) now (taken_step c.args.chairs.items c.loop-chair.chairs.items c.pop-in-loop-chair.new.self.items x c.loop-chair.last.me.0 is e.part i.3),
    )
