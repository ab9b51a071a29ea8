use Rattle.std.proofs.{Common.{◌≡◌, ℕ, ◌+◌, ◌%◌, ◌^◌, List, [], ◌∷◌, Option, arith, ap, subst, ◌∙◌, sym}, Math.Nat.{mod-add-mod}}
use Rattle.atomic_table.specs.Table.{Me, Allows, rest}
use Rattle.sh_local.{specs.{declared.view.View.{View}, Calls.{held}, Steps.{LeavesQueue}, Chairs.{MayLeave}}, proofs.Allowed.{allows_leave, Holds}}
use Rattle.sh_local.proofs.steps.leave.Goals as goal

pub store-requires : goal.store-requires
store-requires g c =
    let t = c.requires.table in
    let k = c.requires.ticket in
    let e = c.exchange.ensures in
    let shelf = c.args.shelf.now in
    let old = c.args.seat.now in
    let seat = c.exchange.new.seat in
    let V : Type 0 = View g.row.T.Denot g.row.T-Key.Denot in
    let me : Me (Option g.row.T.Denot) V = (old.me.0, (c.args.cell, c.args.value) ∷ []) in
    let is : me ≡ seat.me = ap (λ (l : List (ℕ × Option g.row.T.Denot)). (old.me.0, (c.args.cell, c.args.value) ∷ rest l)) (sym k.1) ∙ sym e.3 in
    let word : (c.args.ticket + 1) % 2 ^ 64 ≡ ((held old.me.0).number + 1) % 2 ^ 64 = ap (λ (n : ℕ). (n + 1) % 2 ^ 64) k.2 ∙ mod-add-mod (held old.me.0).number (2 ^ 64) 1 in
    let may : MayLeave (g.T.Carried.fits shelf.key.key (held old.me.0).cell) (held old.me.0) c.args.value = subst (λ (n : ℕ). MayLeave (g.T.Carried.fits shelf.key.key n) (held old.me.0) c.args.value) (sym k.0.1) c.requires.value in
    let x : ℕ = (c.args.ticket + 1) % 2 ^ 64 in (
      e.0 ∙ t.0,
      omega (arith, t.1, t.2, t.3),
      subst (λ (m : Me (Option g.row.T.Denot) V). Allows (Holds g.T.Carried.fits shelf.key.key shelf.key.chairs) shelf.table_id.slots seat.id m c.args.at (λ _. x) (λ _ now. LeavesQueue m now)) is
          (allows_leave g.T.Carried.fits shelf.key.key shelf.key.chairs shelf.table_id.slots seat.id me c.args.at x c.args.value k.0.0 k.0.2 (ap (λ (n : ℕ). (n, c.args.value) ∷ []) (sym k.0.1)) (omega (arith, t.2, k.0.1)) (omega (arith, t.3, k.0.1)) may word),
    )
