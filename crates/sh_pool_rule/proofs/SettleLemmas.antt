-- A view is told of all that its pass has done.
use Rattle.std.proofs.Common.{◌≡◌, ◌≢◌, ℕ, ◌≤◌, List, [], ◌∷◌, length, set, refl, ap, sym, ◌∙◌, subst, ⊎_elim, inl, arith}
use mathlib.Core.{Option.{some}, Logic.{dite}}
use native.Mathlib.Decide.{ℕ_discrete}
use lib.ListN.{get_elem?}
use Rattle.atomic_table.proofs.Lists.{at_set, set_here, set_else}
use Rattle.sh_base.specs.declared.config.ConfigParts.{ConfigParts}
use Rattle.sh_core.{specs.{Actors.{Actor}, Core.{Inv, Instead, Moves}}, proofs.Moves.{put_again, same_keeps}}
use Rattle.sh_local.proofs.Sums.{same_at, at_lt}
use Rattle.sh_pool_rule.specs.{declared.view.PassView.{PassView}, Views.{member, own, view_seat, Tale, In, Has, Out}, Untold.{UntoldTurn, untold_after, caught_up, MayTakeAll, IsActorOf}}
use Rattle.sh_pool_rule.specs.{Rights.{told_view}, Rule.{KnowsLog, SeesAll, KeepsPool}}
use Rattle.sh_pool_rule.proofs.{NoteLemmas.{asked_dones, front_same, notes_on, notes_set}, Relations.{counts_set, moves_at, one, only, out_from, out_to, rights_same}, Untold.{after_seen, turn_keeps_on}}

module _ (p : ConfigParts) (words : List ℕ) (views : List PassView) (r : KeepsPool p words views) (id : ℕ) (v : PassView) (at : get_elem? views id ≡ some v) (a : Actor) (asks : IsActorOf p v a) (tale : Tale) where
  abbrev k : ℕ
  k = view_seat v

  abbrev new : PassView
  new = told_view a tale v

  abbrev now : List PassView
  now = set views id new

  known : KnowsLog r.log r.home r.bearer id v
  known = r.each id v at

  mine : In (member k (own v)) v.members
  mine = subst (In (member k (own v))) (sym asks.here) (one k (own v))

  home_k : r.home k ≡ id
  home_k = (known.here k (own v) mine).0

  mv : Moves (Has views) k a (Has now)
  mv = moves_at views id k v new (own v) a r.home (λ i u q j c h. ((r.each i u q).here j c h).0) at asks.here refl

  -- the seat has no other actor
  alone : (b : Actor) → Has views k b → b ≡ own v
  alone b (i, u, e, m) =
      let here : i ≡ id = sym ((r.each i u e).here k b m).0 ∙ home_k in
      let is : u ≡ v = same_at views id u v (ap (get_elem? views) (sym here) ∙ e) at in
      (only k k (own v) b (subst (In (member k b)) (ap (λ (x : PassView). x.members) is ∙ asks.here) m)).1

  settles : (gs : List UntoldTurn) (Has' : ℕ → Actor → Type 0) (b : Actor) → Inv p words r.log Has' (Out views) → Has' k b → ((c : Actor) → Has' k c → c ≡ b) → b.seen ≤ length v.seen → MayTakeAll p k v.seen b gs → Moves Has' k (caught_up k v.seen b gs) (Has now)
      → Inv p words r.log (Has now) (Out views) × ((caught_up k v.seen b gs).seen ≤ length v.seen)
  settles [] Has' b inv h unique le may m = (
    same_keeps p words r.log Has' (Has now) (Out views) (Out views) inv record {
      on = λ j c g. dite (ℕ_discrete j k) (λ (e : j ≡ k). subst (λ (q : ℕ × Actor). Has now q.0 q.1) (λ z. (sym e z, sym (unique c (subst (λ (n : ℕ). Has' n c) e g)) z)) m.here) (λ (ne : j ≢ k). m.on j c ne g);
      back = λ j c g. ⊎_elim (λ (t : (j ≡ k) × (c ≡ b)). subst (λ (q : ℕ × Actor). Has' q.0 q.1) (λ z. (sym t.0 z, sym t.1 z)) h) (λ (t : (j ≢ k) × Has' j c). t.1) (m.back j c g);
    } record { on = λ l c d o. o; back = λ l c d o. o },
    le,
  )
  settles (g ∷ gs) Has' b inv h unique le may m =
      let c : Actor = untold_after k v.seen b g in
      settles gs (Instead Has' k c) c (turn_keeps_on p r.ok words r.log (Out views) k v.seen known.begins Has' b g inv h le may.0) (inl (refl, refl)) (λ d o. ⊎_elim (λ (e : (k ≡ k) × (d ≡ c)). e.1) (λ (n : (k ≢ k) × Has' k d). absurd (n.0 refl)) o)
      (after_seen p k v.seen b g may.0) may.1 (put_again Has' (Has now) k c (caught_up k v.seen c gs) m)

  done : Inv p words r.log (Has now) (Out views) × ((caught_up k v.seen (own v) asks.turns).seen ≤ length v.seen)
  done = settles asks.turns (Has views) (own v) r.inv (id, v, at, mine) alone ((known.here k (own v) mine).1) asks.may (subst (λ (b : Actor). Moves (Has views) k b (Has now)) asks.is mv)

  knows : KnowsLog r.log r.home r.bearer id new
  knows = record {
    begins = known.begins;
    pasts = known.pasts;
    here = λ j c m. let o = only k j a c m in subst (λ (q : ℕ × Actor). (r.home q.0 ≡ id) × (q.1.seen ≤ length v.seen)) (λ z. (sym o.0 z, sym o.1 z)) (home_k, subst (λ (b : Actor). b.seen ≤ length v.seen) (sym asks.is) done.1);
    right = known.right;
    idle = λ n. absurd (n (member k a) (one k a));
  }

  top : SeesAll now r.log
  top = let t = r.top in dite (ℕ_discrete t.id id)
      (λ (q : t.id ≡ id). let is : t.view ≡ v = same_at views id t.view v (ap (get_elem? views) (sym q) ∙ t.at) at in
      record { id = id; view = new; at = set_here views id new (at_lt views id v at); whole = ap (λ (x : PassView). x.seen) (sym is) ∙ t.whole; some = member k a; live = one k a })
      (λ (ne : t.id ≢ id). record { id = t.id; view = t.view; at = set_else views id t.id new ne ∙ t.at; whole = t.whole; some = t.some; live = t.live })

  pub settle_kept : KeepsPool p words now
  settle_kept = record {
    ok = r.ok;
    log = r.log;
    inv = rights_same p words r.log (Has now) (Out views) (Out now) done.0 (out_to views id v new at refl) (out_from views id v new at refl);
    top = top;
    home = r.home;
    even = (let q = r.even in
        let a = counts_set views id v new 0 0 0 at (omega arith) (omega arith) (omega arith) in
        let a0 = a.0 in let a1 = a.1 in let a2 = a.2 in
        omega (arith, q, a0, a1, a2));
    bearer = r.bearer;
    each = λ i u q. ⊎_elim (λ (t : (i ≡ id) × (new ≡ u)). subst (λ (z : ℕ × PassView). KnowsLog r.log r.home r.bearer z.0 z.1) (λ z. (sym t.0 z, t.1 z)) knows) (λ (t : (i ≢ id) × (get_elem? views i ≡ some u)). r.each i u t.1) (at_set views id i new u q);
    noted = r.noted;
    notes = notes_set r.noted views id new r.notes (notes_on r.noted k v new (own v) a asks.here asks.alone refl refl refl (asked_dones p v a asks) (front_same v.seen) (r.notes id v at));
  }
