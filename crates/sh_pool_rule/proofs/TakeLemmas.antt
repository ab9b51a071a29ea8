-- A right that is taken_view up keeps the rule.
use Rattle.std.proofs.Common.{rules, ◌≡◌, ◌≢◌, ◌⊎◌, ℕ, ◌+◌, ◌≤◌, Option, Some, None, List, [], ◌∷◌, length, drop, set, refl, ap, sym, ◌∙◌, subst, ⊎_elim, inl, inr, arith}
use mathlib.Core.{Option.{some}, Logic.{dite}}
use native.Mathlib.Decide.{ℕ_discrete}
use lib.ListN.{get_elem?}
use Rattle.atomic_table.{specs.Table.{Joins}, proofs.Lists.{at_set, set_here, set_else}}
use Rattle.sh_base.specs.{declared.config.ConfigParts.{ConfigParts}, Layout.{compute_of, lock_of}}
use Rattle.sh_map.specs.declared.log.Entry.{Entry}
use Rattle.sh_client.specs.{Machine.{Machine}, Feeds.{turned_by}, Rests.{has_ended}}
use Rattle.sh_core.specs.{Actors.{Actor, actor_turned}, Core.{Inv, Moves}}
use Rattle.sh_core_turns.proofs.LocalLaws.{take_keeps}
use Rattle.sh_local.{specs.Calls.{weight}, proofs.Sums.{same_at, at_lt}}
use Rattle.sh_logic.proofs.Options.{none_some}
use Rattle.sh_pool_rule.specs.{declared.view.{PassView.{PassView}, LockRight.{LockRight}}, Views.{empty_view, member, lock_right, longer, own, view_seat, Tale, Begins, In, Has, Out}}
use Rattle.sh_pool_rule.specs.{Untold.{IsActorOf}, Rights.{depth_of, taken_view, MeetsRight}, Rule.{all_given, all_out, all_taken, KnowsLog, SeesAll, KeepsPool}}
use Rattle.sh_pool_rule.proofs.{NoteLemmas.{asked_dones, front_more, notes_on, notes_set, notes_spent, turn_dones, AllKnow}, Relations.{counts_set, counts_spent, moves_at, none_in, one, only}, Untold.{becomes_seen, catches_up}, Allowed.{Pooled}}
use Rattle.sh_pool_rule.proofs.Changed.{spent_moves, longer_long, longer_begins, longer_all}

module _ (p : ConfigParts) (words : List ℕ) (views : List PassView) (r : KeepsPool p words views) (id : ℕ) (v : PassView) (at : get_elem? views id ≡ some v) (a : Actor) (asks : IsActorOf p v a) (tale : Tale)
    (other : ℕ) (w : PassView) (apart : other ≢ id) (there : get_elem? (set views id (taken_view a tale v w)) other ≡ some w) (none : w.members ≡ []) (meets : MeetsRight p (view_seat v) a.client w.right) (no_right : v.right ≡ None) where
  abbrev k : ℕ
  k = view_seat v

  abbrev s : List Entry
  s = longer v.seen w.seen

  abbrev b : Actor
  b = actor_turned k a s (Some meets.depth)

  abbrev new : PassView
  new = taken_view a tale v w

  abbrev mid : List PassView
  mid = set views id new

  abbrev now : List PassView
  now = set mid other empty_view

  abbrev lock : ℕ
  lock = lock_of p meets.node

  other_at : get_elem? views other ≡ some w
  other_at = sym (set_else views id other new apart) ∙ there

  id_at : get_elem? now id ≡ some new
  id_at = set_else mid other id empty_view (λ (e : id ≡ other). apart (sym e)) ∙ set_here views id new (at_lt views id v at)

  mine : In (member k (own v)) v.members
  mine = subst (In (member k (own v))) (sym asks.here) (one k (own v))

  known : KnowsLog r.log r.home r.bearer id v
  known = r.each id v at

  others : KnowsLog r.log r.home r.bearer other w
  others = r.each other w other_at

  -- the depth that the client is told
  new_members : new.members ≡ member k b ∷ []
  new_members = ap (λ (o : Option LockRight). member k (actor_turned k a s (depth_of o)) ∷ []) meets.is

  mv : Moves (Has views) k b (Has now)
  mv = spent_moves mid other w (Has views) k b there none (moves_at views id k v new (own v) b r.home (λ i u q j c h. ((r.each i u q).here j c h).0) at asks.here new_members)

  long : (length v.seen ≤ length s) × (length w.seen ≤ length s)
  long = longer_long v.seen w.seen

  begins : Begins s r.log
  begins = longer_begins v.seen w.seen r.log known.begins others.begins

  now_at : (i : ℕ) (u : PassView) → get_elem? now i ≡ some u → ((i ≡ other) × (empty_view ≡ u)) ⊎ (((i ≡ id) × (new ≡ u)) ⊎ ((i ≢ other) × (i ≢ id) × (get_elem? views i ≡ some u)))
  now_at i u e =
      ⊎_elim (λ (t : (i ≡ other) × (empty_view ≡ u)). inl t)
      (λ (t : (i ≢ other) × (get_elem? mid i ≡ some u)).
      ⊎_elim (λ (q : (i ≡ id) × (new ≡ u)). inr (inl q)) (λ (q : (i ≢ id) × (get_elem? views i ≡ some u)). inr (inr (t.0, q.0, q.1))) (at_set views id i new u t.1))
      (at_set mid other i empty_view u e)

  out_here : Out views lock (compute_of p k) meets.depth
  out_here = (other, w, other_at, meets.is)

  out_back : (l c d : ℕ) → Out now l c d → (l ≢ lock) × Out views l c d
  out_back l c d (i, u, e, q) =
      ⊎_elim (λ (t : (i ≡ other) × (empty_view ≡ u)). absurd (none_some (ap (λ (x : PassView). x.right) t.1 ∙ q)))
      (λ z. ⊎_elim (λ (t : (i ≡ id) × (new ≡ u)). absurd (none_some (sym no_right ∙ ap (λ (x : PassView). x.right) t.1 ∙ q)))
      (λ (t : (i ≢ other) × (i ≢ id) × (get_elem? views i ≡ some u)).
      ((λ (n : l ≡ lock). t.0 (sym ((r.each i u t.2).right (lock_right l c d) q) ∙ ap r.bearer n ∙ (others.right (lock_right lock (compute_of p k) meets.depth) meets.is))), (i, u, t.2, q))) z)
      (now_at i u e)

  out_on : (l c d : ℕ) → l ≢ lock → Out views l c d → Out now l c d
  out_on l c d n h4 = search (rules, same_at, other_at, lock_right, none_some, set_else)

  inv : Inv p words r.log (Has now) (Out now)
  inv = catches_up p r.ok words r.log (Out views) k v.seen known.begins (Has now) b (Inv p words r.log (Has now) (Out now)) asks.turns (Has views) (own v) r.inv (id, v, at, mine) ((known.here k (own v) mine).1) asks.may mv
      (λ T i h le m. take_keeps p r.ok words r.log s T (Has now) (Out views) (Out now) k a meets.aim meets.node meets.depth i (subst (T k) (sym asks.is) h) meets.phase
      record { rest = begins.0; whole = begins.1; more = let q : a.seen ≤ length v.seen = subst (λ (x : Actor). x.seen ≤ length v.seen) (sym asks.is) le in omega (arith, q, long.0) } out_here out_back out_on m)

  seen_is : b.seen ≤ length s
  seen_is = let m : Machine = turned_by a.client (Some meets.depth) in becomes_seen k a s m [] refl (has_ended m.phase)

  knows : (i : ℕ) (u : PassView) → get_elem? now i ≡ some u → KnowsLog r.log r.home r.bearer i u
  knows i u e =
      let K : ℕ → PassView → Type 0 = KnowsLog r.log r.home r.bearer in
      ⊎_elim (λ (t : (i ≡ other) × (empty_view ≡ u)). subst (λ (q : ℕ × PassView). K q.0 q.1) (λ z. (sym t.0 z, t.1 z)) (
      let kn : K other empty_view = record { begins = (r.log, refl); pasts = tt; here = λ j c m. absurd (none_in (member j c) m); right = λ c q. absurd (none_some q); idle = λ n. (refl, refl) } in kn))
      (λ z. ⊎_elim
      (λ (t : (i ≡ id) × (new ≡ u)). subst (λ (q : ℕ × PassView). K q.0 q.1) (λ z. (sym t.0 z, t.1 z)) (
      let kn : K id new = record {
        begins = begins;
        pasts = known.pasts;
        here = λ j c m. let o = only k j b c (subst (In (member j c)) new_members m) in subst (λ (q : ℕ × Actor). (r.home q.0 ≡ id) × (q.1.seen ≤ length s)) (λ z. (sym o.0 z, sym o.1 z)) ((known.here k (own v) mine).0, seen_is);
        right = known.right;
        idle = λ n. absurd (n (member k b) (subst (In (member k b)) (sym new_members) (one k b)));
      } in kn))
      (λ (t : (i ≢ other) × (i ≢ id) × (get_elem? views i ≡ some u)). r.each i u t.2) z)
      (now_at i u e)

  live : In (member k b) new.members
  live = subst (In (member k b)) (sym new_members) (one k b)

  top : SeesAll now r.log
  top = let t = r.top in dite (ℕ_discrete t.id other)
      (λ (q : t.id ≡ other). let same : t.view ≡ w = same_at views other t.view w (ap (get_elem? views) (sym q) ∙ t.at) other_at in
      record { id = id; view = new; at = id_at; whole = longer_all v.seen w.seen r.log known.begins others.begins (inr (ap (λ (x : PassView). x.seen) (sym same) ∙ t.whole)); some = member k b; live = live })
      (λ (ne : t.id ≢ other). dite (ℕ_discrete t.id id)
      (λ (q : t.id ≡ id). let same : t.view ≡ v = same_at views id t.view v (ap (get_elem? views) (sym q) ∙ t.at) at in
      record { id = id; view = new; at = id_at; whole = longer_all v.seen w.seen r.log known.begins others.begins (inl (ap (λ (x : PassView). x.seen) (sym same) ∙ t.whole)); some = member k b; live = live })
      (λ (n : t.id ≢ id). record { id = t.id; view = t.view; at = set_else mid other t.id empty_view ne ∙ set_else views id t.id new n ∙ t.at; whole = t.whole; some = t.some; live = t.live }))

  even : all_given now ≡ all_taken now + all_out now
  even =
      let q = r.even in
      let idle = others.idle (λ m h. none_in m (subst (In m) none h)) in
      let a = counts_set views id v new 0 1 0 at (omega arith) (omega arith) (omega arith) in
      let b = counts_spent mid other w there in
      let one_right : weight w.right ≡ 1 = ap weight meets.is in
      let i0 = idle.0 in let i1 = idle.1 in let a0 = a.0 in let a1 = a.1 in let a2 = a.2 in let b0 = b.0 in let b1 = b.1 in let b2 = b.2 in
      omega (arith, q, i0, i1, a0, a1, a2, b0, b1, b2, one_right)

  notes : AllKnow r.noted now
  notes = notes_spent r.noted mid other (notes_set r.noted views id new r.notes (notes_on r.noted k v new (own v) b asks.here asks.alone new_members refl refl (front_more (own v).dones a.dones b.dones (asked_dones p v a asks) (turn_dones k a s [] (turned_by a.client (Some meets.depth)))) (drop (length v.seen) w.seen, refl) (r.notes id v at)))

  take_kept : KeepsPool p words now
  take_kept = record { ok = r.ok; log = r.log; inv = inv; top = top; home = r.home; even = even; bearer = r.bearer; each = knows; noted = r.noted; notes = notes }

pub taking : (p : ConfigParts) (id : ℕ) (v : PassView) (a : Actor) (tale : Tale) (other : ℕ) (w : PassView) → IsActorOf p v a → v.right ≡ None → w.members ≡ [] → MeetsRight p (view_seat v) a.client w.right → Joins (Pooled p) id v other w (taken_view a tale v w) empty_view
taking p id v a tale other w asks own_none none meets table r at apart there = take_kept p table.words table.views r id v at a asks tale other w apart there none meets own_none
