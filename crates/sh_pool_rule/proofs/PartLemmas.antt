-- A right that is handed over keeps the rule.
use Rattle.std.proofs.Common.{◌≡◌, ◌≢◌, ◌⊎◌, ℕ, ◌==◌, ◌+◌, ◌≤◌, Bool, Some, List, [], ◌∷◌, ◌++◌, length, set, refl, ap, sym, ◌∙◌, subst, ⊎_elim, inl, inr, eq-eqb, ne_eqb, arith}
use Rattle.std.specs.Prelude.{if◌then◌else◌}
use mathlib.Core.{Option.{some}, Logic.{dite}}
use native.Mathlib.Decide.{ℕ_discrete}
use lib.ListN.{get_elem?}
use Rattle.atomic_table.{specs.Table.{Splits}, proofs.Lists.{at_set, set_here, set_else, at_longer, at_last}}
use Rattle.sh_base.specs.{declared.config.ConfigParts.{ConfigParts}, Layout.{compute_of, lock_of}}
use Rattle.sh_state.specs.TreeState.{Seat, Grant, LockState, Held}
use Rattle.sh_client.specs.{declared.state.Phase.TheVariants.{Leave}, Machine.{Machine}, Feeds.{fed_by}, Giving.{makes, made_in}, Rests.{has_ended}}
use Rattle.sh_core.specs.{Actors.{Actor, actor_stepped}, Fits.{Fits}, Core.{Inv, Moves}}
use Rattle.sh_core_turns.proofs.LocalLaws.{part_keeps}
use Rattle.sh_local.{specs.Calls.{weight}, proofs.Sums.{same_at, at_lt}}
use Rattle.sh_pool_rule.specs.{declared.view.{PassView.{PassView}, LockRight.{LockRight}}, Views.{member, lock_right, own, view_seat, Tale, In, Has, Out}, Untold.{IsActorOf}}
use Rattle.sh_pool_rule.specs.{Rights.{right_in, parted_view, right_view, IsHanding}, Rule.{all_given, all_out, all_taken, KnowsLog, SeesAll, KeepsPool}}
use Rattle.sh_pool_rule.proofs.{NoteLemmas.{asked_dones, bare_notes, front_more, front_same, notes_on, notes_set, notes_snoc, turn_dones, AllKnow}, Relations.{counts_set, counts_snoc, moves_at, none_in, one, only, out_from, out_to}, Untold.{becomes_seen, catches_up}, Allowed.{Pooled}}
use Rattle.sh_pool_rule.proofs.Changed.{at_length, more_moves}

some_carry : (c d : LockRight) → Some c ≡ Some d → c ≡ d
some_carry c d e = cc

not_both : (i c d e : ℕ) (h : LockState) → h ≡ Held (Seat i) d → h ≡ Held (Grant c) e → ⊥
not_both i c d e h x y = cc

module _ (p : ConfigParts) (words : List ℕ) (views : List PassView) (r : KeepsPool p words views) (id : ℕ) (v : PassView) (at : get_elem? views id ≡ some v) (a : Actor) (asks : IsActorOf p v a) (hands : IsHanding a.client) (tale : Tale) where
  abbrev k : ℕ
  k = view_seat v

  abbrev b : Actor
  b = actor_stepped k a v.seen 0

  abbrev left : PassView
  left = parted_view a tale v

  abbrev right : PassView
  right = right_view a v

  abbrev mid : List PassView
  mid = set views id left

  abbrev now : List PassView
  now = mid ++ right ∷ []

  abbrev lock : ℕ
  lock = lock_of p hands.node

  mine : In (member k (own v)) v.members
  mine = subst (In (member k (own v))) (sym asks.here) (one k (own v))

  known : KnowsLog r.log r.home r.bearer id v
  known = r.each id v at

  mv : Moves (Has views) k b (Has now)
  mv = more_moves mid right (Has views) k b refl (moves_at views id k v left (own v) b r.home (λ i u q j c h. ((r.each i u q).here j c h).0) at asks.here refl)

  -- what follows at the actor that is asked
  follows : (Goal : Type 0) → ((Then_ : ℕ → Actor → Type 0) → Inv p words r.log Then_ (Out views) → Then_ k a → a.seen ≤ length v.seen → Moves Then_ k b (Has now) → Goal) → Goal
  follows Goal use_ = catches_up p r.ok words r.log (Out views) k v.seen known.begins (Has now) b Goal asks.turns (Has views) (own v) r.inv (id, v, at, mine) ((known.here k (own v) mine).1) asks.may mv
      (λ T i h le m. use_ T i (subst (T k) (sym asks.is) h) (subst (λ (x : Actor). x.seen ≤ length v.seen) (sym asks.is) le) m)

  setting_is : a.client.setting ≡ p
  setting_is = follows (a.client.setting ≡ p) (λ T i h le m. (i.kept k a h).work.seated.setting_is)

  seat_is : a.client.seat ≡ k
  seat_is = follows (a.client.seat ≡ k) (λ T i h le m. (i.kept k a h).work.seated.seat_is)

  right_is : right.right ≡ Some (lock_right lock (compute_of p k) hands.depth)
  right_is = ap (right_in a.client) hands.phase ∙ (λ z. Some (lock_right (lock_of (setting_is z) hands.node) (compute_of (setting_is z) (seat_is z)) hands.depth))

  -- no right to the lock was out
  none_out : (c d : ℕ) → Out views lock c d → ⊥
  none_out c d o = follows ⊥ (λ T i h le m.
      let w = (i.kept k a h).work in
      let f : Fits p i.scene k a.first a.point a.seen a.client.registers w.duty (Leave hands.node (Some hands.depth) hands.behind) = subst (Fits p i.scene k a.first a.point a.seen a.client.registers w.duty) hands.phase w.fits in
      not_both k c f.leaving.depth d (i.scene.hold lock) f.leaving.held (i.out lock c d o))

  now_at : (i : ℕ) (u : PassView) → get_elem? now i ≡ some u → (get_elem? mid i ≡ some u) ⊎ ((i ≡ length mid) × (right ≡ u))
  now_at i u e = at_length mid right i u e

  out_here : Out now lock (compute_of p k) hands.depth
  out_here = (length mid, right, at_last mid right (length mid) refl, right_is)

  out_back : (l c d : ℕ) → Out now l c d → ((l ≡ lock) × (c ≡ compute_of p k) × (d ≡ hands.depth)) ⊎ Out views l c d
  out_back l c d (i, u, e, q) = ⊎_elim (λ (t : get_elem? mid i ≡ some u). inr (out_from views id v left at refl l c d (i, u, t, q)))
      (λ (t : (i ≡ length mid) × (right ≡ u)). let same : lock_right l c d ≡ lock_right lock (compute_of p k) hands.depth = some_carry (lock_right l c d) (lock_right lock (compute_of p k) hands.depth) (sym q ∙ ap (λ (x : PassView). x.right) (sym t.1) ∙ right_is) in
      inl (ap (λ (x : LockRight). x.lock) same, ap (λ (x : LockRight). x.compute) same, ap (λ (x : LockRight). x.depth) same))
      (now_at i u e)

  out_on : (l c d : ℕ) → Out views l c d → Out now l c d
  out_on l c d o = let h = out_to views id v left at refl l c d o in (h.0, h.1, at_longer mid (right ∷ []) h.0 h.1 h.2, h.3)

  inv : Inv p words r.log (Has now) (Out now)
  inv = follows (Inv p words r.log (Has now) (Out now)) (λ T i h le m. part_keeps p r.ok words r.log v.seen T (Has now) (Out views) (Out now) k 0 a hands.node hands.depth hands.behind i h hands.phase record { rest = known.begins.0; whole = known.begins.1; more = le } out_here out_back out_on m)

  abbrev bears : ℕ → ℕ
  bears l = if l == lock then length mid else r.bearer l

  bears_here : (l : ℕ) → l ≡ lock → bears l ≡ length mid
  bears_here l e = ap (λ (t : Bool). if t then length mid else r.bearer l) (eq-eqb l lock e)

  -- a view that knew it knows it still
  old_bears : (i : ℕ) (u : PassView) → get_elem? views i ≡ some u → (c : LockRight) → u.right ≡ Some c → bears c.lock ≡ i
  old_bears i u e c q = dite (ℕ_discrete c.lock lock)
      (λ (s : c.lock ≡ lock). absurd (none_out c.compute c.depth (i, u, e, q ∙ ap (λ (l : ℕ). Some (lock_right l c.compute c.depth)) s)))
      (λ (n : c.lock ≢ lock). (ap (λ (t : Bool). if t then length mid else r.bearer c.lock) (ne_eqb c.lock lock n)) ∙ (r.each i u e).right c q)

  seen_is : b.seen ≤ length v.seen
  seen_is = let m : Machine = fed_by a.client 0 in becomes_seen k a v.seen m (makes a.client) (ap (made_in a.client) hands.phase) (has_ended m.phase)

  knows : (i : ℕ) (u : PassView) → get_elem? now i ≡ some u → KnowsLog r.log r.home bears i u
  knows i u e =
      let K : ℕ → PassView → Type 0 = KnowsLog r.log r.home bears in
      ⊎_elim (λ (t : get_elem? mid i ≡ some u).
      ⊎_elim (λ (s : (i ≡ id) × (left ≡ u)). subst (λ (q : ℕ × PassView). K q.0 q.1) (λ z. (sym s.0 z, s.1 z)) (
      let kn : K id left = record {
        begins = known.begins;
        pasts = known.pasts;
        here = λ j c m. let o = only k j b c m in subst (λ (q : ℕ × Actor). (r.home q.0 ≡ id) × (q.1.seen ≤ length v.seen)) (λ z. (sym o.0 z, sym o.1 z)) ((known.here k (own v) mine).0, seen_is);
        right = old_bears id v at;
        idle = λ n. absurd (n (member k b) (one k b));
      } in kn))
      (λ (s : (i ≢ id) × (get_elem? views i ≡ some u)).
      let kn = r.each i u s.1 in
      record { begins = kn.begins; pasts = kn.pasts; here = kn.here; right = old_bears i u s.1; idle = kn.idle })
      (at_set views id i left u t))
      (λ (t : (i ≡ length mid) × (right ≡ u)). subst (λ (q : ℕ × PassView). K q.0 q.1) (λ z. (sym t.0 z, t.1 z)) (
      let kn : K (length mid) right = record {
        begins = known.begins;
        pasts = tt;
        here = λ j c m. absurd (none_in (member j c) m);
        right = λ c q. bears_here c.lock (ap (λ (x : LockRight). x.lock) (some_carry c (lock_right lock (compute_of p k) hands.depth) (sym q ∙ right_is)));
        idle = λ n. (refl, refl);
      } in kn))
      (now_at i u e)

  top : SeesAll now r.log
  top = let t = r.top in dite (ℕ_discrete t.id id)
      (λ (q : t.id ≡ id). let same : t.view ≡ v = same_at views id t.view v (ap (get_elem? views) (sym q) ∙ t.at) at in
      record { id = id; view = left; at = at_longer mid (right ∷ []) id left (set_here views id left (at_lt views id v at)); whole = ap (λ (x : PassView). x.seen) (sym same) ∙ t.whole; some = member k b; live = one k b })
      (λ (n : t.id ≢ id). record { id = t.id; view = t.view; at = at_longer mid (right ∷ []) t.id t.view (set_else views id t.id left n ∙ t.at); whole = t.whole; some = t.some; live = t.live })

  even : all_given now ≡ all_taken now + all_out now
  even =
      let q = r.even in
      let a = counts_set views id v left 1 0 0 at (omega arith) (omega arith) (omega arith) in
      let b = counts_snoc mid right 1 refl refl (ap weight right_is) in
      let a0 = a.0 in let a1 = a.1 in let a2 = a.2 in let b0 = b.0 in let b1 = b.1 in let b2 = b.2 in
      omega (arith, q, a0, a1, a2, b0, b1, b2)

  notes : AllKnow r.noted now
  notes = notes_snoc r.noted mid right (notes_set r.noted views id left r.notes (notes_on r.noted k v left (own v) b asks.here asks.alone refl refl refl (front_more (own v).dones a.dones b.dones (asked_dones p v a asks) (turn_dones k a v.seen (makes a.client) (fed_by a.client 0))) (front_same v.seen) (r.notes id v at)))
      (bare_notes r.noted right refl refl refl)

  part_kept : KeepsPool p words now
  part_kept = record { ok = r.ok; log = r.log; inv = inv; top = top; home = r.home; even = even; bearer = bears; each = knows; noted = r.noted; notes = notes }

pub parting : (p : ConfigParts) (id : ℕ) (v : PassView) (a : Actor) (tale : Tale) → IsActorOf p v a → IsHanding a.client → Splits (Pooled p) id v (parted_view a tale v) (right_view a v)
parting p id v a tale asks hands s r at = part_kept p s.words s.views r id v at a asks hands tale
