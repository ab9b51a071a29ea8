-- The first view of a table has the rule, and each seat gets a view of its own.
use Rattle.std.proofs.Common.{rules, ◌≡◌, ◌≢◌, ◌⊎◌, ℕ, zero, suc, ◌+◌, ◌<◌, ◌≤◌, ◌==◌, Bool, List, [], ◌∷◌, ◌++◌, length, set, refl, ap, sym, ◌∙◌, subst, ⊎_elim, inl, inr, arith, eq-eqb, ne_eqb, mul-pos}
use Rattle.std.specs.{Prelude.{if◌then◌else◌}, List.{AllByRecursion}}
use mathlib.Core.{Option.{some, some-injective, some-ne-none}, Logic.{dite}}
use native.Mathlib.Decide.{ℕ_discrete}
use lib.ListN.{get_elem?}
use Rattle.atomic_table.{specs.Table.{Splits}, proofs.Lists.{at_set, set_here, set_else, at_longer, at_last}}
use Rattle.sh_base.specs.{declared.config.ConfigParts.{ConfigParts}, Setting.{all_seats, IsSetting}}
use Rattle.sh_image.specs.Laid.{AreLaid}
use Rattle.sh_core.{specs.{Actors.{Actor}, Core.{AreSame}, Opening.{entered}}, proofs.Moves.{same_keeps}}
use Rattle.sh_core_turns.proofs.Opening.{laid_keeps}
use Rattle.sh_local.proofs.Sums.{same_at, at_lt}
use Rattle.sh_logic.proofs.Options.{none_some}
use Rattle.sh_pool_rule.specs.{declared.view.{PassView.{PassView}, Card.{Card}, Member.{Member}}, Views.{member, members_from, opening_view, In, Has, Out}}
use Rattle.sh_pool_rule.specs.{Notes.{IsFront, IsPast}, Rights.{blank_card, first_alone, first_in, less_first, lengths_of, rest_in}, Rule.{all_given, all_out, all_taken, KnowsLog, SeesAll, KeepsPool}}
use Rattle.sh_pool_rule.proofs.{NoteLemmas.{notes_set, notes_snoc, AllKnow}, Relations.{counts_set, counts_snoc, none_in, out_from, out_to}, Allowed.{Pooled}, Changed.{at_length}}

member_is : (m : Member) (k : ℕ) (a : Actor) → m ≡ member k a → (m.seat ≡ k) × (m.actor ≡ a)
member_is m k a e = (ap (λ (x : Member). x.seat) e, ap (λ (x : Member). x.actor) e)

pub members_in : (p : ConfigParts) (k n j : ℕ) (a : Actor) → In (member j a) (members_from p k n) → (k ≤ j) × (j < k + n) × (a ≡ entered p j)
members_in p k zero j a i = absurd (none_in (member j a) i)
members_in p k (suc n) j a (zero, e) = let q = member_is (member k (entered p k)) j a (some-injective (member k (entered p k)) (member j a) e) in (omega (arith, q.0), omega (arith, q.0), sym q.1 ∙ ap (entered p) q.0)
members_in p k (suc n) j a (suc i, e) = let r = members_in p (suc k) n j a (i, e) in let lo = r.0 in let hi = r.1 in (omega (arith, lo), omega (arith, hi), r.2)

some_member : (p : ConfigParts) (n : ℕ) → 1 ≤ n → In (member 0 (entered p 0)) (members_from p 0 n)
some_member p zero h = absurd (omega (arith, h))
some_member p (suc n) h = (0, refl)

pub opening_kept : (p : ConfigParts) → IsSetting p → (words : List ℕ) → AreLaid p words → KeepsPool p words (opening_view p ∷ [])
opening_kept p ok words laid = record {
  ok = ok;
  log = [];
  inv = laid_keeps p ok words (Has (opening_view p ∷ [])) (Out (opening_view p ∷ [])) laid new none;
  top = record { id = 0; view = opening_view p; at = refl; whole = refl; some = member 0 (entered p 0); live = some_member p (all_seats p) (mul-pos ok.ranged.computes.0 ok.ranged.seats.0) };
  home = λ k. zero;
  even = refl;
  bearer = λ l. zero;
  each = known;
  noted = λ k. blank_card;
  notes = notes;
}
  where
    new : (k : ℕ) (a : Actor) → Has (opening_view p ∷ []) k a → (k < all_seats p) × (a ≡ entered p k)
    new k a (zero, v, e, i) = let r = members_in p 0 (all_seats p) k a (subst (λ (u : PassView). In (member k a) u.members) (sym (some-injective (opening_view p) v e)) i) in let hi = r.1 in (omega (arith, hi), r.2)
    new k a (suc id, v, e, i) = absurd (some-ne-none v (sym e))

    none : (l c d : ℕ) → Out (opening_view p ∷ []) l c d → ⊥
    none l c d (zero, v, e, q) = none_some (ap (λ (u : PassView). u.right) (some-injective (opening_view p) v e) ∙ q)
    none l c d (suc id, v, e, q) = some-ne-none v (sym e)

    notes : AllKnow (λ k. blank_card) (opening_view p ∷ [])
    notes = notes_snoc (λ k. blank_card) [] (opening_view p) (λ i u e. absurd (some-ne-none u (sym e))) record { cards = tt; dones = λ k a m. (a.dones, refl); own = λ e k a m. ([], refl); pasts = tt }

    known : (id : ℕ) (v : PassView) → get_elem? (opening_view p ∷ []) id ≡ some v → KnowsLog [] (λ k. zero) (λ l. zero) id v
    known zero v e = subst (KnowsLog [] (λ k. zero) (λ l. zero) 0) (some-injective (opening_view p) v e) record {
      begins = ([], refl);
      pasts = tt;
      here = λ k a i. let r = members_in p 0 (all_seats p) k a i in (refl, subst (λ (b : Actor). b.seen ≤ 0) (sym r.2) (omega arith));
      right = λ c q. absurd (none_some q);
      idle = λ n. (refl, refl);
    }
    known (suc id) v e = absurd (some-ne-none v (sym e))

module _ (p : ConfigParts) (words : List ℕ) (views : List PassView) (r : KeepsPool p words views) (id : ℕ) (v : PassView) (at : get_elem? views id ≡ some v) (k n : ℕ) (members : v.members ≡ members_from p k (suc n)) (fresh : (v.gave ≡ 0) × (v.took ≡ 0)) (alone : v.pasts ≡ []) (no_cards : v.cards ≡ []) where
  abbrev left : PassView
  left = less_first v

  abbrev right : PassView
  right = first_alone v

  abbrev mid : List PassView
  mid = set views id left

  abbrev now : List PassView
  now = mid ++ right ∷ []

  abbrev first : Member
  first = member k (entered p k)

  left_is : left.members ≡ members_from p (suc k) n
  left_is = ap rest_in members

  right_is : right.members ≡ first ∷ []
  right_is = ap first_in members

  known : KnowsLog r.log r.home r.bearer id v
  known = r.each id v at

  now_at : (i : ℕ) (u : PassView) → get_elem? now i ≡ some u → ((i ≡ length mid) × (right ≡ u)) ⊎ (((i ≡ id) × (left ≡ u)) ⊎ ((i ≢ id) × (get_elem? views i ≡ some u)))
  now_at i u e = ⊎_elim (λ (t : get_elem? mid i ≡ some u). inr (at_set views id i left u t)) (λ (t : (i ≡ length mid) × (right ≡ u)). inl t) (at_length mid right i u e)

  left_at : get_elem? now id ≡ some left
  left_at = at_longer mid (right ∷ []) id left (set_here views id left (at_lt views id v at))

  right_at : get_elem? now (length mid) ≡ some right
  right_at = at_last mid right (length mid) refl

  from_left : (m : Member) → In m left.members → In m v.members
  from_left m i = let j = subst (In m) left_is i in subst (In m) (sym members) (suc j.0, j.1)

  from_right : (m : Member) → In m right.members → In m v.members
  from_right m i = search (rules, right_is)

  same : AreSame (Has views) (Has now)
  same = record {
    on = λ j a h. dite (ℕ_discrete h.0 id)
        (λ (q : h.0 ≡ id). let is : h.1 ≡ v = same_at views id h.1 v (ap (get_elem? views) (sym q) ∙ h.2) at in
        ⊎_elim (λ (i : In (member j a) right.members). (length mid, right, right_at, i)) (λ (i : In (member j a) left.members). (id, left, left_at, i)) (search (rules, right_is, left_is)))
        (λ (ne : h.0 ≢ id). (h.0, h.1, at_longer mid (right ∷ []) h.0 h.1 (set_else views id h.0 left ne ∙ h.2), h.3));
    back = λ j a h. ⊎_elim (λ (t : (h.0 ≡ length mid) × (right ≡ h.1)). (id, v, at, from_right (member j a) (subst (λ (u : PassView). In (member j a) u.members) (sym t.1) h.3)))
        (λ z. ⊎_elim (λ (t : (h.0 ≡ id) × (left ≡ h.1)). (id, v, at, from_left (member j a) (subst (λ (u : PassView). In (member j a) u.members) (sym t.1) h.3)))
        (λ (t : (h.0 ≢ id) × (get_elem? views h.0 ≡ some h.1)). (h.0, h.1, t.1, h.3)) z)
        (now_at h.0 h.1 h.2);
  }

  out_on : (l c d : ℕ) → Out views l c d → Out now l c d
  out_on l c d o = let h = out_to views id v left at refl l c d o in (h.0, h.1, at_longer mid (right ∷ []) h.0 h.1 h.2, h.3)

  out_back : (l c d : ℕ) → Out now l c d → Out views l c d
  out_back l c d (i, u, e, q) = ⊎_elim (λ (t : get_elem? mid i ≡ some u). out_from views id v left at refl l c d (i, u, t, q)) (λ (t : (i ≡ length mid) × (right ≡ u)). absurd (none_some (ap (λ (x : PassView). x.right) t.1 ∙ q))) (at_length mid right i u e)

  abbrev lives : ℕ → ℕ
  lives j = if j == k then length mid else r.home j

  lives_else : (j : ℕ) → j ≢ k → lives j ≡ r.home j
  lives_else j ne = ap (λ (t : Bool). if t then length mid else r.home j) (ne_eqb j k ne)

  home_k : r.home k ≡ id
  home_k = (known.here k (entered p k) (subst (In first) (sym members) (0, refl))).0

  knows : (i : ℕ) (u : PassView) → get_elem? now i ≡ some u → KnowsLog r.log lives r.bearer i u
  knows i u e =
      let K : ℕ → PassView → Type 0 = KnowsLog r.log lives r.bearer in
      ⊎_elim (λ (t : (i ≡ length mid) × (right ≡ u)). subst (λ (q : ℕ × PassView). K q.0 q.1) (λ z. (sym t.0 z, t.1 z)) (
      let kn : K (length mid) right = record {
        begins = known.begins;
        pasts = tt;
        here = λ j a m. let h = members_in p k 1 j a (subst (In (member j a)) right_is m) in let lo = h.0 in let hi = h.1 in let j_is : k ≡ j = omega (arith, lo, hi) in
            (subst (λ (x : ℕ). lives x ≡ length mid) j_is (ap (λ (t : Bool). if t then length mid else r.home k) (eq-eqb k k refl)), (known.here j a (from_right (member j a) m)).1);
        right = λ c q. absurd (none_some q);
        idle = λ n. (refl, refl);
      } in kn))
      (λ z. ⊎_elim (λ (t : (i ≡ id) × (left ≡ u)). subst (λ (q : ℕ × PassView). K q.0 q.1) (λ z. (sym t.0 z, t.1 z)) (
      let kn : K id left = record {
        begins = known.begins;
        pasts = known.pasts;
        here = λ j a m. let h = members_in p (suc k) n j a (subst (In (member j a)) left_is m) in let lo = h.0 in let w = known.here j a (from_left (member j a) m) in
            (lives_else j (λ (q : j ≡ k). absurd (omega (arith, lo, q))) ∙ w.0, w.1);
        right = known.right;
        idle = λ n. fresh;
      } in kn))
      (λ (t : (i ≢ id) × (get_elem? views i ≡ some u)). let kn = r.each i u t.1 in
      record { begins = kn.begins; pasts = kn.pasts; here = λ j a m. let w = kn.here j a m in (lives_else j (λ (q : j ≡ k). t.0 (sym w.0 ∙ ap r.home q ∙ home_k)) ∙ w.0, w.1); right = kn.right; idle = kn.idle }) z)
      (now_at i u e)

  top : SeesAll now r.log
  top = let t = r.top in dite (ℕ_discrete t.id id)
      (λ (q : t.id ≡ id). let is : t.view ≡ v = same_at views id t.view v (ap (get_elem? views) (sym q) ∙ t.at) at in
      record { id = length mid; view = right; at = right_at; whole = ap (λ (x : PassView). x.seen) (sym is) ∙ t.whole; some = first; live = subst (In first) (sym right_is) (0, refl) })
      (λ (ne : t.id ≢ id). record { id = t.id; view = t.view; at = at_longer mid (right ∷ []) t.id t.view (set_else views id t.id left ne ∙ t.at); whole = t.whole; some = t.some; live = t.live })

  even : all_given now ≡ all_taken now + all_out now
  even =
      let q = r.even in
      let a = counts_set views id v left 0 0 0 at (omega arith) (omega arith) (omega arith) in
      let b = counts_snoc mid right 0 refl refl refl in
      let a0 = a.0 in let a1 = a.1 in let a2 = a.2 in let b0 = b.0 in let b1 = b.1 in let b2 = b.2 in
      omega (arith, q, a0, a1, a2, b0, b1, b2)

  -- the seat that leaves has learnt no note, so its first noted lengths are none
  notes : AllKnow r.noted now
  notes =
      let h = r.notes id v at in
      notes_snoc r.noted mid right (notes_set r.noted views id left r.notes record {
        cards = h.cards;
        dones = λ j a m. h.dones j a (from_left (member j a) m);
        own = λ e j a m. h.own e j a (from_left (member j a) m);
        pasts = subst (AllByRecursion (IsPast r.noted left.members)) (sym alone) tt;
      }) record {
        cards = tt;
        dones = λ j a m. h.dones j a (from_right (member j a) m);
        own = λ e j a m. subst (λ (cs : List Card). IsFront (r.noted j).learnt (lengths_of cs)) no_cards (h.own alone j a (from_right (member j a) m));
        pasts = tt;
      }

  making_kept : KeepsPool p words now
  making_kept = record { ok = r.ok; log = r.log; inv = same_keeps p words r.log (Has views) (Has now) (Out views) (Out now) r.inv same record { on = out_on; back = out_back }; top = top; home = lives; even = even; bearer = r.bearer; each = knows; noted = r.noted; notes = notes }

pub making : (p : ConfigParts) (id : ℕ) (v : PassView) (k n : ℕ) → v.members ≡ members_from p k (suc n) → (v.gave ≡ 0) × (v.took ≡ 0) → v.pasts ≡ [] → v.cards ≡ [] → Splits (Pooled p) id v (less_first v) (first_alone v)
making p id v k n members fresh alone no_cards s r at = making_kept p s.words s.views r id v at k n members fresh alone no_cards
