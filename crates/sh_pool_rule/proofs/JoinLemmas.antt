-- A pass that is taken in keeps the rule; and what the rule says where one view has all actors, and they rest.
use Rattle.std.proofs.Common.{◌≡◌, ◌≢◌, ◌⊎◌, ℕ, zero, suc, ◌+◌, ◌<◌, ◌≤◌, ◌==◌, Bool, true, None, List, [], ◌∷◌, ◌++◌, length, drop, set, refl, ap, sym, ◌∙◌, subst, ⊎_elim, inl, inr, arith, eq-eqb, ne_eqb}
use Rattle.std.specs.Prelude.{if◌then◌else◌, slice_index}
use mathlib.Core.{Option.{some}, Logic.{dite}}
use native.Mathlib.Decide.{ℕ_discrete}
use lib.ListN.{get_elem?}
use Rattle.atomic_table.{proofs.Lists.{at_set, set_here, set_else, at_longer}}
use Rattle.sh_base.specs.{declared.config.ConfigParts.{ConfigParts}, Setting.{all_seats, pool_words, IsSetting}, Places.{Own}}
use Rattle.sh_map.specs.declared.{log.Entry.{Entry}, book.Done.{Done}}
use Rattle.sh_client.specs.Rests.{is_resting}
use Rattle.sh_core.{specs.{Actors.{Actor}, Causes.{HaveCauses}, Core.{AreSame}}, proofs.Moves.{same_keeps}}
use Rattle.sh_core_says.{specs.{Books.{counter_in, IsBookOf}, Rest.{AreAtRest}}, proofs.{AtRest.{at_rest}, Books.{refusals_have_causes}}}
use Rattle.sh_local.{specs.Calls.{weight}, proofs.Sums.{same_at, at_lt, total_alone, total_part}}
use Rattle.sh_logic.proofs.{Lists.{all_join, all_weaker}, Options.{none_some}}
use Rattle.sh_pool_rule.specs.{declared.view.{PassView.{PassView}, Card.{Card}, Member.{Member}, Past.{Past}}, Views.{empty_view, member, longer, view_seat, AllBegin, In, Has, Out}}
use Rattle.sh_pool_rule.{specs.{Notes.{IsPast, KnowsNotes}, Rights.{joined_view, past_of}, Rule.{all_given, all_out, all_taken, KnowsLog, SeesAll, KeepsPool}}, proofs.Relations.{counts_set, counts_spent, none_in, one}}
use Rattle.sh_pool_rule.proofs.{Changed.{longer_long, longer_begins, longer_all}, NoteLemmas.{cards_on, notes_set, notes_spent}}

pub in_front : (m : Member) (ms ns : List Member) → In m ms → In m (ms ++ ns)
in_front m ms ns (i, e) = (i, at_longer ms ns i m e)

pub in_back : (m : Member) (ms ns : List Member) → In m ns → In m (ms ++ ns)
in_back m [] ns h = h
in_back m (x ∷ ms) ns h = let r = in_back m ms ns h in (suc r.0, r.1)

pub in_either : (m : Member) (ms ns : List Member) → In m (ms ++ ns) → In m ms ⊎ In m ns
in_either m [] ns h = inr h
in_either m (x ∷ ms) ns (zero, e) = inl (zero, e)
in_either m (x ∷ ms) ns (suc i, e) = ⊎_elim (λ (h : In m ms). inl (suc h.0, h.1)) (λ (h : In m ns). inr h) (in_either m ms ns (i, e))

-- two views as one, with these that were taken in, and these cards
abbrev pub joined_with : PassView → PassView → List Past → List Card → PassView
joined_with v w gs cs = record (joined_view v w) { pasts = gs; cards = cs }

module _ (p : ConfigParts) (words : List ℕ) (views : List PassView) (r : KeepsPool p words views) (id : ℕ) (v : PassView) (at : get_elem? views id ≡ some v)
    (other : ℕ) (w : PassView) (apart : other ≢ id) (gs : List Past) (cs : List Card) (there : get_elem? (set views id (joined_with v w gs cs)) other ≡ some w) (no_right : w.right ≡ None) (new_pasts : AllBegin gs r.log) (new_notes : KnowsNotes r.noted (joined_with v w gs cs)) where
  abbrev new : PassView
  new = joined_with v w gs cs

  abbrev mid : List PassView
  mid = set views id new

  abbrev now : List PassView
  now = set mid other empty_view

  other_at : get_elem? views other ≡ some w
  other_at = sym (set_else views id other new apart) ∙ there

  id_at : get_elem? now id ≡ some new
  id_at = set_else mid other id empty_view (λ (e : id ≡ other). apart (sym e)) ∙ set_here views id new (at_lt views id v at)

  known : KnowsLog r.log r.home r.bearer id v
  known = r.each id v at

  others : KnowsLog r.log r.home r.bearer other w
  others = r.each other w other_at

  now_at : (i : ℕ) (u : PassView) → get_elem? now i ≡ some u → ((i ≡ other) × (empty_view ≡ u)) ⊎ (((i ≡ id) × (new ≡ u)) ⊎ ((i ≢ other) × (i ≢ id) × (get_elem? views i ≡ some u)))
  now_at i u e =
      ⊎_elim (λ (t : (i ≡ other) × (empty_view ≡ u)). inl t)
      (λ (t : (i ≢ other) × (get_elem? mid i ≡ some u)).
      ⊎_elim (λ (q : (i ≡ id) × (new ≡ u)). inr (inl q)) (λ (q : (i ≢ id) × (get_elem? views i ≡ some u)). inr (inr (t.0, q.0, q.1))) (at_set views id i new u t.1))
      (at_set mid other i empty_view u e)

  else_at : (i : ℕ) (u : PassView) → i ≢ other → i ≢ id → get_elem? views i ≡ some u → get_elem? now i ≡ some u
  else_at i u ne no_id e = set_else mid other i empty_view ne ∙ set_else views id i new no_id ∙ e

  same : AreSame (Has views) (Has now)
  same = record {
    on = λ j b h. dite (ℕ_discrete h.0 other)
        (λ (q : h.0 ≡ other). let is : h.1 ≡ w = same_at views other h.1 w (ap (get_elem? views) (sym q) ∙ h.2) other_at in
        (id, new, id_at, in_back (member j b) v.members w.members (subst (λ (u : PassView). In (member j b) u.members) is h.3)))
        (λ (ne : h.0 ≢ other). dite (ℕ_discrete h.0 id)
        (λ (q : h.0 ≡ id). let is : h.1 ≡ v = same_at views id h.1 v (ap (get_elem? views) (sym q) ∙ h.2) at in
        (id, new, id_at, in_front (member j b) v.members w.members (subst (λ (u : PassView). In (member j b) u.members) is h.3)))
        (λ (no_id : h.0 ≢ id). (h.0, h.1, else_at h.0 h.1 ne no_id h.2, h.3)));
    back = λ j b h. ⊎_elim (λ (t : (h.0 ≡ other) × (empty_view ≡ h.1)). absurd (none_in (member j b) (subst (λ (u : PassView). In (member j b) u.members) (sym t.1) h.3)))
        (λ z. ⊎_elim (λ (t : (h.0 ≡ id) × (new ≡ h.1)). ⊎_elim (λ (m : In (member j b) v.members). (id, v, at, m)) (λ (m : In (member j b) w.members). (other, w, other_at, m))
        (in_either (member j b) v.members w.members (subst (λ (u : PassView). In (member j b) u.members) (sym t.1) h.3)))
        (λ (t : (h.0 ≢ other) × (h.0 ≢ id) × (get_elem? views h.0 ≡ some h.1)). (h.0, h.1, t.2, h.3)) z)
        (now_at h.0 h.1 h.2);
  }

  out_on : (l c d : ℕ) → Out views l c d → Out now l c d
  out_on l c d (i, u, e, q) = dite (ℕ_discrete i other)
      (λ (o : i ≡ other). let is : u ≡ w = same_at views other u w (ap (get_elem? views) (sym o) ∙ e) other_at in
      absurd (none_some (sym no_right ∙ ap (λ (x : PassView). x.right) (sym is) ∙ q)))
      (λ (ne : i ≢ other). dite (ℕ_discrete i id)
      (λ (o : i ≡ id). let is : u ≡ v = same_at views id u v (ap (get_elem? views) (sym o) ∙ e) at in (id, new, id_at, ap (λ (x : PassView). x.right) (sym is) ∙ q))
      (λ (no_id : i ≢ id). (i, u, else_at i u ne no_id e, q)))

  out_back : (l c d : ℕ) → Out now l c d → Out views l c d
  out_back l c d (i, u, e, q) =
      ⊎_elim (λ (t : (i ≡ other) × (empty_view ≡ u)). absurd (none_some (ap (λ (x : PassView). x.right) t.1 ∙ q)))
      (λ z. ⊎_elim (λ (t : (i ≡ id) × (new ≡ u)). (id, v, at, ap (λ (x : PassView). x.right) t.1 ∙ q)) (λ (t : (i ≢ other) × (i ≢ id) × (get_elem? views i ≡ some u)). (i, u, t.2, q)) z)
      (now_at i u e)

  abbrev lives : ℕ → ℕ
  lives j = if r.home j == other then id else r.home j

  lives_else : (j i : ℕ) → r.home j ≡ i → i ≢ other → lives j ≡ i
  lives_else j i e ne = ap (λ (t : Bool). if t then id else r.home j) (ne_eqb (r.home j) other (λ q. ne (sym e ∙ q))) ∙ e

  long : (length v.seen ≤ length (longer v.seen w.seen)) × (length w.seen ≤ length (longer v.seen w.seen))
  long = longer_long v.seen w.seen

  knows : (i : ℕ) (u : PassView) → get_elem? now i ≡ some u → KnowsLog r.log lives r.bearer i u
  knows i u e =
      let K : ℕ → PassView → Type 0 = KnowsLog r.log lives r.bearer in
      ⊎_elim (λ (t : (i ≡ other) × (empty_view ≡ u)). subst (λ (q : ℕ × PassView). K q.0 q.1) (λ z. (sym t.0 z, t.1 z)) (
      let kn : K other empty_view = record { begins = (r.log, refl); pasts = tt; here = λ j b m. absurd (none_in (member j b) m); right = λ c q. absurd (none_some q); idle = λ n. (refl, refl) } in kn))
      (λ z. ⊎_elim
      (λ (t : (i ≡ id) × (new ≡ u)). subst (λ (q : ℕ × PassView). K q.0 q.1) (λ z. (sym t.0 z, t.1 z)) (
      let kn : K id new = record {
        begins = longer_begins v.seen w.seen r.log known.begins others.begins;
        pasts = new_pasts;
        here = λ j b m. ⊎_elim
            (λ (h : In (member j b) v.members). let q = known.here j b h in let le = q.1 in (lives_else j id q.0 (λ (s : id ≡ other). apart (sym s)), omega (arith, le, long.0)))
            (λ (h : In (member j b) w.members). let q = others.here j b h in let le = q.1 in (ap (λ (t : Bool). if t then id else r.home j) (eq-eqb (r.home j) other q.0), omega (arith, le, long.1)))
            (in_either (member j b) v.members w.members m);
        right = known.right;
        idle = λ n.
            let a = known.idle (λ m h. n m (in_front m v.members w.members h)) in
            let b = others.idle (λ m h. n m (in_back m v.members w.members h)) in
            let a0 = a.0 in let a1 = a.1 in let b0 = b.0 in let b1 = b.1 in
            (omega (arith, a0, b0), omega (arith, a1, b1));
      } in kn))
      (λ (t : (i ≢ other) × (i ≢ id) × (get_elem? views i ≡ some u)). let kn = r.each i u t.2 in
      record { begins = kn.begins; pasts = kn.pasts; here = λ j b m. let q = kn.here j b m in (lives_else j i q.0 t.0, q.1); right = kn.right; idle = kn.idle }) z)
      (now_at i u e)

  whole_if : (v.seen ≡ r.log) ⊎ (w.seen ≡ r.log) → new.seen ≡ r.log
  whole_if h = longer_all v.seen w.seen r.log known.begins others.begins h

  top : SeesAll now r.log
  top = let t = r.top in dite (ℕ_discrete t.id other)
      (λ (q : t.id ≡ other). let is : t.view ≡ w = same_at views other t.view w (ap (get_elem? views) (sym q) ∙ t.at) other_at in
      record { id = id; view = new; at = id_at; whole = whole_if (inr (ap (λ (x : PassView). x.seen) (sym is) ∙ t.whole)); some = t.some; live = in_back t.some v.members w.members (subst (λ (u : PassView). In t.some u.members) is t.live) })
      (λ (ne : t.id ≢ other). dite (ℕ_discrete t.id id)
      (λ (q : t.id ≡ id). let is : t.view ≡ v = same_at views id t.view v (ap (get_elem? views) (sym q) ∙ t.at) at in
      record { id = id; view = new; at = id_at; whole = whole_if (inl (ap (λ (x : PassView). x.seen) (sym is) ∙ t.whole)); some = t.some; live = in_front t.some v.members w.members (subst (λ (u : PassView). In t.some u.members) is t.live) })
      (λ (no_id : t.id ≢ id). record { id = t.id; view = t.view; at = else_at t.id t.view ne no_id t.at; whole = t.whole; some = t.some; live = t.live }))

  even : all_given now ≡ all_taken now + all_out now
  even =
      let q = r.even in
      let a = counts_set views id v new w.gave w.took 0 at refl refl (omega arith) in
      let b = counts_spent mid other w there in
      let none : weight w.right ≡ 0 = ap weight no_right in
      let a0 = a.0 in let a1 = a.1 in let a2 = a.2 in let b0 = b.0 in let b1 = b.1 in let b2 = b.2 in
      omega (arith, q, a0, a1, a2, b0, b1, b2, none)

  pub joining_kept : KeepsPool p words now
  joining_kept = record { ok = r.ok; log = r.log; inv = same_keeps p words r.log (Has views) (Has now) (Out views) (Out now) r.inv same record { on = out_on; back = out_back }; top = top; home = lives; even = even; bearer = r.bearer; each = knows; noted = r.noted; notes = notes_spent r.noted mid other (notes_set r.noted views id new r.notes new_notes) }

not_none : (gs : List Past) (g : Past) → gs ++ g ∷ [] ≡ [] → ⊥
not_none [] g e = cc
not_none (x ∷ gs) g e = cc

-- what a view knows of notes that has taken a pass in
pub joined_notes : (noted : ℕ → Card) (v w : PassView) (a : Actor) → w.members ≡ member (view_seat w) a ∷ [] → w.pasts ≡ [] → KnowsNotes noted v → KnowsNotes noted w → KnowsNotes noted (joined_view v w)
joined_notes noted v w a members alone h l =
    let mine : In (member (view_seat w) a) w.members = subst (In (member (view_seat w) a)) (sym members) (one (view_seat w) a) in
    record {
      cards = cards_on noted v.seen (longer v.seen w.seen) v.cards (drop (length v.seen) w.seen, refl) h.cards;
      dones = λ k b m. ⊎_elim (λ (t : In (member k b) v.members). h.dones k b t) (λ (t : In (member k b) w.members). l.dones k b t) (in_either (member k b) v.members w.members m);
      own = λ e k b m. absurd (not_none v.pasts (past_of w) e);
      pasts = all_join (IsPast noted (v.members ++ w.members)) v.pasts (past_of w ∷ [])
          (all_weaker (IsPast noted v.members) (IsPast noted (v.members ++ w.members)) v.pasts (λ g q. record { actor = q.actor; here = in_front (member g.seat q.actor) v.members w.members q.here; own = q.own; cards = q.cards }) h.pasts)
          (record { actor = a; here = in_back (member (view_seat w) a) v.members w.members mine; own = l.own alone (view_seat w) a mine; cards = l.cards }, tt);
    }

-- where one view has all seats of the setting, it has the actors and has seen the log
pub gathered_top : (p : ConfigParts) (words : List ℕ) (views : List PassView) (r : KeepsPool p words views) (id : ℕ) (v : PassView) → get_elem? views id ≡ some v → ((k : ℕ) → k < all_seats p → (a : Actor) × In (member k a) v.members) → ((k : ℕ) (a : Actor) → Has views k a → In (member k a) v.members) × (v.seen ≡ r.log)
gathered_top p words views r id v at all =
    let there : (k : ℕ) (a : Actor) → Has views k a → (a' : PassView) × (get_elem? views id ≡ some a') × In (member k a) a'.members
    = λ k a h.
    let lt = (r.inv.kept k a h).work.seated.within in
    let m = all k lt in
    let home : r.home k ≡ id = ((r.each id v at).here k m.0 m.1).0 in
    let here : h.0 ≡ id = sym ((r.each h.0 h.1 h.2).here k a h.3).0 ∙ home in
    (h.1, ap (get_elem? views) (sym here) ∙ h.2, h.3) in
    let own_ : (k : ℕ) (a : Actor) → Has views k a → In (member k a) v.members = λ k a h. let t = there k a h in subst (λ (u : PassView). In (member k a) u.members) (same_at views id t.0 v t.1 at) t.2 in
    let t = r.top in
    let s = t.some in
    let lives : (u : PassView) × (get_elem? views id ≡ some u) × In s u.members = there s.seat s.actor (t.id, t.view, t.at, t.live) in
    let home : r.home s.seat ≡ t.id = ((r.each t.id t.view t.at).here s.seat s.actor t.live).0 in
    let mine : r.home s.seat ≡ id = ((r.each id lives.0 lives.1).here s.seat s.actor lives.2).0 in
    let is : t.view ≡ v = same_at views id t.view v (ap (get_elem? views) (sym mine ∙ home) ∙ t.at) at in
    (own_, ap (λ (x : PassView). x.seen) (sym is) ∙ t.whole)

-- where that view has taken up as many rights as it has parted with, none is out
pub none_out : (p : ConfigParts) (words : List ℕ) (views : List PassView) (r : KeepsPool p words views) (id : ℕ) (v : PassView) → get_elem? views id ≡ some v → ((k : ℕ) → k < all_seats p → (a : Actor) × In (member k a) v.members) → v.gave ≡ v.took → (l c d : ℕ) → Out views l c d → ⊥
none_out p words views r id v at all same l c d (i, u, e, q) =
    let mine = (gathered_top p words views r id v at all).0 in
    let idle : (j : ℕ) (x : PassView) → get_elem? views j ≡ some x → j ≢ id → (x.gave ≡ 0) × (x.took ≡ 0)
    = λ j x f ne. (r.each j x f).idle (λ m h.
    let here = ((r.each j x f).here m.seat m.actor h).0 in
    let there = ((r.each id v at).here m.seat m.actor (mine m.seat m.actor (j, x, f, h))).0 in
    ne (sym here ∙ there)) in
    let g : all_given views ≡ v.gave = total_alone (λ (x : PassView). x.gave) views id v at (λ j x ne f. (idle j x f ne).0) in
    let t : all_taken views ≡ v.took = total_alone (λ (x : PassView). x.took) views id v at (λ j x ne f. (idle j x f ne).1) in
    let w : weight u.right ≤ all_out views = total_part (λ (x : PassView). weight x.right) views i u e in
    let one_right : weight u.right ≡ 1 = ap weight q in
    let even = r.even in
    absurd (omega (arith, g, t, w, one_right, even, same))

-- What the rule says of a view with the actors of all seats, which rest: it has seen the whole log, and the words are those
-- of clients at rest.
pub record EndsSo (p : ConfigParts) (words : List ℕ) (v : PassView) (Now : ℕ → Actor → Type 0) : Type 0 where
  pub ok : IsSetting p
  pub pasts : AllBegin v.pasts v.seen
  pub noted : ℕ → Card
  pub notes : KnowsNotes noted v
  pub long : length words ≡ pool_words p
  pub own_word : slice_index words 0 ≡ 0
  pub rest : AreAtRest p words v.seen Now
  pub causes : (dones : List Done) → IsBookOf Now dones → HaveCauses p (counter_in p words) v.seen dones

pub ends_so : (p : ConfigParts) (words : List ℕ) (views : List PassView) (r : KeepsPool p words views) (id : ℕ) (v : PassView) (Now : ℕ → Actor → Type 0) → get_elem? views id ≡ some v → ((k : ℕ) → k < all_seats p → (a : Actor) × In (member k a) v.members) → v.gave ≡ v.took
    → AreSame (λ k a. In (member k a) v.members) Now → ((k : ℕ) (a : Actor) → Now k a → is_resting a.client ≡ true) → EndsSo p words v Now
ends_so p words views r id v Now at all same s rest =
    let top = gathered_top p words views r id v at all in
    let shows = r.inv.ground.shows in
    let inv = same_keeps p words r.log (Has views) Now (Out views) (Out views) r.inv record { on = λ k a h. s.on k a (top.0 k a h); back = λ k a n. (id, v, at, s.back k a n) } record { on = λ l c d o. o; back = λ l c d o. o } in
    record {
      ok = r.ok;
      pasts = subst (AllBegin v.pasts) (sym top.1) (r.each id v at).pasts;
      noted = r.noted;
      notes = r.notes id v at;
      long = shows.size;
      own_word = shows.each Own tt;
      rest = subst (λ (log : List Entry). AreAtRest p words log Now) (sym top.1) (at_rest p r.ok words r.log Now (Out views) inv rest (none_out p words views r id v at all same));
      causes = λ dones book. subst (λ (log : List Entry). HaveCauses p (counter_in p words) log dones) (sym top.1) (refusals_have_causes p words r.log Now (Out views) dones inv book);
    }
