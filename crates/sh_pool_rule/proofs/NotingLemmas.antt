-- A note is made, and one is learnt.
use Rattle.std.proofs.Common.{rules, ◌≡◌, ◌≢◌, ℕ, zero, suc, ◌+◌, ◌≤◌, ◌==◌, Bool, None, List, [], ◌∷◌, ◌++◌, length, drop, set, refl, ap, sym, ◌∙◌, subst, ⊎_elim, arith, eq-eqb, ne_eqb}
use Rattle.std.specs.{Prelude.{if◌then◌else◌}, List.{AllByRecursion}}
use mathlib.Core.{Option.{some, some-injective}, Logic.{dite}}
use native.Mathlib.Decide.{ℕ_discrete}
use lib.ListN.{get_elem?}
use Rattle.atomic_table.{specs.Table.{keeps, Allows, Joins, Me, Splits}, proofs.Lists.{set_else, set_here}}
use Rattle.sh_base.specs.declared.config.ConfigParts.{ConfigParts}
use Rattle.sh_logic.proofs.Lists.{all_join, all_weaker}
use Rattle.sh_map.specs.{declared.{log.Entry.{Entry}, book.Done.{Done}}, Book.{made}}
use Rattle.sh_core.specs.Actors.{Actor, AreInOrder}
use Rattle.sh_core_says.proofs.Books.{calls_are_answered}
use Rattle.sh_local.proofs.Sums.{at_lt, same_at}
use Rattle.sh_pool_rule.specs.{declared.view.{Card.{Card}, PassView.{PassView}}, Views.{empty_view, longer, member, view_seat, Begins, In, Tale}, Rights.{card_of, learnt_view, lengths_of, moved_cards, note_view, told_view}}
use Rattle.sh_pool_rule.specs.{Notes.{IsCard, IsCardWithin, IsFront, IsPast, KnowsNotes}, Rule.{KeepsPool}, Untold.{IsActorOf}}
use Rattle.sh_pool_rule.proofs.{Allowed.{same_words, Pooled}, BesideLemmas.{beside_kept}, Changed.{longer_long, longer_second}, GatherLemmas.{set_twice}, SettleLemmas.{settle_kept}}
use Rattle.sh_pool_rule.proofs.{JoinLemmas.{in_either, joined_with, joining_kept}, NoteLemmas.{cards_on, front_more, front_on, front_same, AllKnow}, Relations.{none_in, one, only}}

-- ---- what a card says

in_order_high : (low : ℕ) (ds : List Done) (high : ℕ) → AreInOrder low ds high → low ≤ high
in_order_high low [] high h = h
in_order_high low (d ∷ ds) high h = let r = in_order_high (d.point + made d.call d.reply) ds high h.2 in let a = h.0 in let b = h.1 in omega (arith, r, a, b)

points_within : (low : ℕ) (ds : List Done) (high n : ℕ) → AreInOrder low ds high → high ≤ n → AllByRecursion (λ (d : Done). d.point + made d.call d.reply ≤ n) ds
points_within low [] high n h le = tt
points_within low (d ∷ ds) high n h le = ((let q = in_order_high (d.point + made d.call d.reply) ds high h.2 in omega (arith, q, le)), points_within (d.point + made d.call d.reply) ds high n h.2 le)

lengths_within : (noted : ℕ → Card) (seen : List Entry) (cs : List Card) → AllByRecursion (IsCard noted seen) cs → AllByRecursion (λ (l : ℕ). l ≤ length seen) (lengths_of cs)
lengths_within noted seen [] h = tt
lengths_within noted seen (c ∷ cs) h = (h.0.within, lengths_within noted seen cs h.1)

within_more : (c : Card) (m n : ℕ) → m ≤ n → IsCardWithin m c → IsCardWithin n c
within_more c m n le h = search (rules, all_weaker)

-- ---- a note is made: its seat has noted this last

module _ (p : ConfigParts) (words : List ℕ) (views : List PassView) (r : KeepsPool p words views) (id : ℕ) (v : PassView) (at : get_elem? views id ≡ some v) (a : Actor) (members : v.members ≡ member (view_seat v) a ∷ []) (alone : v.pasts ≡ []) where
  abbrev k : ℕ
  k = view_seat v

  abbrev card : Card
  card = card_of a v

  mine : In (member k a) v.members
  mine = subst (In (member k a)) (sym members) (one k a)

  abbrev noted : ℕ → Card
  noted j = if j == k then card else r.noted j

  noted_here : (j : ℕ) → j ≡ k → noted j ≡ card
  noted_here j e = ap (λ (t : Bool). if t then card else r.noted j) (eq-eqb j k e)

  noted_else : (j : ℕ) → j ≢ k → r.noted j ≡ noted j
  noted_else j ne = sym (ap (λ (t : Bool). if t then card else r.noted j) (ne_eqb j k ne))

  grows : (j : ℕ) → IsFront (r.noted j).dones (noted j).dones × IsFront (r.noted j).learnt (noted j).learnt
  grows j = dite (ℕ_discrete j k)
      (λ (e : j ≡ k). let h = r.notes id v at in subst (λ (c : Card). IsFront (r.noted j).dones c.dones × IsFront (r.noted j).learnt c.learnt) (sym (noted_here j e))
      (subst (λ (i : ℕ). IsFront (r.noted i).dones a.dones × IsFront (r.noted i).learnt (lengths_of v.cards)) (sym e) (h.dones k a mine, h.own alone k a mine)))
      (λ (ne : j ≢ k). subst (λ (c : Card). IsFront (r.noted j).dones c.dones × IsFront (r.noted j).learnt c.learnt) (noted_else j ne) (front_same (r.noted j).dones, front_same (r.noted j).learnt))

  card_grows : (seen : List Entry) (c : Card) → IsCard r.noted seen c → IsCard noted seen c
  card_grows seen c h = let g = grows c.seat in record { dones = front_more c.dones (r.noted c.seat).dones (noted c.seat).dones h.dones g.0; learnt = front_more c.learnt (r.noted c.seat).learnt (noted c.seat).learnt h.learnt g.1; holds = h.holds; begins = h.begins; within = h.within }

  cards_grow : (seen : List Entry) (cs : List Card) → AllByRecursion (IsCard r.noted seen) cs → AllByRecursion (IsCard noted seen) cs
  cards_grow seen cs h = all_weaker (IsCard r.noted seen) (IsCard noted seen) cs (card_grows seen) h

  -- a view has the seat's actor, or none of its actors is
  knows_still : (u : PassView) → KnowsNotes r.noted u → ((j : ℕ) (b : Actor) → In (member j b) u.members → j ≢ k) → KnowsNotes noted u
  knows_still u h others = record {
    cards = cards_grow u.seen u.cards h.cards;
    dones = λ j b m. subst (λ (c : Card). IsFront c.dones b.dones) (noted_else j (others j b m)) (h.dones j b m);
    own = λ e j b m. subst (λ (c : Card). IsFront c.learnt (lengths_of u.cards)) (noted_else j (others j b m)) (h.own e j b m);
    pasts = all_weaker (IsPast r.noted u.members) (IsPast noted u.members) u.pasts (λ g q. record { actor = q.actor; here = q.here; own = subst (λ (c : Card). IsFront c.learnt (lengths_of g.cards)) (noted_else g.seat (others g.seat q.actor q.here)) q.own; cards = cards_grow g.seen g.cards q.cards }) h.pasts;
  }

  all_know : AllKnow noted views
  all_know = λ i u e. dite (ℕ_discrete i id)
      (λ (q : i ≡ id). subst (KnowsNotes noted) (same_at views id v u at (ap (get_elem? views) (sym q) ∙ e)) (search (rules, cards_grow, only, noted_here, front_same)))
      (λ (ne : i ≢ id). knows_still u (r.notes i u e) (λ j b m same. ne (sym ((r.each i u e).here j b m).0 ∙ ap r.home same ∙ ((r.each id v at).here k a mine).0)))

  note_known : KnowsNotes noted (note_view a v)
  note_known =
      let answers = calls_are_answered p words r.log _ _ k a r.inv (id, v, at, mine) in
      let first = answers.first in
      let le = ((r.each id v at).here k a mine).1 in
      let is : noted k ≡ card = noted_here k refl in
      record {
        cards = (
          record {
            dones = subst (λ (c : Card). IsFront a.dones c.dones) (sym is) (front_same a.dones);
            learnt = subst (λ (c : Card). IsFront card.learnt c.learnt) (sym is) (front_same card.learnt);
            holds = record { points = points_within 0 a.dones a.first (length v.seen) answers.ordered (omega (arith, first, le)); lengths = lengths_within r.noted v.seen v.cards (r.notes id v at).cards };
            begins = front_same v.seen;
            within = omega arith;
          },
          tt,
        );
        dones = λ j b m. absurd (none_in (member j b) m);
        own = λ e j b m. absurd (none_in (member j b) m);
        pasts = tt;
      }

  pub noting_kept : KeepsPool p words (views ++ note_view a v ∷ [])
  noting_kept =
      let known = r.each id v at in
      let r' : KeepsPool p words views = record { ok = r.ok; log = r.log; inv = r.inv; top = r.top; home = r.home; bearer = r.bearer; even = r.even; each = r.each; noted = noted; notes = all_know } in
      beside_kept p words views r' (note_view a v) refl refl (refl, refl) known.begins tt note_known

pub noting : (p : ConfigParts) (id : ℕ) (v : PassView) (a : Actor) (tale : Tale) → IsActorOf p v a → Splits (Pooled p) id v (told_view a tale v) (note_view a v)
noting p id v a tale asks s r at =
    let told : PassView = told_view a tale v in
    noting_kept p s.words (set s.views id told) (settle_kept p s.words s.views r id v at a asks tale) id told (set_here s.views id told (at_lt s.views id v at)) a refl asks.alone

-- ---- a note is learnt

lengths_append : (cs ds : List Card) → lengths_of (cs ++ ds) ≡ lengths_of cs ++ lengths_of ds
lengths_append [] ds = refl
lengths_append (c ∷ cs) ds = ap (λ (ns : List ℕ). c.seen ∷ ns) (lengths_append cs ds)

cards_move : (noted : ℕ → Card) (xs ys : List Entry) (cs : List Card) → Begins xs ys → length xs ≤ length ys → AllByRecursion (IsCard noted xs) cs → AllByRecursion (IsCard noted ys) (moved_cards (length ys) cs)
cards_move noted xs ys [] b le h = tt
cards_move noted xs ys (c ∷ cs) b le h = (
  record { dones = h.0.dones; learnt = h.0.learnt; holds = (let w = within_more c c.seen (length ys) (let q = h.0.within in omega (arith, q, le)) h.0.holds in record { points = w.points; lengths = w.lengths }); begins = front_more c.saw xs ys h.0.begins b; within = omega arith },
  cards_move noted xs ys cs b le h.1,
)

-- a view of a note: it has no seat, and is no right
pub record IsNoteView (w : PassView) : Type 0 where
  pub members : w.members ≡ []
  pub right : w.right ≡ None
  pub counts : (w.gave ≡ 0) × (w.took ≡ 0)

module _ (noted : ℕ → Card) (v w : PassView) (k : ℕ) (a : Actor) (members : v.members ≡ member k a ∷ []) (alone : v.pasts ≡ []) (bare : IsNoteView w) (h : KnowsNotes noted v) (l : KnowsNotes noted w) (b : Begins w.seen (longer v.seen w.seen)) where
  abbrev joint : List Entry
  joint = longer v.seen w.seen

  abbrev cs : List Card
  cs = v.cards ++ moved_cards (length joint) w.cards

  old : (j : ℕ) (c : Actor) → In (member j c) (v.members ++ w.members) → In (member j c) v.members
  old j c m = ⊎_elim (λ t. t) (λ (t : In (member j c) w.members). absurd (none_in (member j c) (subst (In (member j c)) bare.members t))) (in_either (member j c) v.members w.members m)

  learnt_known : KnowsNotes noted (joined_with v w v.pasts cs)
  learnt_known = record {
    cards = all_join (IsCard noted joint) v.cards (moved_cards (length joint) w.cards) (cards_on noted v.seen joint v.cards (drop (length v.seen) w.seen, refl) h.cards) (cards_move noted w.seen joint w.cards b (longer_long v.seen w.seen).1 l.cards);
    dones = λ j c m. h.dones j c (old j c m);
    own = λ e j c m. subst (IsFront (noted j).learnt) (sym (lengths_append v.cards (moved_cards (length joint) w.cards))) (front_on (noted j).learnt (lengths_of v.cards) (lengths_of (moved_cards (length joint) w.cards)) (h.own alone j c (old j c m)));
    pasts = subst (AllByRecursion (IsPast noted (v.members ++ w.members))) (sym alone) tt;
  }

pub learning : (p : ConfigParts) (id : ℕ) (v : PassView) (a : Actor) (tale : Tale) (other : ℕ) (w : PassView) → IsActorOf p v a → IsNoteView w → Joins (Pooled p) id v other w (learnt_view a tale v w) empty_view
learning p id v a tale other w asks bare s r at apart there =
    let told : PassView = told_view a tale v in
    let cs : List Card = v.cards ++ moved_cards (length (longer v.seen w.seen)) w.cards in
    let new : PassView = joined_with told w v.pasts cs in
    let views : List PassView = set s.views id told in
    let k : KeepsPool p s.words views = settle_kept p s.words s.views r id v at a asks tale in
    let told_at : get_elem? views id ≡ some told = set_here s.views id told (at_lt s.views id v at) in
    let other_at : get_elem? views other ≡ some w = set_else s.views id other told apart ∙ sym (set_else s.views id other (learnt_view a tale v w) apart) ∙ there in
    let mine = k.each id told told_at in
    let others = k.each other w other_at in
    let b : Begins w.seen (longer v.seen w.seen) = longer_second v.seen w.seen k.log mine.begins others.begins in
    subst (λ (x : PassView). KeepsPool p s.words (set (set s.views id x) other empty_view)) (search rules)
    (subst (λ (vs : List PassView). KeepsPool p s.words (set vs other empty_view)) (set_twice s.views id told new)
    (joining_kept p s.words views k id told told_at other w apart v.pasts cs (set_else views id other new apart ∙ other_at) bare.right mine.pasts
    (learnt_known k.noted told w (view_seat v) a refl asks.alone bare (k.notes id told told_at) (k.notes other w other_at) b)))

-- ---- what a view is told of its cards: it has seen what their makers had

set_same : (views : List PassView) (id : ℕ) (v : PassView) → get_elem? views id ≡ some v → set views id v ≡ views
set_same [] id v e = refl
set_same (x ∷ xs) zero v e = ap (λ (y : PassView). y ∷ xs) (sym (some-injective x v e))
set_same (x ∷ xs) (suc i) v e = ap (λ (ys : List PassView). x ∷ ys) (set_same xs i v e)

pub telling : (p : ConfigParts) (slots id word : ℕ) (me : Me (Unit {0}) PassView) → Allows (Pooled p) slots id me word (λ n. n) (λ n now. (now ≡ me) × AllByRecursion (λ (c : Card). Begins c.saw me.0.seen) me.0.cards)
telling p slots id word me s r homes at small =
    let h = r.notes id me.0 at in (
      me.0,
      keeps,
      tt,
      subst (λ (z : List ℕ × List PassView). KeepsPool p z.0 z.1) (λ i. (sym (same_words s.words word) i, sym (set_same s.views id me.0 at) i)) r,
      (refl, all_weaker (IsCard r.noted me.0.seen) (λ (c : Card). Begins c.saw me.0.seen) me.0.cards (λ c q. q.begins) h.cards),
    )
