-- What views know of notes, as views change.
use Rattle.std.proofs.Common.{rules, ◌≡◌, ◌≢◌, ℕ, Bool, true, false, None, List, [], ◌∷◌, ◌++◌, length, set, refl, ap, sym, ◌∙◌, subst, ⊎_elim, arith, append-nil, append_assoc}
use Rattle.std.specs.{Prelude.{if◌then◌else◌}, List.{AllByRecursion}}
use mathlib.Core.Option.{some}
use lib.ListN.{get_elem?}
use Rattle.atomic_table.proofs.Lists.{at_set}
use Rattle.sh_base.specs.declared.config.ConfigParts.{ConfigParts}
use Rattle.sh_logic.proofs.Lists.{all_weaker}
use Rattle.sh_map.specs.declared.{log.Entry.{Entry}}
use Rattle.sh_client.specs.{Machine.{Machine}, Feeds.{fed_by, turned_by}, Giving.{makes}, Rests.{has_ended}}
use Rattle.sh_core.specs.Actors.{Actor, actor_going, becomes, done_of, ending}
use Rattle.sh_pool_rule.specs.{declared.view.{Card.{Card}, PassView.{PassView}}, Views.{empty_view, member, own, view_seat, Begins, In}, Rights.{lengths_of}, Notes.{IsCard, IsFront, IsPast, KnowsNotes}}
use Rattle.sh_pool_rule.specs.Untold.{UntoldTurn, CallBegun, WordAnswered, TurnServed, caught_up, untold_after, IsActorOf}
use Rattle.sh_pool_rule.proofs.{Changed.{at_length}, Relations.{begins_length, none_in, one, only}}

pub front_same : {A : Type 0} (xs : List A) → IsFront xs xs
front_same xs = ([], sym (append-nil xs))

pub front_on : {A : Type 0} (xs ys more : List A) → IsFront xs ys → IsFront xs (ys ++ more)
front_on {A} xs ys more h = (h.0 ++ more, ap (λ (zs : List A). zs ++ more) h.1 ∙ append_assoc xs h.0 more)

pub front_more : {A : Type 0} (xs ys zs : List A) → IsFront xs ys → IsFront ys zs → IsFront xs zs
front_more xs ys zs h l = subst (IsFront xs) (sym l.1) (front_on xs ys l.0 h)

-- ---- ended calls only become more

becomes_dones : (k : ℕ) (a : Actor) (log more : List Entry) (m : Machine) (t : Bool) → IsFront a.dones (if t then ending k a log m else actor_going a log more m).dones
becomes_dones k a log more m true = (done_of k a log m ∷ [], refl)
becomes_dones k a log more m false = front_same a.dones

pub turn_dones : (k : ℕ) (a : Actor) (log more : List Entry) (m : Machine) → IsFront a.dones (becomes k a log more m).dones
turn_dones k a log more m = becomes_dones k a log more m (has_ended m.phase)

after_dones : (k : ℕ) (seen : List Entry) (a : Actor) (u : UntoldTurn) → IsFront a.dones (untold_after k seen a u).dones
after_dones k seen a (CallBegun call) = front_same a.dones
after_dones k seen a (WordAnswered word) = turn_dones k a seen (makes a.client) (fed_by a.client word)
after_dones k seen a TurnServed = turn_dones k a seen [] (turned_by a.client None)

caught_dones : (k : ℕ) (seen : List Entry) (a : Actor) (us : List UntoldTurn) → IsFront a.dones (caught_up k seen a us).dones
caught_dones k seen a [] = front_same a.dones
caught_dones k seen a (u ∷ us) = front_more a.dones (untold_after k seen a u).dones (caught_up k seen a (u ∷ us)).dones (after_dones k seen a u) (caught_dones k seen (untold_after k seen a u) us)

pub asked_dones : (p : ConfigParts) (v : PassView) (a : Actor) → IsActorOf p v a → IsFront (own v).dones a.dones
asked_dones p v a asks = subst (λ (b : Actor). IsFront (own v).dones b.dones) (sym asks.is) (caught_dones (view_seat v) v.seen (own v) asks.turns)

-- ---- cards

pub card_on : (noted : ℕ → Card) (xs ys : List Entry) (c : Card) → Begins xs ys → IsCard noted xs c → IsCard noted ys c
card_on noted xs ys c b h = record { dones = h.dones; learnt = h.learnt; holds = h.holds; begins = front_more c.saw xs ys h.begins b; within = (let l = begins_length xs ys b in let w = h.within in omega (arith, l, w)) }

pub cards_on : (noted : ℕ → Card) (xs ys : List Entry) (cs : List Card) → Begins xs ys → AllByRecursion (IsCard noted xs) cs → AllByRecursion (IsCard noted ys) cs
cards_on noted xs ys cs b h = all_weaker (IsCard noted xs) (IsCard noted ys) cs (λ c l. card_on noted xs ys c b l) h

-- ---- views

-- a view with no actor and no card
pub bare_notes : (noted : ℕ → Card) (w : PassView) → w.cards ≡ [] → w.members ≡ [] → w.pasts ≡ [] → KnowsNotes noted w
bare_notes noted w cards members pasts = search (rules, none_in)

-- the view of a pass, behind its turn
pub notes_on : (noted : ℕ → Card) (k : ℕ) (v w : PassView) (a b : Actor) → v.members ≡ member k a ∷ [] → v.pasts ≡ [] → w.members ≡ member k b ∷ [] → w.pasts ≡ v.pasts → w.cards ≡ v.cards → IsFront a.dones b.dones → Begins v.seen w.seen → KnowsNotes noted v → KnowsNotes noted w
notes_on noted k v w a b is none now same cards grows seen h =
    let mine : In (member k a) v.members = subst (In (member k a)) (sym is) (one k a) in
    record {
      cards = subst (AllByRecursion (IsCard noted w.seen)) (sym cards) (cards_on noted v.seen w.seen v.cards seen h.cards);
      dones = λ j c m. let o = only k j b c (subst (In (member j c)) now m) in subst (λ (q : ℕ × Actor). IsFront (noted q.0).dones q.1.dones) (λ z. (sym o.0 z, sym o.1 z)) (front_more (noted k).dones a.dones b.dones (h.dones k a mine) grows);
      own = λ e j c m. let o = only k j b c (subst (In (member j c)) now m) in subst (λ (q : ℕ × List Card). IsFront (noted q.0).learnt (lengths_of q.1)) (λ z. (sym o.0 z, sym cards z)) (h.own none k a mine);
      pasts = subst (AllByRecursion (IsPast noted w.members)) (sym (same ∙ none)) tt;
    }

abbrev pub AllKnow : (noted : ℕ → Card) → List PassView → Type 0
AllKnow noted views = (i : ℕ) (u : PassView) → get_elem? views i ≡ some u → KnowsNotes noted u

pub notes_set : (noted : ℕ → Card) (views : List PassView) (id : ℕ) (w : PassView) → AllKnow noted views → KnowsNotes noted w → AllKnow noted (set views id w)
notes_set noted views id w all h = λ i u e. ⊎_elim (λ (t : (i ≡ id) × (w ≡ u)). subst (KnowsNotes noted) t.1 h) (λ (t : (i ≢ id) × (get_elem? views i ≡ some u)). all i u t.1) (at_set views id i w u e)

pub notes_snoc : (noted : ℕ → Card) (views : List PassView) (w : PassView) → AllKnow noted views → KnowsNotes noted w → AllKnow noted (views ++ w ∷ [])
notes_snoc noted views w all h = λ i u e. ⊎_elim (λ (t : get_elem? views i ≡ some u). all i u t) (λ (t : (i ≡ length views) × (w ≡ u)). subst (KnowsNotes noted) t.1 h) (at_length views w i u e)

-- a view is spent
pub notes_spent : (noted : ℕ → Card) (views : List PassView) (id : ℕ) → AllKnow noted views → AllKnow noted (set views id empty_view)
notes_spent noted views id all = notes_set noted views id empty_view all (bare_notes noted empty_view refl refl refl)
