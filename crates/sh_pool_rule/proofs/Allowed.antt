-- An event on the table of words keeps its rule.
use Rattle.std.proofs.Common.{rules, ◌≡◌, ◌≢◌, ℕ, zero, suc, ◌≤◌, false, List, [], ◌∷◌, ◌++◌, length, set, refl, ap, sym, subst, ⊎_elim, append-nil, arith}
use Rattle.std.specs.Prelude.{slice_index, slice_set}
use mathlib.Core.Option.{some}
use lib.ListN.{get_elem?}
use Rattle.atomic_table.{specs.Table.{State, Me, Allows, keeps}, proofs.Lists.{at_set, set_here}}
use Rattle.sh_base.specs.{declared.{config.ConfigParts.{ConfigParts}, event.Event.{Event}}, Memory.{apply, found_by, at_of}}
use Rattle.sh_map.specs.{declared.log.Entry.{Entry}, Log.{IsLegal}}
use Rattle.sh_client.specs.declared.state.Want.TheVariants as want
use Rattle.sh_client.specs.{Feeds.{fed_by}, Giving.{makes}, Wants.{want_of}}
use Rattle.sh_core.specs.{Actors.{Actor, actor_stepped}, Core.{Inv, Moves}}
use Rattle.sh_core_turns.{specs.Senses.{is_senseless}, proofs.{Senses.{never_senseless}, Turns.{turn_keeps}}}
use Rattle.sh_core_says.{specs.Books.{HasAnswers}, proofs.{Books.{calls_are_answered}, Moments.{each_moment}}}
use Rattle.sh_local.proofs.Sums.{at_lt}
use Rattle.sh_pool_rule.specs.{declared.view.PassView.{PassView}, Views.{Has, In, Out, member, own, view_seat, Tale}, Untold.{IsActorOf, StaysAnswered}}
use Rattle.sh_pool_rule.specs.Rule.{KnowsLog, KeepsPool, TookEvent, EventMoment, event_view, word_left, word_told}
use Rattle.sh_pool_rule.proofs.{NoteLemmas.{asked_dones, front_more, notes_on, notes_set, turn_dones}, Relations.{all_begin_on, begins_on, counts_set, moves_at, one, only, out_from, out_to, rights_same}, Staying.{stays}, Untold.{catches_up}}

abbrev pub Pooled : ConfigParts → State (Unit {0}) PassView → Type 0
Pooled p s = KeepsPool p s.words s.views

-- what a view knows, on a longer log
pub knows_on : (log more : List Entry) (home bearer : ℕ → ℕ) (id : ℕ) (v : PassView) → KnowsLog log home bearer id v → KnowsLog (log ++ more) home bearer id v
knows_on log more home bearer id v old = record { begins = begins_on v.seen log more old.begins; pasts = all_begin_on log more v.pasts old.pasts; here = old.here; right = old.right; idle = old.idle }

-- what is told of the actor that makes the event, behind it and before
record Turned (p : ConfigParts) (words : List ℕ) (log : List Entry) (Now : ℕ → Actor → Type 0) (Out' : ℕ → ℕ → ℕ → Type 0) (a : Actor) (word : ℕ) : Type 0 where
  pub inv : Inv p words log Now Out'
  pub sense : is_senseless a.client word ≡ false
  pub setting : a.client.setting ≡ p

pub turn_kept : (p : ConfigParts) (words : List ℕ) (views : List PassView) (r : KeepsPool p words views) (id : ℕ) (v : PassView) (a : Actor) (e : Event) (tale : Tale) → get_elem? views id ≡ some v → IsActorOf p v a → want_of a.client ≡ want.Event e
    → (w : PassView) × KeepsPool p (apply words e) (set views id w) × TookEvent a tale v (found_by words e) w
turn_kept p words views r id v a e tale at asks wants =
    let k : ℕ = view_seat v in
    let word : ℕ = found_by words e in
    let b : Actor = actor_stepped k a r.log word in
    let more : List Entry = makes a.client in
    let log : List Entry = r.log ++ more in
    let w : PassView = event_view a tale v r.log word in
    let views' : List PassView = set views id w in
    let known : KnowsLog r.log r.home r.bearer id v = r.each id v at in
    let mine : In (member k (own v)) v.members = subst (In (member k (own v))) (sym asks.here) (one k (own v)) in
    let place = known.here k (own v) mine in
    let Now : ℕ → Actor → Type 0 = Has views' in
    let mv : Moves (Has views) k b Now = moves_at views id k v w (own v) b r.home (λ i u q j c h. ((r.each i u q).here j c h).0) at asks.here refl in
    let t : Turned p (apply words e) log Now (Out views) a word = catches_up p r.ok words r.log (Out views) k v.seen known.begins Now b (Turned p (apply words e) log Now (Out views) a word) asks.turns (Has views) (own v) r.inv (id, v, at, mine) place.1 asks.may mv
    (λ Then i h le m. let h' : Then k a = subst (Then k) (sym asks.is) h in record {
      inv = turn_keeps p r.ok words r.log Then Now (Out views) k a e i h' wants m;
      sense = never_senseless p r.ok words r.log Then (Out views) k a e i h' wants;
      setting = (i.kept k a h').work.seated.setting_is;
    }) in
    let now : Inv p (apply words e) log Now (Out views') = rights_same p (apply words e) log Now (Out views) (Out views') t.inv (out_to views id v w at refl) (out_from views id v w at refl) in
    let answers : HasAnswers log k b = calls_are_answered p (apply words e) log Now (Out views') k b now mv.here in
    let knows : KnowsLog log r.home r.bearer id w = record {
      begins = ([], sym (append-nil log));
      pasts = all_begin_on r.log more v.pasts known.pasts;
      here = λ j c i. let o = only k j b c i in subst (λ (q : ℕ × Actor). (r.home q.0 ≡ id) × (q.1.seen ≤ length log)) (λ z. (sym o.0 z, sym o.1 z)) (place.0, answers.seen);
      right = known.right;
      idle = λ n. absurd (n (member k b) (one k b));
    } in
    let counts = counts_set views id v w 0 0 0 at (omega arith) (omega arith) (omega arith) in
    let kept : KeepsPool p (apply words e) views' = record {
      ok = r.ok;
      log = log;
      inv = now;
      top = record { id = id; view = w; at = set_here views id w (at_lt views id v at); whole = refl; some = member k b; live = one k b };
      home = r.home;
      bearer = r.bearer;
      even = let q = r.even in let g = counts.0 in let t = counts.1 in let o = counts.2 in omega (arith, q, g, t, o);
      each = λ i u q. ⊎_elim
          (λ (s : (i ≡ id) × (w ≡ u)). subst (λ (z : ℕ × PassView). KnowsLog log r.home r.bearer z.0 z.1) (λ z. (sym s.0 z, s.1 z)) knows)
          (λ (s : (i ≢ id) × (get_elem? views i ≡ some u)). knows_on r.log more r.home r.bearer i u (r.each i u s.1))
          (at_set views id i w u q);
      noted = r.noted;
      notes = notes_set r.noted views id w r.notes (notes_on r.noted k v w (own v) b asks.here asks.alone refl refl refl (front_more (own v).dones a.dones b.dones (asked_dones p v a asks) (turn_dones k a r.log more (fed_by a.client word))) (begins_on v.seen r.log more known.begins) (r.notes id v at));
    } in
    let moment : EventMoment p e word v w = record { words = words; views = views; id = id; at = at; before = r; after = kept; found = refl; holds = each_moment p (apply words e) log Now (Out views') now; legal = subst IsLegal now.log_is now.ground.legal } in (
      w,
      kept,
      record { event = e; wanted = wants; log = r.log; begins = known.begins; is = refl; sense = t.sense; answered = subst (λ (x : ConfigParts). StaysAnswered x k log b) (sym t.setting) (stays p r.ok (apply words e) log k Now (Out views') b now mv.here answers.seen); moment = subst (λ (x : ConfigParts). EventMoment x e word v w) (sym t.setting) moment },
    )

-- ---- the event as a step of the table

pub same_words : (xs : List ℕ) (i : ℕ) → slice_set xs i (slice_index xs i) ≡ xs
same_words [] i = refl
same_words (x ∷ xs) zero = refl
same_words (x ∷ xs) (suc i) = ap (λ (ys : List ℕ). x ∷ ys) (same_words xs i)

pub allows_turn : (p : ConfigParts) (slots id : ℕ) (me : Me (Unit {0}) PassView) (a : Actor) (e : Event) (tale : Tale) → IsActorOf p me.0 a → want_of a.client ≡ want.Event e
    → Allows (Pooled p) slots id me (at_of e) (word_left e) (λ n now. TookEvent a tale me.0 (word_told e n) now.0 × (now.1 ≡ me.1))
allows_turn p slots id me a e tale asks wants s r homes at small =
    let t = turn_kept p s.words s.views r id me.0 a e tale at asks wants in (
      t.0,
      keeps,
      tt,
      subst (λ (xs : List ℕ). KeepsPool p xs (set s.views id t.0)) (sym (search (rules, same_words))) t.1,
      (subst (λ (n : ℕ). TookEvent a tale me.0 n t.0) (sym (search rules)) t.2, refl),
    )
