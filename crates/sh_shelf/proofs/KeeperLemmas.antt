-- What a keeper's offers are, as they are made and published.
use Rattle.std.proofs.Common.{◌≡◌, ◌≤◌, ℕ, List, [], ◌∷◌, ◌++◌, refl, sym, subst, ◌∙◌, ap, append_assoc, append-nil, fold, length, arith}
use Rattle.std.proofs.lemmas.List.Sorted.{IsPermutation-refl, IsNonDecreasingBy-short}
use Rattle.std.specs.Prelude.{IsOk, MatchResult, Result, Ok, Err}
use mathlib.Core.Bool.{false≢true}
use Rattle.logbook.specs.Pages.{Named}
use Rattle.sh_image.specs.Inner.{Inner}
use Rattle.sh_cache.specs.Cached.{kept}
use Rattle.sh_shelf.specs.Shelf.{shelf_of}
use Rattle.sh_shelf.specs.Book.{Fronted, head_of}
use Rattle.sh_shelf.specs.Racked.{Racked, Offering, IsShown, IsAfter, Follows, with_offer, routes_in}
use Rattle.sh_shelf.specs.Held.{IsCopy, IsKeeper, IsRisen}
use Rattle.sh_shelf.proofs.{RowLemmas.{length_shelf, shelf_more}, RuleLemmas.{fresh_shown}}

abbrev with_log : Fronted → List Inner → Fronted
with_log f log = record { book = f.book; log = log }

pub routes_push : (os : List Offering) (o : Offering) → routes_in (os ++ o ∷ []) ≡ routes_in os ++ o.route ∷ []
routes_push [] o = refl
routes_push (p ∷ os) o = ap (λ l. p.route ∷ l) (routes_push os o)

follows_push : (f : Fronted) (os : List Offering) (o : Offering) → Follows f os → o.front ≡ with_log f ((f.log ++ routes_in os) ++ o.route ∷ []) → Follows f (os ++ o ∷ [])
follows_push f [] o h e = (e ∙ ap (λ l. with_log f (l ++ o.route ∷ [])) (append-nil f.log), tt)
follows_push f (p ∷ os) o h e =
    let s : with_log f ((f.log ++ p.route ∷ routes_in os) ++ o.route ∷ []) ≡ with_log p.front ((p.front.log ++ routes_in os) ++ o.route ∷ []) =
    ap (λ l. with_log f (l ++ o.route ∷ [])) (sym (append_assoc f.log (p.route ∷ []) (routes_in os))) ∙ ap (λ (g : Fronted). with_log g ((g.log ++ routes_in os) ++ o.route ∷ [])) (sym h.0) in
    (h.0, follows_push p.front os o h.1 (e ∙ s))

module _ (head : Named) (front : Fronted) (x : Racked) (logged waiting : List Offering) (r : Inner) where
  abbrev next : Fronted
  next = with_log front (front.log ++ r ∷ [])

  abbrev made : Offering
  made = record { route = r; front = next }

  pub keeper_push : IsKeeper head front x logged waiting → IsKeeper head next x logged (waiting ++ made ∷ [])
  keeper_push h =
      let os = logged ++ waiting in
      let all : logged ++ (waiting ++ made ∷ []) ≡ os ++ made ∷ [] = sym (append_assoc logged waiting (made ∷ [])) in
      let e : next ≡ with_log x.front ((x.front.log ++ routes_in os) ++ r ∷ []) = ap (λ (g : Fronted). with_log g (g.log ++ r ∷ [])) h.whole in
      record {
        head_is = h.head_is;
        shown = h.shown;
        follows = subst (Follows x.front) (sym all) (follows_push x.front os made h.follows e);
        whole = e ∙ ap (with_log x.front) (append_assoc x.front.log (routes_in os) (r ∷ []) ∙ ap (λ l. x.front.log ++ l) (sym (ap routes_in all ∙ routes_push os made)));
      }

  pub pending_push : routes_in (logged ++ (waiting ++ made ∷ [])) ≡ routes_in (logged ++ waiting) ++ r ∷ []
  pending_push = ap routes_in (sym (append_assoc logged waiting (made ∷ []))) ∙ routes_push (logged ++ waiting) made

-- what the offers leave, one after another
pub after : (x : Racked) (os : List Offering) (y : Racked) → IsShown x → Follows x.front os → y ≡ fold with_offer x os → IsAfter x os y
after x [] y shown h is = subst (IsAfter x []) (sym is) (record { shown = shown; same = record { room = refl; book = refl }; log = ap (with_log x.front) (sym (append-nil x.front.log)) })
after x (o ∷ os) y shown h is =
    let x' : Racked = with_offer x o in
    let log : o.front.log ≡ x.front.log ++ o.route ∷ [] = ap (λ (f : Fronted). f.log) h.0 in
    let book : o.front.book ≡ x.front.book = ap (λ (f : Fronted). f.book) h.0 in
    let shown' : IsShown x' = record { rows = ap (λ l. kept x.room l o.route) shown.rows ∙ (sym (shelf_more x.room x.front.log o.route) ∙ ap (shelf_of x.room) (sym log)) } in
    let rest = after x' os y shown' h.1 is in
    record {
      shown = rest.shown;
      same = record { room = rest.same.room; book = sym book ∙ rest.same.book };
      log = rest.log ∙ (ap (λ (f : Fronted). with_log f (f.log ++ routes_in os)) h.0 ∙ ap (with_log x.front) (append_assoc x.front.log (o.route ∷ []) (routes_in os)));
    }

pub of_ok : {T E : Type 0} (r : Result T E) (A B : Type 0) → IsOk r → MatchResult r (λ _. A) (λ _. B) → A
of_ok (Ok u) A B h m = m
of_ok (Err e) A B h m = absurd (false≢true h)

-- nothing was offered yet
module _ (room : ℕ) (front : Fronted) (none : front.log ≡ []) where
  pub empty_copy : (capacity : ℕ) → room ≤ capacity → IsCopy room capacity [] front
  empty_copy capacity h = record { reserved = h; rows_are = (fresh_shown room front none).rows }

  pub fresh_keeper : (head : Named) → head ≡ head_of front.book → IsKeeper head front (record { room = room; rows = []; front = front }) [] []
  fresh_keeper head h = record { head_is = h; shown = fresh_shown room front none; follows = tt; whole = ap (with_log front) (sym (append-nil front.log)) }

pub fresh_risen : (room capacity : ℕ) (front : Fronted) → room ≤ capacity → IsRisen (record { room = room; rows = []; front = front }) capacity []
fresh_risen room capacity front h = record { reserved = h; is = record { same = IsPermutation-refl []; rises = IsNonDecreasingBy-short (λ (r : Inner). r.low) [] (omega arith) } }

-- there is room for the rows that offers leave
pub fits : (was x y : Racked) (offers : List Offering) (capacity : ℕ) (rows : List Inner) → x ≡ was → IsAfter x offers y → was.room ≤ capacity → rows ≡ y.rows → length rows ≤ capacity
fits was x y offers capacity rows e h reserved is =
    let here : length rows ≡ length (shelf_of y.room y.front.log) = ap length (is ∙ h.shown.rows) in
    let room : was.room ≡ y.room = sym (ap (λ (z : Racked). z.room) e) ∙ h.same.room in
    omega (arith, here, room, reserved, length_shelf y.room y.front.log)
