-- One view, one line and one cell's value change, and the rule is kept.
use Rattle.std.proofs.Common.{rules, ◌≡◌, ◌≢◌, ℕ, zero, suc, ◌+◌, ◌<◌, ◌≤◌, Bool, true, Option, Some, List, [], ◌∷◌, ◌++◌, length, set, get_or, refl, ap, sym, ◌∙◌, subst, ⊎_elim, arith, eq-eqb}
use mathlib.Core.Option as maybe
use mathlib.Core.Option.{some, some-injective, some-ne-none}
use mathlib.Core.Logic.{dite}
use native.Mathlib.Decide.{ℕ_discrete}
use lib.ListN.{get_elem?}
use Rattle.atomic_table.proofs.Lists.{at_set, set_here, set_else}
use Rattle.sh_local.specs.declared.view.{Ticket.{Ticket}, ChairCall.{ChairCall}, View.{View}}
use Rattle.sh_local.specs.Calls.{ticket, weight_at_home, gave, took, drew_at, draws_of, turned_at, turns_of, below, total, given, taken, waits, out, or_none}
use Rattle.sh_local.specs.Lines.{Line, before, Seated, StandsInLine, AllStand, KnowsLine, HasTicket, HasTicketTurn, Queue, Kept}
use Rattle.sh_local.proofs.Sums.{total_set, total_snoc, put, put_here, put_else, at_put, same_at, at_lt}

pub length_set : {A : Type 0} (xs : List A) (i : ℕ) (a : A) → length (set xs i a) ≡ length xs
length_set [] i a = refl
length_set (x ∷ xs) zero a = refl
length_set (x ∷ xs) (suc i) a = ap suc (length_set xs i a)

-- what a step of the seat id leaves to the others
pub record Grows {T : Type 0} (id : ℕ) (old new : Line T) (h h' : maybe.Option (Option T)) : Type 0 where
  pub next : old.next ≤ new.next
  pub served : old.served ≤ new.served
  pub least : (n : ℕ) → old.served ≤ n → n < old.next → old.holder n ≢ id → (new.served ≤ n) × (new.holder n ≡ old.holder n)
  pub turn : (n : ℕ) → n < old.next → old.holder n ≢ id → n ≡ old.served → h ≡ maybe.none → (n ≡ new.served) × (h' ≡ maybe.none)
  pub left : (n : ℕ) → n < old.served → new.left n ≡ old.left n

module _ {T : Type 0} where
  before_same : (old new : ℕ → Option T) (m : ℕ) → ((n : ℕ) → n < m → new n ≡ old n) → before new m ≡ before old m
  before_same old new m h = search rules

  pub stand_on : (lines : ℕ → Line T) (id c : ℕ) (l : Line T) (h h' : maybe.Option (Option T)) → Grows id (lines c) l h h' → (a : ChairCall T) → StandsInLine lines a → StandsInLine (put lines c l) a
  stand_on lines id c l h h' g a s = search (rules, at_put, before_same)

  all_stand_on : (lines : ℕ → Line T) (id c : ℕ) (l : Line T) (h h' : maybe.Option (Option T)) → Grows id (lines c) l h h' → (xs : List (ChairCall T)) → AllStand lines xs → AllStand (put lines c l) xs
  all_stand_on lines id c l h h' g [] s = tt
  all_stand_on lines id c l h h' g (x ∷ xs) s = (stand_on lines id c l h h' g x s.0, all_stand_on lines id c l h h' g xs s.1)

  pub all_stand_append : (lines : ℕ → Line T) (xs ys : List (ChairCall T)) → AllStand lines xs → AllStand lines ys → AllStand lines (xs ++ ys)
  all_stand_append lines [] ys s t = t
  all_stand_append lines (x ∷ xs) ys s t = (s.0, all_stand_append lines xs ys s.1 t)

  seated_here : (lines : ℕ → Line T) (homes : List (maybe.Option (Option T))) (c : ℕ) (l : Line T) (h' : maybe.Option (Option T)) (i : ℕ) (t : Ticket) → c < length homes → t.cell ≡ c → Seated l (some h') i t
      → Seated (put lines c l t.cell) (get_elem? (set homes c h') t.cell) i t
  seated_here lines homes c l h' i t lt e s = search (rules, put, put_here, set_here)

  seated_else : (lines : ℕ → Line T) (homes : List (maybe.Option (Option T))) (c : ℕ) (l : Line T) (h' : maybe.Option (Option T)) (i : ℕ) (t : Ticket) → t.cell ≢ c → Seated (lines t.cell) (get_elem? homes t.cell) i t
      → Seated (put lines c l t.cell) (get_elem? (set homes c h') t.cell) i t
  seated_else lines homes c l h' i t n s = search (rules, put_else, set_else)

  -- another seat's ticket
  seated_on : (lines : ℕ → Line T) (homes : List (maybe.Option (Option T))) (id c : ℕ) (l : Line T) (h h' : maybe.Option (Option T)) → Grows id (lines c) l h h' → get_elem? homes c ≡ some h → (i : ℕ) (t : Ticket) → i ≢ id
      → Seated (lines t.cell) (get_elem? homes t.cell) i t → Seated (put lines c l t.cell) (get_elem? (set homes c h') t.cell) i t
  seated_on lines homes id c l h h' g at i t ne s0 = search (rules, seated_here, at_lt, seated_else)

waits_one : (c n : ℕ) (b d : Bool) → waits c (Some (ticket c n b d)) ≡ 1
waits_one c n b d = rw (eq-eqb c c refl) refl

some_ticket : (s t : Ticket) → Some s ≡ Some t → s ≡ t
some_ticket s t e = ap or_none e

module _ {T K : Type 0} where
  knows_on : (key : K) (lines : ℕ → Line T) (homes : List (maybe.Option (Option T))) (id c : ℕ) (l : Line T) (h h' : maybe.Option (Option T)) → Grows id (lines c) l h h' → get_elem? homes c ≡ some h → (i : ℕ) (u : View T K) → i ≢ id
      → KnowsLine key lines homes i u → KnowsLine key (put lines c l) (set homes c h') i u
  knows_on key lines homes id c l h h' g at i u ne k = record {
    key_is = k.key_is;
    seated = λ t e. seated_on lines homes id c l h h' g at i t ne (k.seated t e);
    part = k.part;
    stand = all_stand_on lines id c l h h' g u.calls k.stand;
    nothing = k.nothing;
  }

  -- a view with no ticket for the cell c
  has_else : (views : List (View T K)) (id : ℕ) (v w : View T K) (c j n : ℕ) → get_elem? views id ≡ some v → out c v ≡ 0 → HasTicket views j c n → HasTicket (set views id w) j c n
  has_else views id v w c j n at none h9 = search (rules, set_else, same_at, waits_one)

  turn_else : (views : List (View T K)) (id : ℕ) (v w : View T K) (c j n : ℕ) → get_elem? views id ≡ some v → out c v ≡ 0 → HasTicketTurn views j c n → HasTicketTurn (set views id w) j c n
  turn_else views id v w c j n at none h9 = search (rules, set_else, same_at, waits_one)

  -- a view that keeps its ticket's number
  pub has_same : (views : List (View T K)) (id : ℕ) (v w : View T K) (t : Ticket) (b' d' : Bool) (c j n : ℕ) → get_elem? views id ≡ some v → v.ticket ≡ Some t → w.ticket ≡ Some (ticket t.cell t.number b' d') → HasTicket views j c n → HasTicket (set views id w) j c n
  has_same views id v w t b' d' c j n at has now (u, e, b, d, is) = dite (ℕ_discrete j id)
      (λ (q : j ≡ id).
      let same : u ≡ v = same_at views id u v (ap (get_elem? views) (sym q) ∙ e) at in
      let tick : t ≡ ticket c n b d = some_ticket t (ticket c n b d) (sym has ∙ ap (λ (x : View T K). x.ticket) (sym same) ∙ is) in
      (w, ap (get_elem? (set views id w)) q ∙ set_here views id w (at_lt views id v at), b', d', now ∙ ap (λ (x : Ticket). Some (ticket x.cell x.number b' d')) tick))
      (λ (q : j ≢ id). (u, set_else views id j w q ∙ e, b, d, is))

  pub turn_same : (views : List (View T K)) (id : ℕ) (v w : View T K) (t : Ticket) (d' : Bool) (c j n : ℕ) → get_elem? views id ≡ some v → v.ticket ≡ Some t → w.ticket ≡ Some (ticket t.cell t.number t.turn d') → HasTicketTurn views j c n → HasTicketTurn (set views id w) j c n
  turn_same views id v w t d' c j n at has now (u, e, d, is) = dite (ℕ_discrete j id)
      (λ (q : j ≡ id).
      let same : u ≡ v = same_at views id u v (ap (get_elem? views) (sym q) ∙ e) at in
      let tick : t ≡ ticket c n true d = some_ticket t (ticket c n true d) (sym has ∙ ap (λ (x : View T K). x.ticket) (sym same) ∙ is) in
      (w, ap (get_elem? (set views id w)) q ∙ set_here views id w (at_lt views id v at), d', now ∙ ap (λ (x : Ticket). Some (ticket x.cell x.number x.turn d')) tick))
      (λ (q : j ≢ id). (u, set_else views id j w q ∙ e, d, is))

  queue_else : (fits : ℕ → T → Type 0) (views : List (View T K)) (id : ℕ) (v w : View T K) (c : ℕ) (l l' : Line T) (a b a' b' : ℕ) (h : maybe.Option (Option T)) → get_elem? views id ≡ some v → out c v ≡ 0 → out c w ≡ 0 → ((n : ℕ) → turns_of c n w ≡ turns_of c n v) → l ≡ l' → a ≡ a' → b ≡ b'
      → Queue fits c l a b h views → Queue fits c l' a' b' h (set views id w)
  queue_else fits views id v w c l l' a b a' b' h at zv zw no_turns el ea eb q =
      let s = total_set (out c) views id v w at in
      let k = q.line in
      let now : Queue fits c l a b h (set views id w) = record {
        next_is = q.next_is;
        served_is = q.served_is;
        line = omega arith;
        each = λ n le lt. has_else views id v w c (l.holder n) n at zv (q.each n le lt);
        away = λ e. let y = q.away e in (y.0, turn_else views id v w c (l.holder l.served) l.served at zv y.1);
        value = q.value;
        kept = q.kept;
        turns = λ n. omega (arith, total_set (turns_of c n) views id v w at, no_turns n, q.turns n);
      } in
      subst (λ (p : Line T × ℕ × ℕ). Queue fits c p.0 p.1 p.2 h (set views id w)) (λ z. (el z, ea z, eb z)) now

pub more_of : {T K : Type 0} (f : ChairCall T → ℕ) (views : List (View T K)) (id : ℕ) (v w : View T K) (a : ChairCall T) → get_elem? views id ≡ some v → w.calls ≡ v.calls ++ a ∷ []
    → total (λ (x : View T K). total f x.calls) (set views id w) ≡ total (λ (x : View T K). total f x.calls) views + f a
more_of {T} {K} f views id v w a at calls = omega (arith, total_set (λ (x : View T K). total f x.calls) views id v w at, ap (total f) calls, total_snoc f v.calls a)

module _ {T K : Type 0} (fits : K → ℕ → T → Type 0) (key : K) (chairs : ℕ) where
  pub changes : (words words' : List ℕ) (homes : List (maybe.Option (Option T))) (views : List (View T K)) (r : Kept fits key chairs words homes views) (id : ℕ) (v w : View T K) (c : ℕ) (l : Line T) (h h' : maybe.Option (Option T)) (a : ChairCall T)
      → get_elem? views id ≡ some v → get_elem? homes c ≡ some h → length words' ≡ length words
      → ((d : ℕ) → d ≢ c → d < length homes → (get_or words' d 0 ≡ get_or words d 0) × (get_or words' (length homes + d) 0 ≡ get_or words (length homes + d) 0))
      → ((d : ℕ) → d ≢ c → (out d v ≡ 0) × (out d w ≡ 0))
      → Queue (fits key) c l (get_or words' c 0) (get_or words' (length homes + c) 0) h' (set views id w)
      → Grows id (r.lines c) l h h'
      → w.key ≡ v.key → w.parts ≡ v.parts → 1 ≤ v.parts → w.calls ≡ v.calls ++ a ∷ [] → StandsInLine (put r.lines c l) a
      → ((t : Ticket) → w.ticket ≡ Some t → (t.cell ≡ c) × Seated l (some h') id t)
      → gave a + weight_at_home h ≡ took a + weight_at_home h' → ((n : ℕ) → below n l.next ≡ below n (r.lines c).next + drew_at c n a) → ((d n : ℕ) → d ≢ c → (drew_at d n a ≡ 0) × (turned_at d n a ≡ 0))
      → Kept fits key chairs words' (set homes c h') (set views id w)
  changes words words' homes views r id v w c l h h' a at home long same apart queue grows keys parts some_part calls stands tickets balance draws no_draws =
      let old = r.known id v at in
      let knows : KnowsLine key (put r.lines c l) (set homes c h') id w = record {
        key_is = λ k e. old.key_is k (sym keys ∙ e);
        seated = λ t e. let y = tickets t e in seated_here r.lines homes c l h' id t (at_lt homes c h home) y.0 y.1;
        part = λ t e. omega (arith, parts, some_part);
        stand = subst (AllStand (put r.lines c l)) (sym calls) (all_stand_append (put r.lines c l) v.calls (a ∷ []) (all_stand_on r.lines id c l h h' grows v.calls old.stand) (stands, tt));
        nothing = λ e. absurd (omega (arith, e, parts, some_part));
      } in
      let g : given w ≡ given v + gave a = ap (total gave) calls ∙ total_snoc gave v.calls a in
      let t : taken w ≡ taken v + took a = ap (total took) calls ∙ total_snoc took v.calls a in
      let sg = total_set given views id v w at in
      let st = total_set taken views id v w at in
      let sp = total_set (λ (x : View T K). x.parts) views id v w at in
      let sh = total_set weight_at_home homes c h h' home in
      let rb = r.balance in let rp = r.parts in
      let lens : length (set homes c h') ≡ length homes = length_set homes c h' in record {
        lines = put r.lines c l;
        long = omega (arith, long, r.long, lens);
        few = r.few;
        queues = λ d x e. ⊎_elim
            (λ (y : (d ≡ c) × (h' ≡ x)).
            subst (λ (p : Line T × ℕ × ℕ × maybe.Option (Option T) × ℕ). Queue (fits key) p.4 p.0 p.1 p.2 p.3 (set views id w))
            (λ z. (sym (ap (put r.lines c l) y.0 ∙ put_here r.lines c l) z, get_or words' (sym y.0 z) 0, get_or words' (sym lens z + sym y.0 z) 0, y.1 z, sym y.0 z)) queue)
            (λ (y : (d ≢ c) × (get_elem? homes d ≡ some x)).
            let s = same d y.0 (at_lt homes d x y.1) in
            let o = apart d y.0 in
            queue_else (fits key) views id v w d (r.lines d) (put r.lines c l d) (get_or words d 0) (get_or words (length homes + d) 0) (get_or words' d 0) (get_or words' (length (set homes c h') + d) 0) x at o.0 o.1
            (λ n. omega (arith, ap (total (turned_at d n)) calls, total_snoc (turned_at d n) v.calls a, (no_draws d n y.0).1))
            (sym (put_else r.lines c l d y.0)) (sym s.0) (sym (ap (λ (n : ℕ). get_or words' (n + d) 0) lens ∙ s.1)) (r.queues d x y.1))
            (at_set homes c d h' x e);
        known = λ i u e. ⊎_elim
            (λ (y : (i ≡ id) × (w ≡ u)). subst (λ (p : ℕ × View T K). KnowsLine key (put r.lines c l) (set homes c h') p.0 p.1) (λ z. (sym y.0 z, y.1 z)) knows)
            (λ (y : (i ≢ id) × (get_elem? views i ≡ some u)). knows_on key r.lines homes id c l h h' grows home i u y.0 (r.known i u y.1))
            (at_set views id i w u e);
        parts = omega arith;
        once = λ d n.
            let s = total_set (draws_of d n) views id v w at in
            let g1 : draws_of d n w ≡ draws_of d n v + drew_at d n a = ap (total (drew_at d n)) calls ∙ total_snoc (drew_at d n) v.calls a in
            let o = r.once d n in
            let y : below n (put r.lines c l d).next ≡ below n (r.lines d).next + drew_at d n a = at_put (λ (z : Line T). below n z.next ≡ below n (r.lines d).next + drew_at d n a) r.lines c l d
            (λ e. subst (λ (x : ℕ). below n l.next ≡ below n (r.lines x).next + drew_at x n a) (sym e) (draws n))
            (λ ne. omega (arith, (no_draws d n ne).0)) in
            omega (arith, s, g1, o, y);
        balance = omega arith;
      }
