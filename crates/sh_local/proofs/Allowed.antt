-- Each step keeps the rule.
use Rattle.std.proofs.Common.{rules, ◌≡◌, ◌≢◌, ℕ, zero, suc, ◌+◌, ◌-◌, ◌%◌, ◌^◌, ◌<◌, ◌≤◌, ◌==◌, if◌then◌else◌, Bool, true, false, Option, None, Some, List, [], ◌∷◌, ◌++◌, length, set, get_or, refl, ap, sym, ◌∙◌, subst, arith, eq-eqb, ne_eqb, add-one}
use mathlib.Core.Option as maybe
use mathlib.Core.Option.{some, some-injective, some-ne-none}
use mathlib.Core.Logic.{dite}
use native.Mathlib.Decide.{ℕ_discrete}
use lib.ListN.{get_elem?}
use Rattle.std.{proofs.{lemmas.{List.{get_or-set_same, get_or-set_other, set-get_or}, Bool.{false≢true, Decides.{nat_tests}}, Option.{none-some}}, Math.Nat.{mod-add-mod}}, specs.List.{Contains}}
use Rattle.atomic_table.{specs.Table.{State, Me, Allows, keeps, takes, gives}, proofs.Lists.{set_here, set_else, set_again, one_turn}}
use Rattle.sh_local.specs.declared.view.{Ticket.{Ticket}, ChairCall.{ChairCall, TheVariants.{Drew, Waited, Turned, Counted, Left}}, View.{View}}
use Rattle.sh_local.specs.Calls.{ticket, weight, weight_at_home, gave, took, drew_at, turned_at, below, total, waits, out, held, drew, waited, turned, counted, gone, seen_ahead, or_none}
use Rattle.sh_local.specs.{Lines.{Line, before, Seated, StandsInLine, AllStand, HasTicket, in_turn, Queue, Kept, LineAgrees}, Steps.{Draws, Looks, LooksIf, Counts, LeavesQueue, FitsIf, carried_right}}
use Rattle.sh_local.{specs.Chairs.{MayLeave}, proofs.Sums.{total_set, total_le, put, put_here, put_else, same_at, at_lt, there}}
use Rattle.sh_local.proofs.Changes.{Grows, changes, stand_on, more_of, has_same, turn_same, length_set}

-- a fact of the value, if there is one
fits_if : {T K : Type 0} (fits : K → ℕ → T → Type 0) (c : ℕ) (key : Option K) (o : Option T) → ((x : T) → o ≡ Some x → (k : K) → key ≡ Some k → fits k c x) → (k : K) → key ≡ Some k → FitsIf (fits k c) o
fits_if fits c key h3 h k e = search rules

-- a later ticket was seen
ahead_is : (m : ℕ) (b : Bool) (n next : ℕ) → n + m ≡ next → (b ≡ true → n < next) → seen_ahead m b ≡ true → n < next
ahead_is m b n next e h z = search rules

below_suc : (m n : ℕ) → below m (n + 1) ≡ below m n + (if n == m then 1 else 0)
below_suc m n = grind (arith, nat_tests)

below_more : (T : Type 0) (c m n : ℕ) → below m (n + 1) ≡ below m n + drew_at {T = T} c m (Drew c n)
below_more T c m n = rw (eq-eqb c c refl) (below_suc m n)

turned_here : (T : Type 0) (c n m : ℕ) (o : Option T) → turned_at {T = T} c n (Turned c m o) ≡ in_turn {T = T} n m maybe.none
turned_here T c n m o = rw (eq-eqb c c refl) refl

turned_away : (T : Type 0) (n served : ℕ) (h : maybe.Option (Option T)) → h ≡ maybe.none → below n (served + 1) ≡ below n served + in_turn {T = T} n served h
turned_away T n served h out_is = below_suc n served ∙ ap (λ (x : maybe.Option (Option T)). below n served + in_turn {T = T} n served x) (sym out_is)

mod_suc : (n : ℕ) → (n % 2 ^ 64 + 1) % 2 ^ 64 ≡ (n + 1) % 2 ^ 64
mod_suc n = mod-add-mod n (2 ^ 64) 1

bit_le : (b : Bool) (parts : ℕ) → 1 ≤ parts → (if b then 1 else 0) ≤ parts
bit_le b parts h = search rules

pub out_le : (c parts : ℕ) (o : Option Ticket) → ((t : Ticket) → o ≡ Some t → 1 ≤ parts) → waits c o ≤ parts
out_le c parts o h = search (rules, bit_le)

module _ {T K : Type 0} (fits : K → ℕ → T → Type 0) (key : K) (chairs : ℕ) where
  pub draw_kept : (words : List ℕ) (homes : List (maybe.Option (Option T))) (views : List (View T K)) (r : Kept fits key chairs words homes views) (id : ℕ) (v : View T K) (c : ℕ) → get_elem? views id ≡ some v → v.ticket ≡ None → 1 ≤ v.parts → c < length homes
      → (w : View T K) × Kept fits key chairs (set words c ((get_or words c 0 + 1) % 2 ^ 64)) homes (set views id w) × Draws c v (get_or words c 0) w
  draw_kept words homes views r id v c at none some_part lt =
      let hh = there homes c lt in
      let h = hh.0 in
      let l0 = r.lines c in
      let q = r.queues c h hh.1 in
      let n : ℕ = l0.next in
      let w : View T K = drew v c n in
      let x : ℕ = (get_or words c 0 + 1) % 2 ^ 64 in
      let words' : List ℕ = set words c x in
      let l : Line T = record { next = n + 1; served = l0.served; holder = put l0.holder n id; left = l0.left } in
      let long = r.long in
      let q1 = q.line in
      let no_out : (d : ℕ) → out d v ≡ 0 = λ d. ap (waits d) none in
      let s = total_set (out c) views id v w at in
      let one : out c w ≡ 1 = rw (eq-eqb c c refl) refl in
      let zero_ : out c v ≡ 0 = no_out c in
      let other_word : (d : ℕ) → d ≢ c → get_or words' d 0 ≡ get_or words d 0 = λ d ne. get_or-set_other words c d x 0 ne in
      let not_mine : (j m : ℕ) → HasTicket views j c m → j ≢ id = λ j m t e.
      let same : t.0 ≡ v = same_at views id t.0 v (ap (get_elem? views) (sym e) ∙ t.1) at in
      none-some (ticket c m t.2 t.3) (sym none ∙ ap (λ (u : View T K). u.ticket) (sym same) ∙ t.4) in
      let queue : Queue (fits key) c l (get_or words' c 0) (get_or words' (length homes + c) 0) h (set views id w) = record {
        next_is = get_or-set_same words c x 0 (omega arith) ∙ ap (λ (y : ℕ). (y + 1) % 2 ^ 64) q.next_is ∙ mod_suc n;
        served_is = other_word (length homes + c) (omega arith) ∙ q.served_is;
        line = omega arith;
        each = λ m le lt'. dite (ℕ_discrete m n)
            (λ (e : m ≡ n). (w, ap (get_elem? (set views id w)) (ap (put l0.holder n id) e ∙ put_here l0.holder n id) ∙ set_here views id w (at_lt views id v at), false, false, ap (λ (y : ℕ). Some (ticket c y false false)) (sym e)))
            (λ (e : m ≢ n).
            let t = q.each m le (omega (arith, e, lt')) in
            (t.0, ap (get_elem? (set views id w)) (put_else l0.holder n id m e) ∙ set_else views id (l0.holder m) w (not_mine (l0.holder m) m t) ∙ t.1, t.2, t.3, t.4));
        away = λ e.
            let y = q.away e in
            let t = y.1 in
            let ne : l0.served ≢ n = λ z. omega (arith, z, y.0) in
            (omega (arith, y.0), (t.0, ap (get_elem? (set views id w)) (put_else l0.holder n id l0.served ne) ∙ set_else views id (l0.holder l0.served) w (not_mine (l0.holder l0.served) l0.served (t.0, t.1, true, t.2, t.3)) ∙ t.1, t.2, t.3));
        value = q.value;
        kept = λ y e. let k = q.kept y e in (omega (arith, k.0), k.1);
        turns = λ m. omega (arith, more_of (turned_at c m) views id v w (Drew c n) at refl, q.turns m);
      } in
      let grows : Grows id l0 l h h = record {
        next = omega arith;
        served = omega arith;
        least = λ m le lt' ne. (le, put_else l0.holder n id m (λ z. omega (arith, z, lt')));
        turn = λ m lt' ne e z. (e, z);
        left = λ m lt'. refl;
      } in
      let done : Kept fits key chairs words' (set homes c h) (set views id w) = changes fits key chairs words words' homes views r id v w c l h h (Drew c n) at hh.1 (length_set words c x)
      (λ d ne lt'. (other_word d ne, other_word (length homes + d) (omega (arith, lt))))
      (λ d ne. (no_out d, rw (ne_eqb c d (λ z. ne (sym z))) refl))
      queue grows refl refl some_part refl
      (subst (λ (z : Line T). n < z.next) (sym (put_here r.lines c l)) (omega arith))
      (λ t e. let is : ticket c n false false ≡ t = ap or_none e in subst (λ (z : Ticket). (z.cell ≡ c) × Seated l (some h) id z) is (
        refl,
        record {
          mine = put_here l0.holder n id;
          least = omega arith;
          drawn = omega arith;
          turn = λ z. absurd (false≢true z);
          ahead = λ z. absurd (false≢true z);
        },
      ))
      refl (λ m. below_more T c m n) (λ d m ne. (rw (ne_eqb c d (λ z. ne (sym z))) refl, refl)) in
      (w, subst (λ (hs : List (maybe.Option (Option T))). Kept fits key chairs words' hs (set views id w)) (set_again homes c h hh.1) done, (n, q.next_is, refl))

  -- the number of tickets that are out is below 2 ^ 64
  few_out : (words : List ℕ) (homes : List (maybe.Option (Option T))) (views : List (View T K)) (r : Kept fits key chairs words homes views) (c : ℕ) → total (out c) views < 2 ^ 64
  few_out words homes views r c = search (rules, total_le, out_le)

  served_now : (words : List ℕ) (homes : List (maybe.Option (Option T))) (views : List (View T K)) (r : Kept fits key chairs words homes views) (id : ℕ) (v : View T K) → get_elem? views id ≡ some v → v.ticket ≡ Some (held v) → (held v).cell < length homes
      → get_or words (length homes + (held v).cell) 0 ≡ (held v).number % 2 ^ 64 → (held v).number ≡ (r.lines (held v).cell).served
  served_now words homes views r id v at has lt e =
      let c : ℕ = (held v).cell in
      let h = there homes c lt in
      let q = r.queues c h.0 h.1 in
      let s = (r.known id v at).seated (held v) has in
      sym (one_turn (r.lines c).served (held v).number (2 ^ 64) s.least (omega (arith, s.drawn, q.line, few_out words homes views r c)) (sym q.served_is ∙ e))

  -- a call that changes neither line nor value
  note_kept : (words : List ℕ) (homes : List (maybe.Option (Option T))) (views : List (View T K)) (r : Kept fits key chairs words homes views) (id : ℕ) (v : View T K) (a : ChairCall T) (d : Bool) → get_elem? views id ≡ some v → v.ticket ≡ Some (held v) → (held v).cell < length homes
      → StandsInLine r.lines a → gave a ≡ took a → ((x n : ℕ) → (drew_at x n a ≡ 0) × (turned_at x n a ≡ 0)) → (d ≡ true → (held v).number + 1 < (r.lines (held v).cell).next)
      → Kept fits key chairs words homes (set views id (record { key = v.key; parts = v.parts; ticket = Some (ticket (held v).cell (held v).number (held v).turn d); calls = v.calls ++ a ∷ [] }))
  note_kept words homes views r id v a d at has lt stands none no_draw ahead =
      let t : Ticket = held v in
      let c : ℕ = t.cell in
      let w : View T K = record { key = v.key; parts = v.parts; ticket = Some (ticket c t.number t.turn d); calls = v.calls ++ a ∷ [] } in
      let hh = there homes c lt in
      let h = hh.0 in
      let l : Line T = r.lines c in
      let q = r.queues c h hh.1 in
      let k = r.known id v at in
      let s0 = k.seated t has in
      let same : out c w ≡ out c v = sym (ap (waits c) has) in
      let s = total_set (out c) views id v w at in
      let q1 = q.line in
      let queue : Queue (fits key) c l (get_or words c 0) (get_or words (length homes + c) 0) h (set views id w) = record {
        next_is = q.next_is;
        served_is = q.served_is;
        line = omega arith;
        each = λ n le lt'. has_same views id v w t t.turn d c (l.holder n) n at has refl (q.each n le lt');
        away = λ e. let y = q.away e in (y.0, turn_same views id v w t d c (l.holder l.served) l.served at has refl y.1);
        value = q.value;
        kept = q.kept;
        turns = λ n. omega (arith, more_of (turned_at c n) views id v w a at refl, (no_draw c n).1, q.turns n);
      } in
      let grows : Grows id l l h h = record { next = omega arith; served = omega arith; least = λ n le lt' ne. (le, refl); turn = λ n lt' ne e z. (e, z); left = λ n lt'. refl } in
      subst (λ (hs : List (maybe.Option (Option T))). Kept fits key chairs words hs (set views id w)) (set_again homes c h hh.1)
      (changes fits key chairs words words homes views r id v w c l h h a at hh.1 refl (λ x ne lt'. (refl, refl))
      (λ x ne. (ap (waits x) has ∙ rw (ne_eqb c x (λ z. ne (sym z))) refl, rw (ne_eqb c x (λ z. ne (sym z))) refl))
      queue grows refl refl (k.part t has) refl (stand_on r.lines id c l h h grows a stands)
      (λ t' e. subst (λ (z : Ticket). (z.cell ≡ c) × Seated l (some h) id z) (ap or_none e) (refl, record { mine = s0.mine; least = s0.least; drawn = s0.drawn; turn = λ z. let y = s0.turn z in (y.0, sym hh.1 ∙ y.1); ahead = ahead }))
      (omega (arith, none)) (λ n. omega (arith, (no_draw c n).0)) (λ x n ne. no_draw x n))

  -- the served ticket's look takes the value
  hit_kept : (words : List ℕ) (homes : List (maybe.Option (Option T))) (views : List (View T K)) (r : Kept fits key chairs words homes views) (id : ℕ) (v : View T K) → get_elem? views id ≡ some v → v.ticket ≡ Some (held v) → (held v).turn ≡ false
      → (held v).number ≡ (r.lines (held v).cell).served → (h : maybe.Option (Option T)) → get_elem? homes (held v).cell ≡ some h
      → (o : Option T) × (get_elem? homes (held v).cell ≡ some (some o)) × Kept fits key chairs words (set homes (held v).cell maybe.none) (set views id (turned v o)) × ((k : K) → v.key ≡ Some k → FitsIf (fits k (held v).cell) o)
  hit_kept words homes views r id v at has waits_ now maybe.none home =
      let t : Ticket = held v in
      let y = ((r.queues t.cell maybe.none home).away refl).1 in
      let l : Line T = r.lines t.cell in
      let mine : l.holder l.served ≡ id = ap l.holder (sym now) ∙ ((r.known id v at).seated t has).mine in
      let same : y.0 ≡ v = same_at views id y.0 v (ap (get_elem? views) (sym mine) ∙ y.1) at in
      let tick : t ≡ ticket t.cell l.served true y.2 = ap or_none (sym has ∙ ap (λ (u : View T K). u.ticket) (sym same) ∙ y.3) in
      absurd (false≢true (sym waits_ ∙ ap (λ (x : Ticket). x.turn) tick))
  hit_kept words homes views r id v at has waits_ now (maybe.some o) home =
      let t : Ticket = held v in
      let c : ℕ = t.cell in
      let w : View T K = turned v o in
      let h : maybe.Option (Option T) = maybe.some o in
      let h' : maybe.Option (Option T) = maybe.none in
      let l : Line T = r.lines c in
      let q = r.queues c h home in
      let k = r.known id v at in
      let s0 = k.seated t has in
      let mine : l.holder l.served ≡ id = ap l.holder (sym now) ∙ s0.mine in
      let same : out c w ≡ out c v = sym (ap (waits c) has) in
      let s = total_set (out c) views id v w at in
      let q1 = q.line in
      let queue : Queue (fits key) c l (get_or words c 0) (get_or words (length homes + c) 0) h' (set views id w) = record {
        next_is = q.next_is;
        served_is = q.served_is;
        line = omega arith;
        each = λ n le lt'. has_same views id v w t true false c (l.holder n) n at has refl (q.each n le lt');
        away = λ e. (omega (arith, s0.drawn, now), (w, ap (get_elem? (set views id w)) mine ∙ set_here views id w (at_lt views id v at), false, ap (λ (n : ℕ). Some (ticket c n true false)) now));
        value = λ x e. absurd (some-ne-none x (sym e));
        kept = λ x e. absurd (some-ne-none (Some x) (sym e));
        turns = λ n. omega (arith, more_of (turned_at c n) views id v w (Turned c t.number o) at refl, turned_here T c n t.number o, ap (λ (m : ℕ). in_turn {T = T} n m maybe.none) now, q.turns n);
      } in
      let grows : Grows id l l h h' = record { next = omega arith; served = omega arith; least = λ n le lt' ne. (le, refl); turn = λ n lt' ne e z. absurd (some-ne-none o z); left = λ n lt'. refl } in (
        o,
        home,
        changes fits key chairs words words homes views r id v w c l h h' (Turned c t.number o) at home refl (λ x ne lt'. (refl, refl))
            (λ x ne. (ap (waits x) has ∙ rw (ne_eqb c x (λ z. ne (sym z))) refl, rw (ne_eqb c x (λ z. ne (sym z))) refl))
            queue grows refl refl (k.part t has) refl
            (subst (λ (z : Line T). (t.number ≤ z.served) × (o ≡ before z.left t.number)) (sym (put_here r.lines c l)) (omega (arith, now), q.value o refl ∙ ap (before l.left) (sym now)))
            (λ t' e. subst (λ (z : Ticket). (z.cell ≡ c) × Seated l (some h') id z) (ap or_none e) (refl, record { mine = s0.mine; least = s0.least; drawn = s0.drawn; turn = λ z. (now, refl); ahead = λ z. absurd (false≢true z) }))
            (omega arith) (λ n. omega arith) (λ x n ne. (refl, rw (ne_eqb c x (λ z. ne (sym z))) refl)),
        fits_if fits c v.key o (λ x e kk z. subst (λ (y : K). fits y c x) (sym (k.key_is kk z)) (q.kept x (ap (λ (y : Option T). maybe.some y) e)).1),
      )

  pub leave_kept : (words : List ℕ) (homes : List (maybe.Option (Option T))) (views : List (View T K)) (r : Kept fits key chairs words homes views) (id : ℕ) (v : View T K) (o : Option T) (x : ℕ) → get_elem? views id ≡ some v → v.ticket ≡ Some (held v) → (held v).turn ≡ true → (held v).cell < length homes
      → MayLeave (fits key (held v).cell) (held v) o → x ≡ ((held v).number + 1) % 2 ^ 64
      → Kept fits key chairs (set words (length homes + (held v).cell) x) (set homes (held v).cell (maybe.some o)) (set views id (gone v o))
  leave_kept words homes views r id v o x at has turn_ lt may is =
      let t : Ticket = held v in
      let c : ℕ = t.cell in
      let n : ℕ = t.number in
      let w : View T K = gone v o in
      let hh = there homes c lt in
      let h = hh.0 in
      let h' : maybe.Option (Option T) = maybe.some o in
      let l0 : Line T = r.lines c in
      let q = r.queues c h hh.1 in
      let k = r.known id v at in
      let s0 = k.seated t has in
      let now : n ≡ l0.served = (s0.turn turn_).0 in
      let out_is : h ≡ maybe.none = some-injective h maybe.none (sym hh.1 ∙ (s0.turn turn_).1) in
      let mine : l0.holder l0.served ≡ id = ap l0.holder (sym now) ∙ s0.mine in
      let l : Line T = record { next = l0.next; served = suc n; holder = l0.holder; left = put l0.left n o } in
      let words' : List ℕ = set words (length homes + c) x in
      let long = r.long in
      let one : out c v ≡ 1 = ap (waits c) has ∙ rw (eq-eqb c c refl) refl in
      let s = total_set (out c) views id v w at in
      let q1 = q.line in
      let other_word : (d : ℕ) → d ≢ length homes + c → get_or words' d 0 ≡ get_or words d 0 = λ d ne. get_or-set_other words (length homes + c) d x 0 ne in
      let may_ahead : (y : T) → o ≡ Some y → (n + 1 < l0.next) × fits key c y = λ y e. let m : MayLeave (fits key c) t (Some y) = subst (MayLeave (fits key c) t) e may in (s0.ahead m.0, m.1) in
      let queue : Queue (fits key) c l (get_or words' c 0) (get_or words' (length homes + c) 0) h' (set views id w) = record {
        next_is = other_word c (omega (arith, lt)) ∙ q.next_is;
        served_is = get_or-set_same words (length homes + c) x 0 (omega (arith, long, lt)) ∙ is ∙ ap (λ (y : ℕ). y % 2 ^ 64) (add-one n);
        line = omega arith;
        each = λ m le lt'.
            let y = q.each m (omega (arith, le, now)) lt' in
            let ne : l0.holder m ≢ id = λ z.
            let same : y.0 ≡ v = same_at views id y.0 v (ap (get_elem? views) (sym z) ∙ y.1) at in
            let tick : t ≡ ticket c m y.2 y.3 = ap or_none (sym has ∙ ap (λ (u : View T K). u.ticket) (sym same) ∙ y.4) in
            let num : n ≡ m = ap (λ (u : Ticket). u.number) tick in omega (arith, num, le) in
            (y.0, set_else views id (l0.holder m) w ne ∙ y.1, y.2, y.3, y.4);
        away = λ e. absurd (some-ne-none o e);
        value = λ y e. sym (some-injective o y e) ∙ sym (put_here l0.left n o);
        kept = λ y e. let m = may_ahead y (some-injective o (Some y) e) in (omega (arith, m.0), m.1);
        turns = λ m. omega (arith, more_of (turned_at c m) views id v w (Left c n o) at refl, turned_away T m l0.served h out_is, ap (below m) (add-one n), ap (λ (y : ℕ). below m (y + 1)) now, q.turns m);
      } in
      let grows : Grows id l0 l h h' = record {
        next = omega arith;
        served = omega arith;
        least = λ m le lt' ne. (let z : m ≢ l0.served = λ z. ne (ap l0.holder z ∙ mine) in omega (arith, z, le, now), refl);
        turn = λ m lt' ne e z. absurd (ne (ap l0.holder e ∙ mine));
        left = λ m lt'. put_else l0.left n o m (λ z. omega (arith, z, lt', now));
      } in
      changes fits key chairs words words' homes views r id v w c l h h' (Left c n o) at hh.1 (length_set words (length homes + c) x)
      (λ d ne lt'. (other_word d (omega (arith, lt')), other_word (length homes + d) (λ z. ne (omega (arith, z)))))
      (λ d ne. (ap (waits d) has ∙ rw (ne_eqb c d (λ z. ne (sym z))) refl, refl))
      queue grows refl refl (k.part t has) refl
      (subst (λ (z : Line T). (n < z.served) × (o ≡ z.left n)) (sym (put_here r.lines c l)) (omega arith, sym (put_here l0.left n o)))
      (λ t' e. absurd (none-some t' e))
      (subst (λ (z : maybe.Option (Option T)). weight o + weight_at_home z ≡ 0 + weight o) (sym out_is) (omega arith)) (λ m. omega arith) (λ d m ne. (refl, refl))

  abbrev pub Holds : State (Option T) (View T K) → Type 0
  Holds s = Kept fits key chairs s.words s.homes s.views

  pub allows_draw : (slots id : ℕ) (me : Me (Option T) (View T K)) (c : ℕ) → me.0.ticket ≡ None → me.0.parts ≡ 1 → c < slots → Allows Holds slots id me c (λ n. (n + 1) % 2 ^ 64) (λ n now. Draws c me.0 n now.0 × (now.1 ≡ me.1))
  allows_draw slots id me c none parts lt s r homes at small =
      let d = draw_kept s.words s.homes s.views r id me.0 c at none (omega (arith, parts)) (omega (arith, homes, lt)) in
      (d.0, keeps, tt, d.1, (d.2, refl))

  abbrev Look_at : ℕ → Me (Option T) (View T K) → ℕ → (s : State (Option T) (View T K)) → Type 0
  Look_at id me i s = (w : View T K) × (a : Rattle.atomic_table.specs.Table.Act (Option T)) × Rattle.atomic_table.specs.Table.Valid s.homes me.1 a × Kept fits key chairs s.words (Rattle.atomic_table.specs.Table.homes_after s.homes me.1 a) (set s.views id w)
      × Looks fits me (get_or s.words i 0) (w, Rattle.atomic_table.specs.Table.carried_after me.1 a)

  look_at : (id : ℕ) (me : Me (Option T) (View T K)) (i : ℕ) → me.0.ticket ≡ Some (held me.0) → (held me.0).turn ≡ false → (s : State (Option T) (View T K)) → Holds s → get_elem? s.views id ≡ some me.0 → i ≡ length s.homes + (held me.0).cell → (held me.0).cell < length s.homes → Look_at id me i s
  look_at id me i has wait s r at is lt =
      let v : View T K = me.0 in
      let found : ℕ = get_or s.words i 0 in
      dite (ℕ_discrete found ((held v).number % 2 ^ 64))
      (λ (e : found ≡ (held v).number % 2 ^ 64).
      let now = served_now s.words s.homes s.views r id v at has lt (ap (λ (j : ℕ). get_or s.words j 0) (sym is) ∙ e) in
      let hh = there s.homes (held v).cell lt in
      let y = hit_kept s.words s.homes s.views r id v at has wait now hh.0 hh.1 in
      (turned v y.0, takes (held v).cell y.0, y.1, y.2, subst (λ (b : Bool). LooksIf fits b me found (turned v y.0, ((held v).cell, y.0) ∷ me.1)) (sym (eq-eqb found ((held v).number % 2 ^ 64) e)) (y.0, refl, refl, y.3)))
      (λ (ne : found ≢ (held v).number % 2 ^ 64).
      let h = there s.homes (held v).cell lt in
      let q = r.queues (held v).cell h.0 h.1 in
      let s0 = (r.known id v at).seated (held v) has in
      let l : Line T = r.lines (held v).cell in
      let is_served : found ≡ l.served % 2 ^ 64 = ap (λ (j : ℕ). get_or s.words j 0) is ∙ q.served_is in
      let apart : l.served ≢ (held v).number = λ z. ne (is_served ∙ ap (λ (j : ℕ). j % 2 ^ 64) z) in
      let stands : StandsInLine r.lines (Waited (held v).cell (held v).number found) = (l.served, is_served, omega (arith, s0.least, apart), omega arith) in
      let k = note_kept s.words s.homes s.views r id v (Waited (held v).cell (held v).number found) (held v).ahead at has lt stands refl (λ x n. (refl, refl)) s0.ahead in
      (waited v found, keeps, tt, k, subst (λ (b : Bool). LooksIf fits b me found (waited v found, me.1)) (sym (ne_eqb found ((held v).number % 2 ^ 64) ne)) (refl, refl)))

  pub allows_look : (slots id : ℕ) (me : Me (Option T) (View T K)) (i : ℕ) → me.0.ticket ≡ Some (held me.0) → (held me.0).turn ≡ false → i ≡ slots + (held me.0).cell → (held me.0).cell < slots → Allows Holds slots id me i (λ n. n) (λ n now. Looks fits me n now)
  allows_look slots id me i has wait is lt s r homes at small =
      let y = look_at id me i has wait s r at (omega (arith, is, homes)) (omega (arith, lt, homes)) in
      (y.0, y.1, y.2, subst (λ (ws : List ℕ). Kept fits key chairs ws (Rattle.atomic_table.specs.Table.homes_after s.homes me.1 y.1) (set s.views id y.0)) (sym (set-get_or s.words i 0)) y.3, y.4)

  pub allows_count : (slots id : ℕ) (me : Me (Option T) (View T K)) (i : ℕ) → me.0.ticket ≡ Some (held me.0) → (held me.0).turn ≡ true → i ≡ (held me.0).cell → i < slots → Allows Holds slots id me i (λ n. n) (λ n now. Counts me.0 n now.0 × (now.1 ≡ me.1))
  allows_count slots id me i has turn_ is lt s r homes at small =
      let v : View T K = me.0 in
      let t : Ticket = held v in
      let lt' : t.cell < length s.homes = omega (arith, is, lt, homes) in
      let l : Line T = r.lines t.cell in
      let h = there s.homes t.cell lt' in
      let q = r.queues t.cell h.0 h.1 in
      let s0 = (r.known id v at).seated t has in
      let m : ℕ = l.next - (t.number + 1) in
      let few : m < 2 ^ 64 = omega (arith, q.line, few_out s.words s.homes s.views r t.cell, s0.least) in
      let all : t.number + 1 + m ≡ l.next = omega (arith, s0.drawn) in
      let k = note_kept s.words s.homes s.views r id v (Counted t.cell t.number m) (seen_ahead m t.ahead) at has lt' (omega (arith, all)) refl (λ x n. (refl, refl)) (ahead_is m t.ahead (t.number + 1) l.next all s0.ahead) in
      let w : View T K = counted v m in
      let w' : View T K = record { key = v.key; parts = v.parts; ticket = Some (ticket t.cell t.number t.turn (seen_ahead m t.ahead)); calls = v.calls ++ Counted t.cell t.number m ∷ [] } in
      let same : w' ≡ w = λ z. record { key = v.key; parts = v.parts; ticket = Some (ticket t.cell t.number (turn_ z) (seen_ahead m t.ahead)); calls = v.calls ++ Counted t.cell t.number m ∷ [] } in (
        w,
        keeps,
        tt,
        subst (λ (p : List ℕ × View T K). Kept fits key chairs p.0 s.homes (set s.views id p.1)) (λ z. (sym (set-get_or s.words i 0) z, same z)) k,
        ((m, few, ap (λ (j : ℕ). get_or s.words j 0) is ∙ q.next_is ∙ ap (λ (j : ℕ). j % 2 ^ 64) (sym all), refl), refl),
      )

  pub allows_leave : (slots id : ℕ) (me : Me (Option T) (View T K)) (i x : ℕ) (o : Option T) → me.0.ticket ≡ Some (held me.0) → (held me.0).turn ≡ true → me.1 ≡ ((held me.0).cell, o) ∷ [] → i ≡ slots + (held me.0).cell → (held me.0).cell < slots → MayLeave (fits key (held me.0).cell) (held me.0) o → x ≡ ((held me.0).number + 1) % 2 ^ 64
      → Allows Holds slots id me i (λ _. x) (λ _ now. LeavesQueue me now)
  allows_leave slots id me i x o has turn_ list is lt may word s r homes at small =
      let v : View T K = me.0 in
      let k = leave_kept s.words s.homes s.views r id v o x at has turn_ (omega (arith, lt, homes)) may word in
      let same : i ≡ length s.homes + (held v).cell = omega (arith, is, homes) in (
        gone v o,
        gives,
        tt,
        subst (λ (p : ℕ × List (ℕ × Option T)). Kept fits key chairs (set s.words p.0 x) (Rattle.atomic_table.specs.Table.put_back s.homes p.1) (set s.views id (gone v o))) (λ z. (sym same z, sym list z)) k,
        (ap (λ (y : List (ℕ × Option T)). gone v (carried_right y)) (sym list), refl),
      )

  -- what holds of a call that is among the calls
  stands_in : (lines : ℕ → Line T) (xs : List (ChairCall T)) (a : ChairCall T) → Contains xs a → AllStand lines xs → StandsInLine lines a
  stands_in lines [] a (k, lt, e) s = absurd (omega (arith, lt))
  stands_in lines (x ∷ xs) a (zero, lt, e) s = subst (StandsInLine lines) e s.0
  stands_in lines (x ∷ xs) a (suc k, lt, e) s = stands_in lines xs a (k, omega (arith, lt), e) s.1

  pub line_agrees : (words : List ℕ) (homes : List (maybe.Option (Option T))) (views : List (View T K)) → Kept fits key chairs words homes views → (c : ℕ) (h : maybe.Option (Option T)) → get_elem? homes c ≡ some h → LineAgrees (fits key) c (get_or words c 0) (get_or words (length homes + c) 0) h views
  line_agrees words homes views r c h home =
      let q = r.queues c h home in
      let l : Line T = r.lines c in
      let seat : (id n : ℕ) (b d : Bool) (v : View T K) → get_elem? views id ≡ some v → v.ticket ≡ Some (ticket c n b d) → Seated l (get_elem? homes c) id (ticket c n b d) = λ id n b d v at is. (r.known id v at).seated (ticket c n b d) is in
      record {
        next = l.next;
        served = l.served;
        next_is = q.next_is;
        served_is = q.served_is;
        within = omega (arith, q.line);
        near = omega (arith, q.line, few_out words homes views r c);
        out = λ n le lt. (l.holder n, (q.each n le lt, λ other t. sym (seat other n t.2 t.3 t.0 t.1 t.4).mine));
        draws = r.once c;
        one = λ id other n m t u.
            let a = seat id n true t.2 t.0 t.1 t.3 in
            let b = seat other m true u.2 u.0 u.1 u.3 in
            sym a.mine ∙ ap l.holder ((a.turn refl).0 ∙ sym (b.turn refl).0) ∙ b.mine;
        turns = q.turns;
        first = λ o e z. q.value o e ∙ ap (before l.left) z;
        last = λ id n o p e z t.
            let k : StandsInLine r.lines (Left c n p) = stands_in r.lines t.0.calls (Left c n p) t.2 (r.known id t.0 t.1).stand in
            q.value o e ∙ ap (before l.left) (z ∙ add-one n) ∙ sym k.1;
        only = λ id n t. let s = seat id n t.2 t.3 t.0 t.1 t.4 in (s.least, s.drawn);
        turn = λ id n t. let s = (seat id n true t.2 t.0 t.1 t.3).turn refl in (s.0, some-injective h maybe.none (sym home ∙ s.1));
        value = q.kept;
      }
