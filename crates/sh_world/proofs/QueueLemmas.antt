-- Ticket lines: where they lie, and what differences of words are; that the turns of a line keep it one; and the rights
-- in lines.
use Rattle.std.proofs.Common.{rules, ◌≡◌, ℕ, ◌+◌, ◌-◌, ◌*◌, ◌^◌, ◌<◌, ◌≤◌, ap, arith, inl, inr, ◌≢◌, ◌⊎◌, suc, List, length, set, Option, Some, None, refl, sym, ◌∙◌, subst}
use Rattle.std.{proofs.{Math.Nat.{div-lt_iff_lt-mul}, lemmas.{Bool.{cases_lt, cases_eq}, List.{length-set}, Option.{slice_get_within}}}, specs.Prelude.{slice_get}}
use Rattle.sh_base.specs.{declared.config.ConfigParts.{ConfigParts}, Setting.{all_locks, all_seats, IsSetting}, Layout.{compute_of}}
use Rattle.sh_world.specs.{States.{line_at, Place, IsLeft}, Turning.{minus, next_ticket, drawn, left_line, place_after}, declared.state.Line.{Line}, Lines.{StandsIn, IsLine, AreLines}}
use Rattle.sh_logic.proofs.{Lists.{set_here, set_else}, Options.{some_is}, Pigeons.{at_most}}
use Rattle.sh_client.{specs.{InLine.{Stand, Away, Waits, Served, is_some, stand_of, IsIn, HasTurn, WillHand}, Machine.{Machine}}, proofs.Wanting.{stand_ended}}
use Rattle.sh_map.specs.declared.log.Entry.{Entry}
use Rattle.sh_core.{specs.{Actors.{Actor}, Core.{Inv}}, proofs.Moves.{same_keeps}}

pub minus_ge : (a b : ℕ) → a < 2 ^ 64 → b ≤ a → minus a b ≡ a - b
minus_ge a b la le = omega (arith, la, le)

pub minus_lt : (a b : ℕ) → b < 2 ^ 64 → a < b → minus a b ≡ a + 2 ^ 64 - b
minus_lt a b lb lt = omega (arith, lb, lt)

pub row_within : (n m i j : ℕ) → i < n → j < m → i * m + j < n * m
row_within n m i j a b = grind arith

row_below : (m i k : ℕ) → i < k → i * m + m ≤ k * m
row_below m i k lt = grind arith

pub row_apart : (m i j k l : ℕ) → j < m → l < m → i * m + j ≡ k * m + l → (i ≡ k) × (j ≡ l)
row_apart m i j k l a b e = search (rules, cases_eq, cases_lt, row_below)

module _ (p : ConfigParts) (ok : IsSetting p) where
  pub compute_within : (seat : ℕ) → seat < all_seats p → compute_of p seat < p.computes
  unfolding compute_of
  compute_within seat lt = (div-lt_iff_lt-mul (omega (arith, ok.ranged.seats))).1 lt

  pub line_within : (lock compute : ℕ) → lock < all_locks p → compute < p.computes → line_at p lock compute < all_locks p * p.computes
  unfolding line_at
  line_within lock compute a b = row_within (all_locks p) p.computes lock compute a b

  pub line_apart : (lock compute l c : ℕ) → compute < p.computes → c < p.computes → line_at p lock compute ≡ line_at p l c → (lock ≡ l) × (compute ≡ c)
  unfolding line_at
  line_apart lock compute l c a b e = row_apart p.computes lock compute l c a b e

pub next_small : (n : ℕ) → next_ticket n < 2 ^ 64
next_small n = omega arith

pub count_up : (t s : ℕ) → t < 2 ^ 64 → s < 2 ^ 64 → minus t s + 1 < 2 ^ 64 → minus (next_ticket t) s ≡ minus t s + 1
count_up t s a b c = omega (arith, a, b, c)

pub count_down : (t s : ℕ) → t < 2 ^ 64 → s < 2 ^ 64 → 1 ≤ minus t s → minus t (next_ticket s) ≡ minus t s - 1
count_down t s a b c = omega (arith, a, b, c)

pub minus_self : (s : ℕ) → s < 2 ^ 64 → minus s s ≡ 0
minus_self s a = omega (arith, a)

pub minus_zero : (t s : ℕ) → t < 2 ^ 64 → s < 2 ^ 64 → minus t s ≡ 0 → t ≡ s
minus_zero t s a b e = omega (arith, a, b, e)

pub minus_small : (t s : ℕ) → minus t s < 2 ^ 64
minus_small t s = omega arith

pub minus_one : (n : ℕ) → 1 ≤ n → n < 2 ^ 64 → minus n 1 ≡ n - 1
minus_one n a b = omega (arith, a, b)

-- ---- the turns of a line keep it a line

pub turn_in : (lock : ℕ) (k : Stand) → HasTurn lock k → IsIn lock k
turn_in lock k e = search rules

pub hand_turn : (lock : ℕ) (k : Stand) → WillHand lock k → HasTurn lock k
hand_turn lock k e = search rules

-- a seat that is the same in other seats stands there, too
stays_in : (p : ConfigParts) (xs ys : List Place) (l c j : ℕ) (r : Place) → slice_get ys j ≡ slice_get xs j → StandsIn p xs l c j r → StandsIn p ys l c j r
stays_in p xs ys l c j r same h = record { here = same ∙ h.here; compute_is = h.compute_is; stands = h.stands }

-- the one at this place
own_in : (p : ConfigParts) (xs : List Place) (i : ℕ) (q : Place) → slice_get xs i ≡ Some q → (l c j : ℕ) (r : Place) → j ≡ i → StandsIn p xs l c j r → (r ≡ q) × (compute_of p i ≡ c) × IsIn l (stand_of q.client)
own_in p xs i q at l c j r e h = search (rules, some_is)

record IsLike (p : ConfigParts) (xs : List Place) (l c j : ℕ) (r : Place) : Type 0 where
  place : Place
  stands : StandsIn p xs l c j place
  ticket : place.ticket ≡ r.ticket

-- whoever stands in a line of these seats stands with the same ticket in that of those, which differ at one place
like : (p : ConfigParts) (xs ys : List Place) (i : ℕ) (q r : Place) → slice_get xs i ≡ Some q → slice_get ys i ≡ Some r → ((j : ℕ) → j ≢ i → slice_get ys j ≡ slice_get xs j) → (l c : ℕ) → (IsIn l (stand_of q.client) → compute_of p i ≡ c → IsIn l (stand_of r.client) × (r.ticket ≡ q.ticket))
    → (j : ℕ) (x : Place) → StandsIn p xs l c j x → IsLike p ys l c j x
like p xs ys i q r at here same l c own j x h = search (rules, cases_eq, own_in, stays_in)

module _ (p : ConfigParts) (ok : IsSetting p) (seats : List Place) (i : ℕ) (q q' : Place) (at : slice_get seats i ≡ Some q) where
  abbrev S : List Place
  S = set seats i q'

  here : slice_get S i ≡ Some q'
  here = set_here seats i q' (slice_get_within seats i q at)

  on : (l c j : ℕ) (r : Place) → j ≢ i → StandsIn p seats l c j r → StandsIn p S l c j r
  on l c j r ne h = stays_in p seats S l c j r (set_else seats i j q' ne) h

  off : (l c j : ℕ) (r : Place) → j ≢ i → StandsIn p S l c j r → StandsIn p seats l c j r
  off l c j r ne h = stays_in p S seats l c j r (sym (set_else seats i j q' ne)) h

  -- In this line the seat stands with its ticket before and behind, or in neither. Where it has its turn then, its ticket is
  -- served and this is nothing, which is left in the line then; and it's to hand the lock over only where another is behind.
  record Turns (l c : ℕ) (line : Line) (left : Option ℕ) : Type 0 where
    was : IsIn l (stand_of q'.client) → compute_of p i ≡ c → IsIn l (stand_of q.client) × (q.ticket ≡ q'.ticket)
    now : IsIn l (stand_of q.client) → compute_of p i ≡ c → IsIn l (stand_of q'.client) × (q'.ticket ≡ q.ticket)
    turn : HasTurn l (stand_of q'.client) → compute_of p i ≡ c → (q.ticket ≡ line.served) × (left ≡ None)
    ahead : WillHand l (stand_of q'.client) → compute_of p i ≡ c → 2 ≤ minus line.next line.served
    which : (left ≡ line.left) ⊎ (left ≡ None)

  line_turns : (l c : ℕ) (line : Line) (left : Option ℕ) → Turns l c line left → IsLine p seats l c line → IsLine p S l c (record line { left = left })
  line_turns l c line left st h =
      let old = like p S seats i q' q here at (λ j ne. sym (set_else seats i j q' ne)) l c st.was in
      let new = like p seats S i q q' at here (λ j ne. set_else seats i j q' ne) l c st.now in
      record {
        next = h.next;
        served = h.served;
        few = h.few;
        each = λ k lt. let x = h.each k lt in let n = new x.seat x.place x.stands in record { seat = x.seat; place = n.place; stands = n.stands; behind = ap (λ (t : ℕ). minus t line.served) n.ticket ∙ x.behind };
        out = λ j r k. let o = old j r k in let w = h.out j o.place o.stands in (subst (λ (t : ℕ). t < 2 ^ 64) o.ticket w.0, subst (λ (t : ℕ). minus t line.served < minus line.next line.served) o.ticket w.1);
        differ = λ a b x y hx hy e. let m = old a x hx in let n = old b y hy in h.differ a b m.place n.place m.stands n.stands (m.ticket ∙ e ∙ sym n.ticket);
        turn = λ j r k t. elim (cases_eq j i) [
          | inl e ↦ let o = own_in p S i q' here l c j r e k in let w = st.turn (subst (λ (x : Place). HasTurn l (stand_of x.client)) o.0 t) o.1 in (ap (λ (x : Place). x.ticket) o.0 ∙ sym (st.was o.2 o.1).1 ∙ w.0, w.1)
          | inr ne ↦ let w = h.turn j r (off l c j r ne k) t in (w.0, elim st.which [ inl e ↦ e ∙ w.1 | inr e ↦ e ])
        ];
        ahead = λ j r k w. elim (cases_eq j i) [
          | inl e ↦ let o = own_in p S i q' here l c j r e k in st.ahead (subst (λ (x : Place). WillHand l (stand_of x.client)) o.0 w) o.1
          | inr ne ↦ h.ahead j r (off l c j r ne k) w
        ];
        left = λ d e. elim st.which [ inl is ↦ h.left d (sym is ∙ e) | inr is ↦ cc ];
      }

  -- in this line the seat stands as before, or it is in it neither before nor behind
  pub record IsStill (l c : ℕ) : Type 0 where
    pub now : IsIn l (stand_of q'.client) → compute_of p i ≡ c → (stand_of q.client ≡ stand_of q'.client) × (q.ticket ≡ q'.ticket)
    pub before : IsIn l (stand_of q.client) → compute_of p i ≡ c → (stand_of q.client ≡ stand_of q'.client) × (q.ticket ≡ q'.ticket)

  pub line_still : (l c : ℕ) (line : Line) → IsStill l c → IsLine p seats l c line → IsLine p S l c line
  line_still l c line st h =
      let old : (a : IsIn l (stand_of q'.client)) (e : compute_of p i ≡ c) → StandsIn p seats l c i q = λ a e. record { here = at; compute_is = e; stands = subst (IsIn l) (sym (st.now a e).0) a } in
      line_turns l c line line.left (record {
        was = λ a e. (subst (IsIn l) (sym (st.now a e).0) a, (st.now a e).1);
        now = λ a e. (subst (IsIn l) (st.before a e).0 a, sym (st.before a e).1);
        turn = λ t e. let a = turn_in l _ t in h.turn i q (old a e) (subst (HasTurn l) (sym (st.now a e).0) t);
        ahead = λ w e. let a = turn_in l _ (hand_turn l _ w) in h.ahead i q (old a e) (subst (WillHand l) (sym (st.now a e).0) w);
        which = inl refl;
      }) h

  -- a seat in the line whose stand changes, and not its ticket; with what is left in it changed
  pub line_turned : (lock : ℕ) (line : Line) → IsLine p seats lock (compute_of p i) line → IsIn lock (stand_of q.client) → IsIn lock (stand_of q'.client) → q'.ticket ≡ q.ticket → (left : Option ℕ) → (HasTurn lock (stand_of q'.client) → (q.ticket ≡ line.served) × (left ≡ None))
      → (WillHand lock (stand_of q'.client) → 2 ≤ minus line.next line.served) → ((left ≡ line.left) ⊎ (left ≡ None)) → IsLine p S lock (compute_of p i) (record line { left = left })
  line_turned lock line h was_in now_in ticket left turn ahead which = line_turns lock (compute_of p i) line left (record { was = λ a e. (was_in, sym ticket); now = λ a e. (now_in, ticket); turn = λ t e. turn t; ahead = λ w e. ahead w; which = which }) h

  -- a ticket is drawn
  module _ (lock : ℕ) (line : Line) (h : IsLine p seats lock (compute_of p i) line) (away : stand_of q.client ≡ Away) (waits : stand_of q'.client ≡ Waits lock) (ticket : q'.ticket ≡ line.next) (long : length seats ≡ all_seats p) where
    abbrev C : ℕ
    C = compute_of p i

    abbrev N : ℕ
    N = minus line.next line.served

    not_in : (j : ℕ) (r : Place) → StandsIn p seats lock C j r → j ≢ i
    not_in j r k e = subst (IsIn lock) away (own_in p seats i q at lock C j r e k).2

    abbrev holder : (k : ℕ) → (k < N) ⊎ (N ≤ k) → ℕ
    holder k (inl lt) = (h.each k lt).seat + 1
    holder k (inr le) = i + 1

    holder_within : (k : ℕ) (d : (k < N) ⊎ (N ≤ k)) → (1 ≤ holder k d) × (holder k d ≤ all_seats p)
    holder_within k (inl lt) = let x = h.each k lt in let w = slice_get_within seats x.seat x.place x.stands.here in (omega arith, omega (arith, w, long))
    holder_within k (inr le) = let w = slice_get_within seats i q at in (omega arith, omega (arith, w, long))

    holder_apart : (a b : ℕ) (d : (a < N) ⊎ (N ≤ a)) (e : (b < N) ⊎ (N ≤ b)) → a < b → b < suc N → holder a d ≢ holder b e
    holder_apart a b (inl x) (inl y) lt below same =
        let m = h.each a x in
        let n = h.each b y in
        let seat : m.seat ≡ n.seat = omega (arith, same) in
        let place : m.place ≡ n.place = some_is (sym m.stands.here ∙ ap (slice_get seats) seat ∙ n.stands.here) in
        let one : a ≡ b = sym m.behind ∙ ap (λ (z : Place). minus z.ticket line.served) place ∙ n.behind in
        absurd (omega (arith, one, lt))
    holder_apart a b (inl x) (inr y) lt below same = let m = h.each a x in let seat : m.seat ≡ i = omega (arith, same) in absurd (not_in m.seat m.place m.stands seat)
    holder_apart a b (inr x) e lt below same = absurd (omega (arith, x, lt, below))

    room : suc N ≤ all_seats p
    room = at_most (suc N) (all_seats p) (λ k. holder k (cases_lt k N)) (λ k lt. holder_within k (cases_lt k N)) (λ a b lt below. holder_apart a b (cases_lt a N) (cases_lt b N) lt below)

    few_seats : all_seats p ≤ 64
    few_seats = grind (arith, ok.ranged.computes, ok.ranged.seats)

    up : minus (next_ticket line.next) line.served ≡ N + 1
    up = count_up line.next line.served h.next h.served (omega (arith, room, few_seats))

    mine : StandsIn p S lock C i q'
    mine = record { here = here; compute_is = refl; stands = subst (IsIn lock) (sym waits) refl }

    no_turn : (j : ℕ) (r : Place) → j ≡ i → StandsIn p S lock C j r → HasTurn lock (stand_of r.client) → ⊥
    no_turn j r e k t = let o = own_in p S i q' here lock C j r e k in subst (HasTurn lock) (ap (λ (x : Place). stand_of x.client) o.0 ∙ waits) t

    draw_out : (j : ℕ) (r : Place) → StandsIn p S lock C j r → (r.ticket < 2 ^ 64) × (minus r.ticket line.served < N + 1)
    draw_out j r k = elim (cases_eq j i) [
      | inl e ↦
          let o = own_in p S i q' here lock C j r e k in
          let is : r.ticket ≡ line.next = ap (λ (x : Place). x.ticket) o.0 ∙ ticket in
          let far : minus r.ticket line.served ≡ N = ap (λ (t : ℕ). minus t line.served) is in
          (omega (arith, is, h.next), omega (arith, far))
      | inr ne ↦ let w = h.out j r (off lock C j r ne k) in (w.0, omega (arith, w.1))
    ]

    not_next : (j : ℕ) (r : Place) → StandsIn p seats lock C j r → r.ticket ≢ line.next
    not_next j r k e = let w = h.out j r k in let far : minus r.ticket line.served ≡ N = ap (λ (t : ℕ). minus t line.served) e in absurd (omega (arith, w.1, far))

    pub line_drawn : IsLine p S lock C (drawn line)
    line_drawn = record {
      next = next_small line.next;
      served = h.served;
      few = omega (arith, up, room);
      each = λ k lt. elim (cases_lt k N) [
        | inl below ↦ let x = h.each k below in record { seat = x.seat; place = x.place; stands = on lock C x.seat x.place (not_in x.seat x.place x.stands) x.stands; behind = x.behind }
        | inr le ↦ record { seat = i; place = q'; stands = mine; behind = let e : N ≡ k = omega (arith, le, lt, up) in ap (λ (t : ℕ). minus t line.served) ticket ∙ e }
      ];
      out = λ j r k. let w = draw_out j r k in (w.0, omega (arith, w.1, up));
      differ = λ a b x y hx hy e. elim (cases_eq a i) [
        | inl ea ↦ elim (cases_eq b i) [
          | inl eb ↦ ea ∙ sym eb
          | inr nb ↦ absurd (not_next b y (off lock C b y nb hy) (sym e ∙ ap (λ (z : Place). z.ticket) (own_in p S i q' here lock C a x ea hx).0 ∙ ticket))
        ]
        | inr na ↦ elim (cases_eq b i) [
          | inl eb ↦ absurd (not_next a x (off lock C a x na hx) (e ∙ ap (λ (z : Place). z.ticket) (own_in p S i q' here lock C b y eb hy).0 ∙ ticket))
          | inr nb ↦ h.differ a b x y (off lock C a x na hx) (off lock C b y nb hy) e
        ]
      ];
      turn = λ j r k t. elim (cases_eq j i) [ inl e ↦ absurd (no_turn j r e k t) | inr ne ↦ h.turn j r (off lock C j r ne k) t ];
      ahead = λ j r k w. elim (cases_eq j i) [ inl e ↦ absurd (no_turn j r e k (hand_turn lock (stand_of r.client) w)) | inr ne ↦ let a = h.ahead j r (off lock C j r ne k) w in omega (arith, a, up) ];
      left = λ d e. let l = h.left d e in (omega (arith, l.0, up), l.1);
    }

  -- the line is left
  module _ (lock : ℕ) (line : Line) (h : IsLine p seats lock (compute_of p i) line) (carry : Option ℕ) (served : stand_of q.client ≡ Served lock (is_some carry)) (away : stand_of q'.client ≡ Away) (bound : (d : ℕ) → carry ≡ Some d → d ≤ p.bound) where
    abbrev E : ℕ
    E = compute_of p i

    first : StandsIn p seats lock E i q
    first = record { here = at; compute_is = refl; stands = subst (IsIn lock) (sym served) refl }

    its_turn : (q.ticket ≡ line.served) × (line.left ≡ None)
    its_turn = h.turn i q first (subst (HasTurn lock) (sym served) refl)

    gone : (j : ℕ) (r : Place) → StandsIn p S lock E j r → j ≢ i
    gone j r k e = subst (IsIn lock) away (own_in p S i q' here lock E j r e k).2

    some_out : 1 ≤ minus line.next line.served
    some_out = let w = h.out i q first in omega (arith, w.1)

    down : minus line.next (next_ticket line.served) ≡ minus line.next line.served - 1
    down = count_down line.next line.served h.next h.served some_out

    -- another seat's ticket is behind
    later : (j : ℕ) (r : Place) → j ≢ i → StandsIn p seats lock E j r → 1 ≤ minus r.ticket line.served
    later j r ne k = elim (cases_lt 0 (minus r.ticket line.served)) [
      | inl lt ↦ omega (arith, lt)
      | inr le ↦
          let w = h.out j r k in
          let none : minus r.ticket line.served ≡ 0 = omega (arith, le) in
          absurd (ne (h.differ j i r q k first (minus_zero r.ticket line.served w.0 h.served none ∙ sym its_turn.0)))
    ]

    no_turn_left : (j : ℕ) (r : Place) → StandsIn p S lock E j r → HasTurn lock (stand_of r.client) → ⊥
    no_turn_left j r k t =
        let ne = gone j r k in
        let o = off lock E j r ne k in
        ne (h.differ j i r q o first ((h.turn j r o t).0 ∙ sym its_turn.0))

    pub line_left : IsLine p S lock E (left_line line carry)
    line_left = record {
      next = h.next;
      served = next_small line.served;
      few = omega (arith, h.few, down);
      each = λ k lt.
          let x = h.each (k + 1) (omega (arith, lt, down)) in
          let behind_one : 1 ≤ minus x.place.ticket line.served = omega (arith, x.behind) in
          let ne : x.seat ≢ i = λ e. let same = (own_in p seats i q at lock E x.seat x.place e x.stands).0 in let none : minus x.place.ticket line.served ≡ 0 = ap (λ (z : Place). minus z.ticket line.served) same ∙ ap (λ (t : ℕ). minus t line.served) its_turn.0 ∙ minus_self line.served h.served in absurd (omega (arith, none, behind_one)) in
          let w = h.out x.seat x.place x.stands in
          record { seat = x.seat; place = x.place; stands = on lock E x.seat x.place ne x.stands; behind = let e = count_down x.place.ticket line.served w.0 h.served behind_one in omega (arith, e, x.behind) };
      out = λ j r k.
          let ne = gone j r k in
          let o = off lock E j r ne k in
          let w = h.out j r o in
          let l = later j r ne o in
          let e = count_down r.ticket line.served w.0 h.served l in
          (w.0, omega (arith, e, w.1, l, down));
      differ = λ a b x y hx hy e. h.differ a b x y (off lock E a x (gone a x hx) hx) (off lock E b y (gone b y hy) hy) e;
      turn = λ j r k t. absurd (no_turn_left j r k t);
      ahead = λ j r k w. absurd (no_turn_left j r k (hand_turn lock (stand_of r.client) w));
      left = λ d e.
          let two = h.ahead i q first (subst (WillHand lock) (sym served) (refl, ap is_some e)) in
          (omega (arith, two, down), bound d e);
    }

-- ---- each turn that a client wants keeps all that holds of a world

-- ---- behind a turn the seat stands where its client does

pub place_stand : (q : Place) (log more : List Entry) (m : Machine) → stand_of (place_after q log more m).client ≡ stand_of m
place_stand q log more m = search (rules, stand_ended)

pub place_ticket : (q : Place) (log more : List Entry) (m : Machine) → (place_after q log more m).ticket ≡ q.ticket
place_ticket q log more m = search rules

-- ---- rights

pub out_same : (p : ConfigParts) (words : List ℕ) (log : List Entry) (Has : ℕ → Actor → Type 0) (Out After : ℕ → ℕ → ℕ → Type 0) → ((l c d : ℕ) → Out l c d → After l c d) → ((l c d : ℕ) → After l c d → Out l c d) → Inv p words log Has Out → Inv p words log Has After
out_same p words log Has Out After on back inv = same_keeps p words log Has Has Out After inv (record { on = λ i a h. h; back = λ i a h. h }) (record { on = on; back = back })

-- a line changes, and no right with it
module _ (p : ConfigParts) (ok : IsSetting p) (lines : List Line) (lock compute : ℕ) (lock_ok : lock < all_locks p) (compute_ok : compute < p.computes) (old new : Line) (at : slice_get lines (line_at p lock compute) ≡ Some old) where
  abbrev K : ℕ
  K = line_at p lock compute

  abbrev L : List Line
  L = set lines K new

  new_here : slice_get L K ≡ Some new
  new_here = set_here lines K new (slice_get_within lines K old at)

  -- a right that isn't in this line
  pub elsewhere_on : (l c d : ℕ) → line_at p l c ≢ K → IsLeft p lines l c d → IsLeft p L l c d
  elsewhere_on l c d ne h = record { line = h.line; lock_is = h.lock_is; compute_is = h.compute_is; here = set_else lines K (line_at p l c) new ne ∙ h.here; left = h.left }

  pub elsewhere_back : (l c d : ℕ) → line_at p l c ≢ K → IsLeft p L l c d → IsLeft p lines l c d
  elsewhere_back l c d ne h = record { line = h.line; lock_is = h.lock_is; compute_is = h.compute_is; here = sym (set_else lines K (line_at p l c) new ne) ∙ h.here; left = h.left }

  -- one that is
  pub left_old : (l c d : ℕ) → line_at p l c ≡ K → IsLeft p lines l c d → (old.left ≡ Some d) × (lock ≡ l) × (compute ≡ c)
  left_old l c d e h =
      let a = line_apart p ok lock compute l c compute_ok h.compute_is (sym e) in
      let same : h.line ≡ old = some_is (sym h.here ∙ ap (slice_get lines) e ∙ at) in
      (ap (λ (x : Line). x.left) (sym same) ∙ h.left, a.0, a.1)

  pub left_new : (l c d : ℕ) → line_at p l c ≡ K → IsLeft p L l c d → (new.left ≡ Some d) × (lock ≡ l) × (compute ≡ c)
  left_new l c d e h =
      let a = line_apart p ok lock compute l c compute_ok h.compute_is (sym e) in
      let same : h.line ≡ new = some_is (sym h.here ∙ ap (slice_get L) e ∙ new_here) in
      (ap (λ (x : Line). x.left) (sym same) ∙ h.left, a.0, a.1)

  pub left_mine : (d : ℕ) → new.left ≡ Some d → IsLeft p L lock compute d
  left_mine d e = record { line = new; lock_is = lock_ok; compute_is = compute_ok; here = new_here; left = e }

  pub left_on : new.left ≡ old.left → (l c d : ℕ) → IsLeft p lines l c d → IsLeft p L l c d
  left_on same l c d h = search (rules, cases_eq, left_old, left_mine, elsewhere_on)

  pub left_back : new.left ≡ old.left → (l c d : ℕ) → IsLeft p L l c d → IsLeft p lines l c d
  left_back same l c d h = search (rules, cases_eq, left_new, here, elsewhere_back)

  -- ---- all lines

  module _ (seats : List Place) (i : ℕ) (q q' : Place) (here : slice_get seats i ≡ Some q) (compute_is : compute_of p i ≡ compute) (h : AreLines p seats lines) (now : (l : ℕ) → IsIn l (stand_of q'.client) → l ≡ lock) (before : (l : ℕ) → IsIn l (stand_of q.client) → l ≡ lock) where
    still_else : (l c : ℕ) → line_at p l c ≢ K → IsStill p ok seats i q q' here l c
    still_else l c ne = record {
      now = λ a e. absurd (ne (λ z. line_at p (now l a z) ((sym e ∙ compute_is) z)));
      before = λ a e. absurd (ne (λ z. line_at p (before l a z) ((sym e ∙ compute_is) z)));
    }

    -- a line changes with the seat that stands in it
    pub lines_one : IsLine p (set seats i q') lock compute new → AreLines p (set seats i q') L
    lines_one line_ok = record {
      count = length-set lines K new ∙ h.count;
      each = λ l c line a b e. elim (cases_eq (line_at p l c) K) [
        | inl is ↦
            let w = line_apart p ok lock compute l c compute_ok b (sym is) in
            let same : new ≡ line = some_is (sym new_here ∙ ap (slice_get L) (sym is) ∙ e) in
            subst (λ (x : Line). IsLine p (set seats i q') l c x) same (subst (λ (k : ℕ). IsLine p (set seats i q') k c new) w.0 (subst (λ (k : ℕ). IsLine p (set seats i q') lock k new) w.1 line_ok))
        | inr ne ↦ line_still p ok seats i q q' here l c line (still_else l c ne) (h.each l c line a b (sym (set_else lines K (line_at p l c) new ne) ∙ e))
      ];
      within = λ j r l e inside. elim (cases_eq j i) [
        | inl is ↦
            let same : r ≡ q' = some_is (sym e ∙ ap (slice_get (set seats i q')) is ∙ set_here seats i q' (slice_get_within seats i q here)) in
            let one : l ≡ lock = now l (subst (λ (x : Place). IsIn l (stand_of x.client)) same inside) in
            omega (arith, one, lock_ok)
        | inr ne ↦ h.within j r l (sym (set_else seats i j q' ne) ∙ e) inside
      ];
    }

-- the seat stands as before, and no line changes
module _ (p : ConfigParts) (ok : IsSetting p) (lines : List Line) (seats : List Place) (i : ℕ) (q q' : Place) (here : slice_get seats i ≡ Some q) (h : AreLines p seats lines) where
  pub lines_still : stand_of q.client ≡ stand_of q'.client → (stand_of q.client ≡ Away) ⊎ (q.ticket ≡ q'.ticket) → AreLines p (set seats i q') lines
  lines_still same ticket =
      let st : (l c : ℕ) → IsStill p ok seats i q q' here l c = λ l c. record { now = λ a e. (same, tick l (subst (IsIn l) (sym same) a)); before = λ a e. (same, tick l a) } in
      record {
        count = h.count;
        each = λ l c line a b e. line_still p ok seats i q q' here l c line (st l c) (h.each l c line a b e);
        within = λ j r l e inside. elim (cases_eq j i) [
          | inl is ↦
              let one : r ≡ q' = some_is (sym e ∙ ap (slice_get (set seats i q')) is ∙ set_here seats i q' (slice_get_within seats i q here)) in
              h.within i q l here (subst (IsIn l) (sym same) (subst (λ (x : Place). IsIn l (stand_of x.client)) one inside))
          | inr ne ↦ h.within j r l (sym (set_else seats i j q' ne) ∙ e) inside
        ];
      } where
        tick : (l : ℕ) → IsIn l (stand_of q.client) → q.ticket ≡ q'.ticket
        tick l a = elim ticket [ inl away ↦ absurd (subst (IsIn l) away a) | inr e ↦ e ]
