-- The ended calls of seats; one seat's actor changes and the others stay; and a seat's place among its calls.
use Rattle.std.proofs.Common.{rules, ◌≡◌, ◌≢◌, ℕ, zero, suc, ◌+◌, ◌≤◌, inl, inr, List, [], ◌∷◌, ◌++◌, length, get_or, set, Option, Some, None, refl, sym, ap, ◌∙◌, subst, arith, append-nil, append_assoc}
use Rattle.std.proofs.{Common.{ne_eqb, eq-eqb, ◌⊎◌, ◌-◌, ◌<◌, Bool, true, false}, lemmas.{Bool.{cases_eq}, List.{Elements.{filter-append}, length_push}, Option.{slice_get_within}}}
use Rattle.std.specs.Prelude.{◌==◌, slice_get, if◌then◌else◌}
use Rattle.sh_map.specs.{declared.{call.Reply.{Reply}, book.{Done.{Done}, Row.{Row}}, log.Entry.{Entry}}, Points.{point_of}}
use Rattle.sh_world.specs.{Running.{numbers_from, IsPlace}, States.{Given, answered, done_in, dones_by, dones_from, dones_of, Place, actor_of, HasActor}}
use Rattle.sh_world.specs.Turning.{calls_after, going, place_after, resting, started}
use Rattle.sh_logic.proofs.{Lists.{set_here, set_else}, Options.{some_is}}
use Rattle.sh_base.specs.declared.config.ConfigParts.{ConfigParts}
use Rattle.sh_client.{specs.{declared.state.Phase.{TheVariants.{Ended, Idle}, Phase}, Machine.{Machine}, Rests.{has_ended, rows_told, is_resting, rests}}, proofs.BeginLemmas.{has_begun}}
use Rattle.sh_core.{specs.{Actors.{Actor, becomes, ending, actor_going, rested}, Core.{Instead, Inv, Moves, RestKeeps}}, proofs.Moves.{moves_from as core_moves, put_moves}}

abbrev pub told : Given → Reply → List Row → (first point : ℕ) → Given
told g r rs f p = record { seat = g.seat; call = g.call; reply = Some r; first = f; point = p; rows = rs }

-- a call that is written whole at its place is answered there
pub answered_is : (calls : List Given) (k : ℕ) (r : Reply) (rs : List Row) (f p : ℕ) (g : Given) → set calls k (told (get_or calls k g) r rs f p) ≡ answered calls k r rs f p
answered_is [] k r rs f p g = refl
answered_is (x ∷ calls) zero r rs f p g = refl
answered_is (x ∷ calls) (suc k) r rs f p g = ap (λ (ys : List Given). x ∷ ys) (answered_is calls k r rs f p g)

pub length_answered : (calls : List Given) (k : ℕ) (r : Reply) (rs : List Row) (f p : ℕ) → length (answered calls k r rs f p) ≡ length calls
length_answered [] k r rs f p = refl
length_answered (x ∷ calls) zero r rs f p = refl
length_answered (x ∷ calls) (suc k) r rs f p = ap suc (length_answered calls k r rs f p)

-- a call that ends is answered, and as many calls stay
pub calls_long : (calls : List Given) (q : Place) (log : List Entry) (m : Machine) → length (calls_after calls q log m) ≡ length calls
calls_long calls q log m = search (rules, length_answered)

-- the ended ones of calls and of one more
pub dones_snoc : (n : ℕ) (calls : List Given) (g : Given) → dones_from n (calls ++ g ∷ []) ≡ dones_from n calls ++ done_in (n + length calls) g g.reply
dones_snoc n [] g = append-nil (done_in n g g.reply) ∙ (let e : n ≡ n + 0 = omega arith in ap (λ (m : ℕ). done_in m g g.reply) e)
dones_snoc n (x ∷ calls) g =
    let e : n + 1 + length calls ≡ n + suc (length calls) = omega arith in
    ap (λ (ds : List Done). done_in n x x.reply ++ ds) (dones_snoc (n + 1) calls g ∙ ap (λ (m : ℕ). dones_from (n + 1) calls ++ done_in m g g.reply) e)
    ∙ sym (append_assoc (done_in n x x.reply) (dones_from (n + 1) calls) (done_in (n + suc (length calls)) g g.reply))

-- a call that waits has no part in it
pub dones_waits : (calls : List Given) (g : Given) → g.reply ≡ None → dones_of (calls ++ g ∷ []) ≡ dones_of calls
dones_waits calls g e = dones_snoc 1 calls g ∙ ap (λ (o : Option Reply). dones_of calls ++ done_in (1 + length calls) g o) e ∙ append-nil (dones_of calls)

module _ (seat : ℕ) where
  abbrev by : List Done → List Done
  by ds = dones_by seat ds

  by_append : (ds es : List Done) → by (ds ++ es) ≡ by ds ++ by es
  by_append ds es = filter-append (λ (d : Done). d.seat == seat) ds es

  -- of another seat's call nothing is among them
  none_of : (n : ℕ) (g : Given) (o : Option Reply) → g.seat ≢ seat → by (done_in n g o) ≡ []
  none_of n g o ne = search (rules, ne_eqb)

  one_of : (n : ℕ) (g : Given) (r : Reply) → g.seat ≡ seat → by (done_in n g (Some r)) ≡ done_in n g (Some r)
  one_of n g r is = rw (eq-eqb g.seat seat is) refl

  -- no call of the seat has ended among these
  none_in : (n : ℕ) (calls : List Given) → ((k : ℕ) (g : Given) → slice_get calls k ≡ Some g → g.seat ≡ seat → g.reply ≡ None) → by (dones_from n calls) ≡ []
  none_in n [] h = refl
  none_in n (g ∷ calls) h =
      by_append (done_in n g g.reply) (dones_from (n + 1) calls)
      ∙ ap (λ (ds : List Done). ds ++ by (dones_from (n + 1) calls)) (elim (cases_eq g.seat seat) [
        | inl is ↦ ap (λ (o : Option Reply). by (done_in n g o)) (h 0 g refl is)
        | inr ne ↦ none_of n g g.reply ne
      ])
      ∙ none_in (n + 1) calls (λ k x is own. h (suc k) x is own)

  -- another seat's call is answered
  pub by_other : (n : ℕ) (calls : List Given) (k : ℕ) (r : Reply) (rs : List Row) (f p : ℕ) (g : Given) → slice_get calls k ≡ Some g → g.seat ≢ seat → by (dones_from n (answered calls k r rs f p)) ≡ by (dones_from n calls)
  by_other n [] k r rs f p g is ne = refl
  by_other n (x ∷ calls) zero r rs f p g is ne =
      let same : x ≡ g = cc in
      let differ : x.seat ≢ seat = subst (λ (y : Given). y.seat ≢ seat) (sym same) ne in
      by_append (done_in n (told x r rs f p) (Some r)) (dones_from (n + 1) calls)
      ∙ ap (λ (ds : List Done). ds ++ by (dones_from (n + 1) calls)) (none_of n (told x r rs f p) (Some r) differ ∙ sym (none_of n x x.reply differ))
      ∙ sym (by_append (done_in n x x.reply) (dones_from (n + 1) calls))
  by_other n (x ∷ calls) (suc k) r rs f p g is ne =
      by_append (done_in n x x.reply) (dones_from (n + 1) (answered calls k r rs f p))
      ∙ ap (λ (ds : List Done). by (done_in n x x.reply) ++ ds) (by_other (n + 1) calls k r rs f p g is ne)
      ∙ sym (by_append (done_in n x x.reply) (dones_from (n + 1) calls))

  -- a call of the seat is answered, and no later one of it has been
  pub by_own : (n : ℕ) (calls : List Given) (k : ℕ) (r : Reply) (rs : List Row) (f p : ℕ) (g : Given) → slice_get calls k ≡ Some g → g.seat ≡ seat
      → ((j : ℕ) (x : Given) → k ≤ j → slice_get calls j ≡ Some x → x.seat ≡ seat → x.reply ≡ None)
      → by (dones_from n (answered calls k r rs f p)) ≡ by (dones_from n calls) ++ record { n = n + k; seat = seat; call = g.call; reply = r; first = f; point = p; rows = rs } ∷ []
  by_own n [] k r rs f p g is own later = cc
  by_own n (x ∷ calls) zero r rs f p g is own later =
      let same : x ≡ g = cc in
      let none : by (dones_from (n + 1) calls) ≡ [] = none_in (n + 1) calls (λ j y at mine. later (suc j) y (omega arith) at mine) in
      let mine : x.seat ≡ seat = ap (λ (y : Given). y.seat) same ∙ own in
      let e : n ≡ n + 0 = omega arith in
      by_append (done_in n (told x r rs f p) (Some r)) (dones_from (n + 1) calls) ∙ ap (λ (ds : List Done). by (done_in n (told x r rs f p) (Some r)) ++ ds) none ∙ append-nil (by (done_in n (told x r rs f p) (Some r)))
      ∙ one_of n (told x r rs f p) r mine
      ∙ (λ z. record { n = e z; seat = mine z; call = (same z).call; reply = r; first = f; point = p; rows = rs } ∷ [])
      ∙ ap (λ (ds : List Done). ds ++ record { n = n + 0; seat = seat; call = g.call; reply = r; first = f; point = p; rows = rs } ∷ []) (sym (by_append (done_in n x x.reply) (dones_from (n + 1) calls) ∙ ap (λ (o : Option Reply). by (done_in n x o) ++ by (dones_from (n + 1) calls)) (later 0 x (omega arith) refl mine) ∙ none))
  by_own n (x ∷ calls) (suc k) r rs f p g is own later =
      let e : n + 1 + k ≡ n + suc k = omega arith in
      by_append (done_in n x x.reply) (dones_from (n + 1) (answered calls k r rs f p))
      ∙ ap (λ (ds : List Done). by (done_in n x x.reply) ++ ds) (by_own (n + 1) calls k r rs f p g is own (λ j y le at mine. later (suc j) y (omega (arith, le)) at mine) ∙ ap (λ (m : ℕ). by (dones_from (n + 1) calls) ++ record { n = m; seat = seat; call = g.call; reply = r; first = f; point = p; rows = rs } ∷ []) e)
      ∙ sym (append_assoc (by (done_in n x x.reply)) (by (dones_from (n + 1) calls)) (record { n = n + suc k; seat = seat; call = g.call; reply = r; first = f; point = p; rows = rs } ∷ []))
      ∙ ap (λ (ds : List Done). ds ++ record { n = n + suc k; seat = seat; call = g.call; reply = r; first = f; point = p; rows = rs } ∷ []) (sym (by_append (done_in n x x.reply) (dones_from (n + 1) calls)))

-- ---- one seat's actor changes and the others stay: what the core's laws ask of a world

-- what stands at a place where one was set
pub set_cases : {X : Type 0} (xs : List X) (i j : ℕ) (x y : X) → i < length xs → slice_get (set xs i x) j ≡ Some y → ((j ≡ i) × (y ≡ x)) ⊎ ((j ≢ i) × (slice_get xs j ≡ Some y))
set_cases xs i j x y lt e = search (rules, cases_eq, some_is, set_here, set_else)

-- the others' actors stay where their ended calls do
abbrev pub AgreeBut : (i : ℕ) → (calls now : List Given) → Type 0
AgreeBut i calls now = (j : ℕ) → j ≢ i → dones_by j (dones_of now) ≡ dones_by j (dones_of calls)

module _ (seats : List Place) (calls now : List Given) (i : ℕ) (q : Place) (a : Actor) (lt : i < length seats) (agree : AgreeBut i calls now) (is : a ≡ actor_of now i q) where
  other_on : (j : ℕ) (b : Actor) → j ≢ i → HasActor seats calls j b → HasActor (set seats i q) now j b
  other_on j b ne h = record { place = h.place; here = set_else seats i j q ne ∙ h.here; actor_is = h.actor_is ∙ ap (λ (ds : List Done). record { client = h.place.client; number = h.place.number; seen = h.place.seen; first = h.place.first; point = h.place.point; dones = ds }) (sym (agree j ne)) }

  other_back : (j : ℕ) (b : Actor) → j ≢ i → HasActor (set seats i q) now j b → HasActor seats calls j b
  other_back j b ne h = record { place = h.place; here = sym (set_else seats i j q ne) ∙ h.here; actor_is = h.actor_is ∙ ap (λ (ds : List Done). record { client = h.place.client; number = h.place.number; seen = h.place.seen; first = h.place.first; point = h.place.point; dones = ds }) (agree j ne) }

  own_here : HasActor (set seats i q) now i a
  own_here = record { place = q; here = set_here seats i q lt; actor_is = is }

  own_back : (b : Actor) → HasActor (set seats i q) now i b → b ≡ a
  own_back b h = search (rules, some_is, set_here)

  pub moves_from : (Has : ℕ → Actor → Type 0) → ((j : ℕ) (b : Actor) → j ≢ i → Has j b → HasActor seats calls j b) → ((j : ℕ) (b : Actor) → j ≢ i → HasActor seats calls j b → Has j b) → Moves Has i a (HasActor (set seats i q) now)
  moves_from Has to from = core_moves Has (HasActor (set seats i q) now) i a own_here own_back (λ j b ne h. from j b ne (other_back j b ne h)) (λ j b ne h. other_on j b ne (to j b ne h))

  pub moves_seats : Moves (HasActor seats calls) i a (HasActor (set seats i q) now)
  moves_seats = moves_from (HasActor seats calls) (λ j b ne h. h) (λ j b ne h. h)

-- a call that ends is the seat's next one of those that were given
pub record IsNext (calls : List Given) (i number : ℕ) (m : Machine) : Type 0 where
  pub given : Given
  pub real : 1 ≤ number
  pub here : slice_get calls (number - 1) ≡ Some given
  pub seat_is : given.seat ≡ i
  pub call_is : given.call ≡ m.registers.call
  pub later : (j : ℕ) (x : Given) → number - 1 ≤ j → slice_get calls j ≡ Some x → x.seat ≡ i → x.reply ≡ None

phase_ended : (ph : Phase) → has_ended ph ≡ true → ph ≡ Ended
phase_ended ph e = search rules

module _ (p : ConfigParts) (seats : List Place) (calls : List Given) (i : ℕ) (q : Place) (lt : i < length seats) (log more : List Entry) (m : Machine) where
  abbrev A : Actor
  A = actor_of calls i q

  pub agree_ended : IsNext calls i q.number m → AgreeBut i calls (answered calls (q.number - 1) m.registers.reply (rows_told m) q.first (point_of log q.first q.point m.registers.call m.registers.reply))
  agree_ended n j ne = by_other j 1 calls (q.number - 1) m.registers.reply (rows_told m) q.first (point_of log q.first q.point m.registers.call m.registers.reply) n.given n.here (λ e. ne (sym e ∙ n.seat_is))

  -- the seat's ended calls, with this one
  own_ended : IsNext calls i q.number m → rested (ending i A log m) ≡ actor_of (answered calls (q.number - 1) m.registers.reply (rows_told m) q.first (point_of log q.first q.point m.registers.call m.registers.reply)) i (resting q log m)
  own_ended n =
      let e : 1 + (q.number - 1) ≡ q.number = omega (arith, n.real) in
      ap (λ (ds : List Done). record { client = (rested (ending i A log m)).client; number = q.number; seen = length log; first = length log; point = q.point; dones = ds })
      (sym (by_own i 1 calls (q.number - 1) m.registers.reply (rows_told m) q.first (point_of log q.first q.point m.registers.call m.registers.reply) n.given n.here n.seat_is n.later
      ∙ (λ z. dones_by i (dones_of calls) ++ record { n = e z; seat = i; call = n.call_is z; reply = m.registers.reply; first = q.first; point = point_of log q.first q.point m.registers.call m.registers.reply; rows = rows_told m } ∷ [])))

  -- The law's step, whatever relation tells the actors after it, gives the world's.
  module _ (words : List ℕ) (Out : ℕ → ℕ → ℕ → Type 0) (rest_law : RestKeeps p)
      (step : (Now : ℕ → Actor → Type 0) → Moves (HasActor seats calls) i (becomes i A log more m) Now → Inv p words (log ++ more) Now Out) (next : has_ended m.phase ≡ true → IsNext calls i q.number m) where
    by_end : (b : Bool) → has_ended m.phase ≡ b → Inv p words (log ++ more) (HasActor (set seats i (if b then resting q log m else going q log more m)) (if b then answered calls (q.number - 1) m.registers.reply (rows_told m) q.first (point_of log q.first q.point m.registers.call m.registers.reply) else calls)) Out
    by_end false e = step (HasActor (set seats i (going q log more m)) calls) (moves_seats seats calls calls i (going q log more m) (becomes i A log more m) lt (λ j ne. refl) (ap (λ (b : Bool). if b then ending i A log m else actor_going A log more m) e))
    by_end true e =
        let n = next e in
        let ended : Actor = ending i A log m in
        let is : becomes i A log more m ≡ ended = ap (λ (b : Bool). if b then ending i A log m else actor_going A log more m) e in
        let inv = step (Instead (HasActor seats calls) i (becomes i A log more m)) (put_moves (HasActor seats calls) i (becomes i A log more m)) in
        rest_law words (log ++ more) (Instead (HasActor seats calls) i (becomes i A log more m)) (HasActor (set seats i (resting q log m)) (answered calls (q.number - 1) m.registers.reply (rows_told m) q.first (point_of log q.first q.point m.registers.call m.registers.reply))) Out i ended inv (inl (refl, sym is)) (phase_ended m.phase e)
        (moves_from seats calls (answered calls (q.number - 1) m.registers.reply (rows_told m) q.first (point_of log q.first q.point m.registers.call m.registers.reply)) i (resting q log m) (rested ended) lt (agree_ended n) (own_ended n) (Instead (HasActor seats calls) i (becomes i A log more m))
        (λ j b ne h. elim h [ inl k ↦ absurd (ne k.0) | inr k ↦ k.1 ]) (λ j b ne h. inr (ne, h)))

    pub settled_keeps : Inv p words (log ++ more) (HasActor (set seats i (place_after q log more m)) (calls_after calls q log m)) Out
    settled_keeps = by_end (has_ended m.phase) refl

-- ---- a seat's numbers are those of its calls, and its next call is the first that isn't answered

-- a number is that of a call of the seat
pub record IsNumber (calls : List Given) (seat n m : ℕ) : Type 0 where
  pub given : Given
  pub low : n ≤ m
  pub here : slice_get calls (m - n) ≡ Some given
  pub seat_is : given.seat ≡ seat

number_on : (x : Given) (calls : List Given) (seat n m : ℕ) → IsNumber calls seat (n + 1) m → IsNumber (x ∷ calls) seat n m
number_on x calls seat n m h = search rules

abbrev numbers : (seat n : ℕ) → List Given → Bool → List ℕ
numbers seat n calls t = if t then n ∷ numbers_from seat (n + 1) calls else numbers_from seat (n + 1) calls

number_head : (x : Given) (calls : List Given) (seat n i m : ℕ) → ((i : ℕ) → slice_get (numbers_from seat (n + 1) calls) i ≡ Some m → IsNumber calls seat (n + 1) m)
    → slice_get (n ∷ numbers_from seat (n + 1) calls) i ≡ Some m → x.seat ≡ seat → IsNumber (x ∷ calls) seat n m
number_head x calls seat n i m next h is = search (rules, some_is, number_on)

pub number_in : (seat n : ℕ) (calls : List Given) (i m : ℕ) → slice_get (numbers_from seat n calls) i ≡ Some m → IsNumber calls seat n m
number_in seat n [] i m e = cc
number_in seat n (x ∷ calls) i m e = elim (cases_eq x.seat seat) [
  | inl is ↦ number_head x calls seat n i m (λ k h. number_in seat (n + 1) calls k m h) (sym (ap (λ (b : Bool). slice_get (numbers seat n calls b) i) (eq-eqb x.seat seat is)) ∙ e) is
  | inr ne ↦ number_on x calls seat n m (number_in seat (n + 1) calls i m (sym (ap (λ (b : Bool). slice_get (numbers seat n calls b) i) (ne_eqb x.seat seat ne)) ∙ e))
]

rising_head : (seat n a b i : ℕ) (calls : List Given) → ((i : ℕ) → slice_get (numbers_from seat (n + 1) calls) i ≡ Some a → slice_get (numbers_from seat (n + 1) calls) (suc i) ≡ Some b → a < b)
    → slice_get (n ∷ numbers_from seat (n + 1) calls) i ≡ Some a → slice_get (numbers_from seat (n + 1) calls) i ≡ Some b → a < b
rising_head seat n a b zero calls next h k = let same : n ≡ a = some_is h in omega (arith, same, (number_in seat (n + 1) calls 0 b k).low)
rising_head seat n a b (suc i) calls next h k = next i h k

-- the numbers rise
pub rising : (seat n : ℕ) (calls : List Given) (i a b : ℕ) → slice_get (numbers_from seat n calls) i ≡ Some a → slice_get (numbers_from seat n calls) (suc i) ≡ Some b → a < b
rising seat n [] i a b e f = cc
rising seat n (x ∷ calls) i a b e f = elim (cases_eq x.seat seat) [
  | inl is ↦ rising_head seat n a b i calls (λ k h g. rising seat (n + 1) calls k a b h g) (sym (at i true (eq-eqb x.seat seat is)) ∙ e) (sym (at (suc i) true (eq-eqb x.seat seat is)) ∙ f)
  | inr ne ↦ rising seat (n + 1) calls i a b (sym (at i false (ne_eqb x.seat seat ne)) ∙ e) (sym (at (suc i) false (ne_eqb x.seat seat ne)) ∙ f)
] where
  at : (k : ℕ) (t : Bool) → (x.seat == seat) ≡ t → slice_get (numbers_from seat n (x ∷ calls)) k ≡ slice_get (numbers seat n calls t) k
  at k t is = ap (λ (b : Bool). slice_get (numbers seat n calls b) k) is

-- an answer leaves the numbers
pub numbers_answered : (seat n : ℕ) (calls : List Given) (k : ℕ) (r : Reply) (rs : List Row) (f p : ℕ) → numbers_from seat n (answered calls k r rs f p) ≡ numbers_from seat n calls
numbers_answered seat n [] k r rs f p = refl
numbers_answered seat n (x ∷ calls) zero r rs f p = refl
numbers_answered seat n (x ∷ calls) (suc k) r rs f p = ap (λ (ns : List ℕ). if x.seat == seat then n ∷ ns else ns) (numbers_answered seat (n + 1) calls k r rs f p)

-- a call is as it was, or it is the one that was answered
pub get_answered : (calls : List Given) (k : ℕ) (r : Reply) (rs : List Row) (f p j : ℕ) (x : Given) → slice_get (answered calls k r rs f p) j ≡ Some x
    → (slice_get calls j ≡ Some x) ⊎ ((j ≡ k) × (g : Given) × (slice_get calls k ≡ Some g) × (x ≡ told g r rs f p))
get_answered [] k r rs f p j x e = inl e
get_answered (y ∷ calls) zero r rs f p zero x e = inr (refl, y, refl, sym (some_is e))
get_answered (y ∷ calls) zero r rs f p (suc j) x e = inl e
get_answered (y ∷ calls) (suc k) r rs f p zero x e = inl e
get_answered (y ∷ calls) (suc k) r rs f p (suc j) x e = elim (get_answered calls k r rs f p j x e) [
  | inl h ↦ inl h
  | inr h ↦ inr (ap suc h.0, h.1, h.2, h.3)
]

-- the next call of a busy seat
pub next_is : (calls : List Given) (i : ℕ) (q : Place) (m : Machine) → IsPlace calls i q → is_resting q.client ≡ false → m.registers.call ≡ q.client.registers.call → IsNext calls i q.number m
next_is calls i q m h busy same =
    let n = number_in i 1 calls q.ended q.number (ap (λ (ns : List ℕ). slice_get ns q.ended) (sym h.numbers) ∙ h.busy busy) in
    record { given = n.given; real = n.low; here = n.here; seat_is = n.seat_is; call_is = h.call n.given busy n.here ∙ sym same; later = λ j x le at own. h.waiting q.number j x (h.busy busy) (omega (arith, le)) at own }

idle_phase : (ph : Phase) → rests ph ≡ true → has_ended ph ≡ false → ph ≡ Idle
idle_phase ph a b = search rules

module _ (calls : List Given) (i : ℕ) (q : Place) (log more : List Entry) (m : Machine) (h : IsPlace calls i q) (busy : is_resting q.client ≡ false) (same : m.registers.call ≡ q.client.registers.call) where
  place_going : has_ended m.phase ≡ false → IsPlace calls i (going q log more m)
  place_going e = record { numbers = h.numbers; ended = h.ended; count = h.count; waiting = h.waiting; rests = λ r. idle_phase m.phase r e; busy = λ b. h.busy busy; call = λ g b at. h.call g busy at ∙ sym same }

  abbrev N : List Given
  N = answered calls (q.number - 1) m.registers.reply (rows_told m) q.first (point_of log q.first q.point m.registers.call m.registers.reply)

  place_ended : IsPlace N i (resting q log m)
  place_ended =
      let n = next_is calls i q m h busy same in
      let inside = slice_get_within q.numbers q.ended q.number (h.busy busy) in
      let numbers = numbers_answered i 1 calls (q.number - 1) m.registers.reply (rows_told m) q.first (point_of log q.first q.point m.registers.call m.registers.reply) in
      record {
        numbers = h.numbers ∙ sym numbers;
        ended = omega (arith, inside);
        count = ap length (by_own i 1 calls (q.number - 1) m.registers.reply (rows_told m) q.first (point_of log q.first q.point m.registers.call m.registers.reply) n.given n.here n.seat_is n.later) ∙ length_push (dones_by i (dones_of calls)) _ ∙ ap (λ (c : ℕ). c + 1) h.count;
        waiting = λ next place g at le here own.
            let more_one : q.ended + 1 ≡ suc q.ended = omega arith in
            let lt = rising i 1 calls q.ended q.number next (ap (λ (ns : List ℕ). slice_get ns q.ended) (sym h.numbers) ∙ h.busy busy) (ap (λ (ns : List ℕ). slice_get ns (suc q.ended)) (sym h.numbers) ∙ ap (slice_get q.numbers) (sym more_one) ∙ at) in
            elim (get_answered calls (q.number - 1) m.registers.reply (rows_told m) q.first (point_of log q.first q.point m.registers.call m.registers.reply) place g here) [
              | inl was ↦ h.waiting q.number place g (h.busy busy) (omega (arith, lt, le)) was own
              | inr k ↦ absurd (omega (arith, lt, le, k.0, n.real))
            ];
        rests = λ r. refl;
        busy = λ b. cc;
        call = λ g b at. cc;
      }

  place_by_end : (b : Bool) → has_ended m.phase ≡ b → IsPlace (if b then N else calls) i (if b then resting q log m else going q log more m)
  place_by_end b e = search (rules, place_ended, place_going)

  -- the seat's place after its turn
  pub place_own : IsPlace (calls_after calls q log m) i (place_after q log more m)
  place_own = place_by_end (has_ended m.phase) refl

  place_other_ended : (j : ℕ) (r : Place) → j ≢ i → dones_by j (dones_of N) ≡ dones_by j (dones_of calls) → IsPlace calls j r → IsPlace N j r
  place_other_ended j r ne agree k =
      let n = next_is calls i q m h busy same in
      record {
        numbers = k.numbers ∙ sym (numbers_answered j 1 calls (q.number - 1) m.registers.reply (rows_told m) q.first (point_of log q.first q.point m.registers.call m.registers.reply));
        ended = k.ended;
        count = ap length agree ∙ k.count;
        waiting = λ next place g at le here own. elim (get_answered calls (q.number - 1) m.registers.reply (rows_told m) q.first (point_of log q.first q.point m.registers.call m.registers.reply) place g here) [
          | inl was ↦ k.waiting next place g at le was own
          | inr w ↦ absurd (ne (sym own ∙ ap (λ (x : Given). x.seat) w.3 ∙ ap (λ (x : Given). x.seat) (some_is (sym w.2 ∙ n.here)) ∙ n.seat_is))
        ];
        rests = k.rests;
        busy = k.busy;
        call = λ g b here. elim (get_answered calls (q.number - 1) m.registers.reply (rows_told m) q.first (point_of log q.first q.point m.registers.call m.registers.reply) (r.number - 1) g here) [
          | inl was ↦ k.call g b was
          | inr w ↦ ap (λ (x : Given). x.call) w.3 ∙ k.call w.1 b (ap (slice_get calls) w.0 ∙ w.2)
        ];
      }

  -- and the others'
  pub place_other : (j : ℕ) (r : Place) → j ≢ i → AgreeBut i calls N → IsPlace calls j r → IsPlace (calls_after calls q log m) j r
  place_other j r ne agree k = by_end_other (has_ended m.phase) where
    by_end_other : (b : Bool) → IsPlace (if b then N else calls) j r
    by_end_other true = place_other_ended j r ne (agree j ne) k
    by_end_other false = k

-- a seat at rest begins its next call
pub place_started : (calls : List Given) (i : ℕ) (q : Place) (n seen : ℕ) (g : Given) → IsPlace calls i q → slice_get q.numbers q.ended ≡ Some n → slice_get calls (n - 1) ≡ Some g → IsPlace calls i (started q n g.call seen)
place_started calls i q n seen g h at here = record { numbers = h.numbers; ended = h.ended; count = h.count; waiting = h.waiting; rests = λ r. absurd (let z = sym r ∙ (has_begun q.client g.call).busy in cc); busy = λ b. at; call = λ x b k. ap (λ (y : Given). y.call) (some_is (sym k ∙ here)) ∙ sym (has_begun q.client g.call).call_is }
