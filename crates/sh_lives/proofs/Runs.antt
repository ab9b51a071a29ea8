-- Each seat of a world has a life whose events are its own of the world's moves.
use Rattle.std.proofs.Common.{rules, ◌≡◌, ◌≢◌, ℕ, zero, suc, Bool, true, false, cond, Option, Some, None, List, [], ◌∷◌, ◌++◌, length, refl, sym, ap, subst, ◌∙◌}
use Rattle.std.proofs.lemmas.List.{append_assoc, append-nil}
use Rattle.std.specs.Prelude.{◌==◌, slice_get, slice_set}
use Rattle.sh_logic.proofs.Tests.{is_eq, not_eq}
use Rattle.sh_map.specs.declared.call.Call.{Call}
use Rattle.sh_client.specs.{Machine.{Machine}, Rests.{is_resting}, Wants.{want_of}, declared.state.Want.{Want}}
use Rattle.sh_course.{proofs.Courses.{ends_are}, specs.{Causes.{IsReady}}}
use Rattle.sh_course.specs.{Life.{events_of, lived, event_made, turns_in, SeatAct, AreActs, Begins, Made, Rests, Takes}, Turns.{turn_found, Found, MayFind, Taken}}
use Rattle.sh_world.specs.{States.{Given, Place, State}, Turning.{answer_at, answer_of, asked, turn_answer_in, turn_of}}
use Rattle.sh_lives.proofs.Acts.{asked_client, lived_on, turn_lives}
use Rattle.sh_lives.specs.{Acts.{acts_at, begin_acts, begins_call, begins_next, finds, turn_acts}, Runs.{after, event_in, events_by, Asks, Gives, HasLife, Move}}

set_here : {X : Type 0} (xs : List X) (i : ℕ) (x y : X) → slice_get xs i ≡ Some y → slice_get (slice_set xs i x) i ≡ Some x
set_here [] i x y h = absurd (cc)
set_here (z ∷ zs) zero x y h = refl
set_here (z ∷ zs) (suc i) x y h = set_here zs i x y h

set_else : {X : Type 0} (xs : List X) (i j : ℕ) (x : X) → j ≢ i → slice_get (slice_set xs i x) j ≡ slice_get xs j
set_else [] i j x h = refl
set_else (z ∷ zs) zero zero x h = absurd (h refl)
set_else (z ∷ zs) zero (suc j) x h = refl
set_else (z ∷ zs) (suc i) zero x h = refl
set_else (z ∷ zs) (suc i) (suc j) x h = set_else zs i j x (λ e. h (ap (λ n. suc n) e))

-- events of more turns, turns of more acts
events_on : (a b : List Taken) → events_of (a ++ b) ≡ events_of a ++ events_of b
events_on [] b = refl
events_on (t ∷ a) b = ap (λ (l : List Made). event_made t.want t.found ++ l) (events_on a b) ∙ sym (append_assoc (event_made t.want t.found) (events_of a) (events_of b))

turns_on : (m : Machine) (more life : List SeatAct) → turns_in m (more ++ life) ≡ turns_in (lived m life) more ++ turns_in m life
turns_on m [] life = refl
turns_on m (Begins call ∷ more) life = turns_on m more life
turns_on m (Takes x ∷ more) life = ap (λ (k : Machine). turn_found (want_of k) x ∷ turns_in m (more ++ life)) (lived_on m more life) ∙ ap (λ (l : List Taken). turn_found (want_of (lived (lived m life) more)) x ∷ l) (turns_on m more life)
turns_on m (Rests ∷ more) life = turns_on m more life

acts_on : (m : Machine) (more life : List SeatAct) → AreActs (lived m life) more → AreActs m life → AreActs m (more ++ life)
acts_on m [] life h k = k
acts_on m (Begins call ∷ more) life h k = acts_on m more life h k
acts_on m (Takes x ∷ more) life h k = (subst (λ (n : Machine). MayFind (want_of n) x) (sym (lived_on m more life)) h.0, acts_on m more life h.1 k)
acts_on m (Rests ∷ more) life h k = acts_on m more life h k

-- ---- the acts of one turn
call_acts : (m : Machine) (o : Option Given) → AreActs m (begins_call o) × (turns_in m (begins_call o) ≡ [])
call_acts m o = search rules

next_acts : (m : Machine) (calls : List Given) (o : Option ℕ) → AreActs m (begins_next calls o) × (turns_in m (begins_next calls o) ≡ [])
next_acts m calls o = search (rules, call_acts)

begin_are : (m : Machine) (calls : List Given) (q : Place) (w : Want) → AreActs m (begin_acts calls q w) × (turns_in m (begin_acts calls q w) ≡ [])
begin_are m calls q w = search (rules, next_acts)

abbrev OneTurn : Machine → List SeatAct → List Made → Type 0
OneTurn m acts events = AreActs m acts × (events_of (turns_in m acts) ≡ events)

one_act : (m : Machine) (x : Found) (b : Bool) → MayFind (want_of m) x → OneTurn m (cond b (Rests ∷ []) [] ++ Takes x ∷ []) (event_made (want_of m) x ++ [])
one_act m x b may = search rules

-- of a turn that finds this
one_turn : (m : Machine) (w : Want) (x : Found) → want_of m ≡ w → MayFind w x → OneTurn m (turn_acts m (x ∷ [])) (event_made w x ++ [])
one_turn m w x is may = search (rules, one_act)

turn_are : (s : State) (seat : ℕ) (r : Place) (w : Want) → want_of r.client ≡ w → OneTurn r.client (turn_acts r.client (finds s seat r w)) (event_in (turn_answer_in s.words w))
turn_are s seat r w is = search (rules, one_turn)

acts_are : (s : State) (seat : ℕ) (q : Place) → OneTurn q.client (acts_at s seat q) (event_in (turn_answer_in s.words (want_of (asked s.calls q (length s.log)).client)))
acts_are s seat q = search (rules, asked_client, begin_are, turn_are, acts_on, turns_on, events_on, append-nil)

-- ---- moves
abbrev client_of : Machine → Option Place → Machine
client_of m None = m
client_of m (Some q) = q.client

-- the seat has a place behind the moves, whose client came by a life
pub record Lives (s : State) (moves : List Move) (seat : ℕ) (m : Machine) (now : State) : Type 0 where
  pub place : Place
  pub here : slice_get now.seats seat ≡ Some place
  pub life : List SeatAct
  pub may : AreActs m life
  pub client : place.client ≡ lived m life
  pub events : events_of (turns_in m life) ≡ events_by s seat moves

module _ (s : State) (seat : ℕ) (m : Machine) (moves : List Move) (l : Lives s moves seat m (after s moves)) where
  abbrev w : State
  w = after s moves

  -- the place stays
  stays : (more : Move) (now : State) → slice_get now.seats seat ≡ slice_get w.seats seat → events_by s seat (more ∷ moves) ≡ events_by s seat moves → Lives s (more ∷ moves) seat m now
  stays more now same none = record { place = l.place; here = same ∙ l.here; life = l.life; may = l.may; client = l.client; events = l.events ∙ sym none }

  -- a call is given
  gives : (i : ℕ) (call : Call) → Lives s (Gives i call ∷ moves) seat m (after s (Gives i call ∷ moves))
  gives i call = search (rules, stays, set_else, not_eq, is_eq, set_here)

  -- its own turn
  own : (i : ℕ) → i ≡ seat → (i == seat) ≡ true → Lives s (Asks i ∷ moves) seat m (turn_of w i)
  own i is e =
      let q = l.place in
      let here : slice_get w.seats i ≡ Some q = ap (slice_get w.seats) is ∙ l.here in
      let b = turn_lives w i q here in
      let acts = acts_at w i q in
      let a = acts_are w i q in
      let answer : event_in (turn_answer_in w.words (want_of (asked w.calls q (length w.log)).client)) ≡ event_in (answer_of w i) = ap (λ (o : Option Place). event_in (answer_at w o)) (sym here) in
      record {
        place = b.place;
        here = ap (λ (ps : List Place). slice_get ps seat) b.set ∙ ap (slice_get (slice_set w.seats i b.place)) (sym is) ∙ set_here w.seats i b.place q here;
        life = acts ++ l.life;
        may = acts_on m acts l.life (subst (λ (k : Machine). AreActs k acts) l.client a.0) l.may;
        client = b.client ∙ ap (λ (k : Machine). lived k acts) l.client ∙ sym (lived_on m acts l.life);
        events =
            ap events_of (turns_on m acts l.life) ∙ events_on (turns_in (lived m l.life) acts) (turns_in m l.life)
            ∙ ap (λ (k : Machine). events_of (turns_in k acts) ++ events_of (turns_in m l.life)) (sym l.client)
            ∙ ap (λ (es : List Made). es ++ events_of (turns_in m l.life)) (a.1 ∙ answer)
            ∙ ap (λ (es : List Made). event_in (answer_of w i) ++ es) l.events
            ∙ sym (ap (λ b. cond b (event_in (answer_of w i) ++ events_by s seat moves) (events_by s seat moves)) e);
      }

  -- another seat's
  other : (i : ℕ) → (i == seat) ≡ false → (o : Option Place) → slice_get w.seats i ≡ o → Lives s (Asks i ∷ moves) seat m (turn_of w i)
  other i e o here = search (rules, stays, cond, turn_lives, set_else, not_eq)

  asks : (i : ℕ) → Lives s (Asks i ∷ moves) seat m (after s (Asks i ∷ moves))
  asks i = search (rules, own, is_eq, other)

lives_on : (s : State) (seat : ℕ) (q : Place) → slice_get s.seats seat ≡ Some q → (moves : List Move) → Lives s moves seat q.client (after s moves)
lives_on s seat q here [] = record { place = q; here = here; life = []; may = tt; client = refl; events = refl }
lives_on s seat q here (Gives i call ∷ moves) = gives s seat q.client moves (lives_on s seat q here moves) i call
lives_on s seat q here (Asks i ∷ moves) = asks s seat q.client moves (lives_on s seat q here moves) i

-- a seat that has a place has one behind each move, with its life
pub lives : (s : State) (seat : ℕ) (q : Place) → slice_get s.seats seat ≡ Some q → IsReady q.client → is_resting q.client ≡ true → (moves : List Move) → (now : Place) × (slice_get (after s moves).seats seat ≡ Some now) × HasLife s moves seat q.client now
lives s seat q here ready rest moves =
    let l = lives_on s seat q here moves in
    (l.place, l.here, record { life = l.life; may = l.may; client = l.client; events = l.events; ends = ends_are q.client ready rest l.life l.may })
