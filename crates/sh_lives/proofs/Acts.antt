-- A turn of a world adds its acts to the life of its seat.
use Rattle.std.{proofs.Common.{rules, ◌≡◌, ℕ, Bool, cond, Option, Some, List, [], ◌∷◌, ◌++◌, length, refl, sym, ap, ◌∙◌}, specs.Prelude.{◌==◌, slice_get, slice_set}}
use Rattle.sh_base.specs.Memory.{found_by}
use Rattle.sh_map.specs.declared.log.Entry.{Entry}
use Rattle.sh_client.specs.{declared.state.{Want.{Want}}, Feeds.{fed_by, turned_by}, Giving.{makes}, Machine.{Machine}, Rests.{has_ended}, Wants.{want_of}}
use Rattle.sh_client.specs.declared.state.Want.TheVariants as want
use Rattle.sh_course.specs.{Life.{lived, SeatAct, Begins, Rests, Takes}, Turns.{machine_behind, Found, Turn, Word}}
use Rattle.sh_world.specs.{declared.state.Line.{Line}, States.{Given, Place, State}}
use Rattle.sh_world.specs.Turning.{asked, asked_in, behind as behind_in, going, line_of, looked_client, place_after, place_called, resting, starts, starts_next, took, turn_at, turn_of}
use Rattle.sh_lives.specs.Acts.{acts_at, begin_acts, begins_call, begins_next, finds, look_finds, turn_acts}

-- the seat's place after its turn
pub record Became (s next : State) (seat : ℕ) (m : Machine) (acts : List SeatAct) : Type 0 where
  pub place : Place
  pub set : next.seats ≡ slice_set s.seats seat place
  pub client : place.client ≡ lived m acts

-- a life goes on
pub lived_on : (m : Machine) (more life : List SeatAct) → lived m (more ++ life) ≡ lived (lived m life) more
lived_on m [] life = refl
lived_on m (Begins call ∷ more) life = ap (λ (k : Machine). lived k (Begins call ∷ [])) (lived_on m more life)
lived_on m (Takes x ∷ more) life = ap (λ (k : Machine). machine_behind k x) (lived_on m more life)
lived_on m (Rests ∷ more) life = ap (λ (k : Machine). lived k (Rests ∷ [])) (lived_on m more life)

settled_client : (k : Machine) (q : Place) (log more : List Entry) (x : Found) (b : Bool) → (cond b (resting q log (machine_behind k x)) (going q log more (machine_behind k x))).client ≡ lived k (cond b (Rests ∷ []) [] ++ Takes x ∷ [])
settled_client k q log more x b = search rules

module _ (s : State) (seat : ℕ) (q : Place) where
  abbrev ended : Found → Bool
  ended x = has_ended (machine_behind q.client x).phase

  look_client : (line : Line) (b : Bool) → cond b (turned_by q.client line.left) (fed_by q.client line.served) ≡ machine_behind q.client (cond b (Turn line.left) (Word line.served))
  look_client line b = search rules

  pub took_became : (w : Want) → Became s (took s seat q w) seat q.client (turn_acts q.client (finds s seat q w))
  took_became (want.Event e) =
      let x = Word (found_by s.words e) in
      record { place = place_after q s.log (makes q.client) (machine_behind q.client x); set = refl; client = settled_client q.client q s.log (makes q.client) x (ended x) }
  took_became (want.Draw lock) =
      let line = line_of s seat lock in
      let r = place_called q line (want.Draw lock) in
      record { place = place_after r s.log [] (machine_behind q.client (Word line.next)); set = refl; client = settled_client q.client r s.log [] (Word line.next) (ended (Word line.next)) }
  took_became (want.Look lock) =
      let line = line_of s seat lock in
      let r = place_called q line (want.Look lock) in
      let x = look_finds q line in
      record {
        place = place_after r s.log [] (looked_client q line);
        set = refl;
        client = ap (λ (m : Machine). (place_after r s.log [] m).client) (look_client line (line.served == q.ticket)) ∙ settled_client q.client r s.log [] x (ended x);
      }
  took_became (want.Waiting lock) =
      let line = line_of s seat lock in
      let r = place_called q line (want.Waiting lock) in
      let x = Word (behind_in line q.ticket) in
      record { place = place_after r s.log [] (machine_behind q.client x); set = refl; client = settled_client q.client r s.log [] x (ended x) }
  took_became (want.Leave lock carry) =
      let r = place_called q (line_of s seat lock) (want.Leave lock carry) in
      record { place = place_after r s.log [] (machine_behind q.client (Word 0)); set = refl; client = settled_client q.client r s.log [] (Word 0) (ended (Word 0)) }
  took_became want.Done = record { place = q; set = refl; client = refl }

starts_client : (calls : List Given) (q : Place) (number seen : ℕ) (o : Option Given) → (starts calls q number seen o).client ≡ lived q.client (begins_call o)
starts_client calls q number seen o = search rules

next_client : (calls : List Given) (q : Place) (seen : ℕ) (o : Option ℕ) → (starts_next calls q seen o).client ≡ lived q.client (begins_next calls o)
next_client calls q seen o = search (rules, starts_client)

pub asked_client : (calls : List Given) (q : Place) (seen : ℕ) (w : Want) → (asked_in calls q seen w).client ≡ lived q.client (begin_acts calls q w)
asked_client calls q seen w = search (rules, next_client)

pub turn_lives : (s : State) (seat : ℕ) (q : Place) → slice_get s.seats seat ≡ Some q → Became s (turn_of s seat) seat q.client (acts_at s seat q)
turn_lives s seat q here =
    let r = asked s.calls q (length s.log) in
    let b = took_became s seat r (want_of r.client) in
    let own : r.client ≡ lived q.client (begin_acts s.calls q (want_of q.client)) = asked_client s.calls q (length s.log) (want_of q.client) in
    record {
      place = b.place;
      set = ap (λ (o : Option Place). (turn_at s seat o).seats) here ∙ b.set;
      client =
          b.client
          ∙ ap (λ (m : Machine). lived m (turn_acts r.client (finds s seat r (want_of r.client)))) own
          ∙ sym (lived_on q.client (turn_acts r.client (finds s seat r (want_of r.client))) (begin_acts s.calls q (want_of q.client)));
    }
