-- What holds of a world after any turns, by the core's laws.
use Rattle.std.proofs.Common.{rules, ◌≡◌, ◌≢◌, ℕ, zero, suc, ◌+◌, ◌-◌, ◌<◌, ◌≤◌, inl, inr, Bool, true, List, [], ◌∷◌, ◌++◌, length, Option, Some, None, refl, sym, ap, ◌∙◌, subst, arith, append-nil}
use Rattle.std.{proofs.{Common.{eq-eqb, eqb-true}, lemmas.{Bool.{and_parts}, List.{Elements.{All-cons}, Kept.{AllPairs-cons}}, Option.{slice_get_cases, slice_get_past}}}, specs.List.{AllByRecursion}}
use Rattle.std.specs.Prelude.{◌==◌, if◌then◌else◌, slice_get, map, All, AllPairs}
use Rattle.sh_logic.proofs.{Lists.{set_same}, Options.{none_some, some_none}}
use Rattle.sh_map.specs.{declared.{call.{Reply.{Reply}, Call.{Call}}, book.Done.{Done}, log.Entry.{Entry}}}
use Rattle.sh_client.{proofs.BeginLemmas.{has_begun}, specs.{Giving.{made_in}, InLine.{stand_in, IsIn}, Machine.{Machine}, Rests.{is_resting}, Wants.{want_of}}}
use Rattle.sh_client.specs.declared.state.{Phase.{Phase}, Want.{Want}}
use Rattle.sh_core.specs.Actors.{Actor}
use Rattle.sh_core_says.{specs.Books.{numbered, IsBookOf}, proofs.{AtRest.{at_rest}, Books.{books_are_lawful, calls_are_answered, refusals_have_causes}, Moments.{each_moment}}}
use Rattle.sh_core_turns.proofs.Senses.{never_senseless}
use Rattle.sh_world.proofs.{PlaceLemmas.{number_in}, RunLemmas.{entries_one, log_few, seat_at}, WorldLemmas.{rests_done}}
use Rattle.sh_world.specs.{Laws.{entries_at, entries_wanted, AllIdle, Clients, Extends, IdlesRight, Rights, IsLawfulWorld}, Running.{numbers_from, IsRunning}}
use Rattle.sh_world.specs.States.{Given, Place, State, actor_of, done_in, dones_by, dones_from, dones_of}
use Rattle.sh_world.specs.Turning.{answer_at, turn_answer_in, answer_of, asked, asked_in, is_done, is_idle, is_idle_at, started, starts, starts_next, took, turn_at, turn_of}
use Rattle.sh_client.specs.declared.state.Want.TheVariants as want
use Rattle.sh_world.specs.declared.turn.Turn.TheVariants as turn

-- ---- the book

numbers_from_n : (n m : ℕ) (calls : List Given) → n ≤ m → All (λ (d : Done). n ≤ d.n) (dones_from m calls)
numbers_from_n n m [] le = λ i d lt. absurd (omega (arith, lt))
numbers_from_n n m (g ∷ calls) le = by_reply (numbers_from_n n (m + 1) calls (omega (arith, le))) g.reply where
  by_reply : All (λ (d : Done). n ≤ d.n) (dones_from (m + 1) calls) → (o : Option Reply) → All (λ (d : Done). n ≤ d.n) (done_in m g o ++ dones_from (m + 1) calls)
  by_reply h None = h
  by_reply h (Some r) = All-cons (λ (d : Done). n ≤ d.n) (record { n = m; seat = g.seat; call = g.call; reply = r; first = g.first; point = g.point; rows = g.rows }) (dones_from (m + 1) calls) le h

rise : (n : ℕ) (calls : List Given) → AllPairs (λ (d e : Done). d.n < e.n) (dones_from n calls)
rise n [] = λ i j d less lt. absurd (omega (arith, lt))
rise n (g ∷ calls) = by_reply (rise (n + 1) calls) (numbers_from_n (n + 1) (n + 1) calls (omega arith)) g.reply where
  by_reply : AllPairs (λ (d e : Done). d.n < e.n) (dones_from (n + 1) calls) → All (λ (d : Done). n + 1 ≤ d.n) (dones_from (n + 1) calls) → (o : Option Reply) → AllPairs (λ (d e : Done). d.n < e.n) (done_in n g o ++ dones_from (n + 1) calls)
  by_reply h more None = h
  by_reply h more (Some r) = AllPairs-cons (λ (d e : Done). d.n < e.n) (record { n = n; seat = g.seat; call = g.call; reply = r; first = g.first; point = g.point; rows = g.rows }) (dones_from (n + 1) calls) (λ i d lt. let m = more i d lt in omega (arith, m)) h

owners : (Has : ℕ → Actor → Type 0) (n : ℕ) (calls : List Given) → ((k : ℕ) (g : Given) → slice_get calls k ≡ Some g → (a : Actor) × Has g.seat a) → AllByRecursion (λ (d : Done). (a : Actor) × Has d.seat a) (dones_from n calls)
owners Has n [] h = tt
owners Has n (g ∷ calls) h = by_reply (owners Has (n + 1) calls (λ k x e. h (suc k) x e)) (h 0 g refl) g.reply where
  by_reply : AllByRecursion (λ (d : Done). (a : Actor) × Has d.seat a) (dones_from (n + 1) calls) → (a : Actor) × Has g.seat a → (o : Option Reply) → AllByRecursion (λ (d : Done). (a : Actor) × Has d.seat a) (done_in n g o ++ dones_from (n + 1) calls)
  by_reply r own None = r
  by_reply r own (Some x) = (own, r)

-- ---- where all of a seat's calls have ended

-- one call more: no more of the seat's have ended than there are, and fewer where it's the seat's and has no reply
one_more : (seat n m : ℕ) (g : Given) (ds : List Done) (ns : List ℕ) (o : Option Reply) (b : Bool) → (g.seat == seat) ≡ b → let ended = length (dones_by seat (done_in n g o ++ ds)) + length ns in let all = length (if b then m ∷ ns else ns) + length (dones_by seat ds) in (ended ≤ all) × (b ≡ true → o ≡ None → ended < all)
one_more seat n m g ds ns o b e = search (rules, some_none)

ended_few : (seat n m : ℕ) (calls : List Given) → length (dones_by seat (dones_from n calls)) ≤ length (numbers_from seat m calls)
ended_few seat n m [] = omega arith
ended_few seat n m (g ∷ calls) = omega (arith, (one_more seat n m g (dones_from (n + 1) calls) (numbers_from seat (m + 1) calls) g.reply (g.seat == seat) refl).0, ended_few seat (n + 1) (m + 1) calls)

ended_all_of : (seat n m : ℕ) (calls : List Given) → length (dones_by seat (dones_from n calls)) ≡ length (numbers_from seat m calls) → (k : ℕ) (g : Given) → slice_get calls k ≡ Some g → g.seat ≡ seat → g.reply ≢ None
ended_all_of seat n m [] e k g at own none = cc
ended_all_of seat n m (x ∷ calls) e zero g at own none =
    let same : x ≡ g = cc in
    let one = one_more seat n m x (dones_from (n + 1) calls) (numbers_from seat (m + 1) calls) x.reply (x.seat == seat) refl in
    let less = one.1 (eq-eqb x.seat seat (ap (λ (y : Given). y.seat) same ∙ own)) (ap (λ (y : Given). y.reply) same ∙ none) in
    absurd (omega (arith, e, less, ended_few seat (n + 1) (m + 1) calls))
ended_all_of seat n m (x ∷ calls) e (suc k) g at own none =
    let one = one_more seat n m x (dones_from (n + 1) calls) (numbers_from seat (m + 1) calls) x.reply (x.seat == seat) refl in
    ended_all_of seat (n + 1) (m + 1) calls (omega (arith, e, one.0, ended_few seat (n + 1) (m + 1) calls)) k g at own none

done_is : (w : Want) → is_done w ≡ true → w ≡ want.Done
done_is w e = search rules

module _ (s : State) (run : IsRunning s) where
  client_at : (k : ℕ) (g : Given) → slice_get s.calls k ≡ Some g → (a : Actor) × Clients s g.seat a
  client_at k g e =
      let small = (run.given k g e).seat_is in
      let q = seat_at s run g.seat (omega (arith, small, run.seats)) in
      (actor_of s.calls g.seat q.0, record { place = q.0; here = q.1; actor_is = refl })

  book : IsBookOf (Clients s) (dones_of s.calls)
  book = record {
    seats = owners (Clients s) 1 s.calls client_at;
    own = λ seat a h. ap (λ (x : Actor). map (numbered 0) x.dones) (sym h.actor_is);
    numbers = rise 1 s.calls;
  }

  -- an idle seat's client is at rest, and stands nowhere
  idle_rests : (seat : ℕ) (q : Place) → slice_get s.seats seat ≡ Some q → is_idle_at (Some q) ≡ true → is_resting q.client ≡ true
  idle_rests seat q at e = rests_done s run seat q at (done_is (want_of q.client) (and_parts (is_done (want_of q.client)) (q.ended == length q.numbers) e).0)

  all_rest : AllIdle s → (seat : ℕ) (a : Actor) → Clients s seat a → is_resting a.client ≡ true
  all_rest idle seat a h = subst (λ (x : Actor). is_resting x.client ≡ true) (sym h.actor_is) (idle_rests seat h.place h.here (idle seat h.place h.here))

  no_right : AllIdle s → (lock compute depth : ℕ) → Rights s lock compute depth → ⊥
  no_right idle lock compute depth h =
      let l = run.lines.each lock compute h.line h.lock_is h.compute_is h.here in
      let x = l.each 0 (omega (arith, (l.left depth h.left).0)) in
      let phase = (run.places x.seat x.place x.stands.here).rests (idle_rests x.seat x.place x.stands.here (idle x.seat x.place x.stands.here)) in
      subst (IsIn lock) (ap (stand_in x.place.client.setting x.place.client.registers) phase) x.stands.stands

  -- all calls have ended
  all_ended : AllIdle s → (k : ℕ) (g : Given) → slice_get s.calls k ≡ Some g → g.reply ≢ None
  all_ended idle k g e none =
      let small = (run.given k g e).seat_is in
      let q = seat_at s run g.seat (omega (arith, small, run.seats)) in
      let pl = run.places g.seat q.0 q.1 in
      let all = eqb-true q.0.ended (length q.0.numbers) (and_parts (is_done (want_of q.0.client)) (q.0.ended == length q.0.numbers) (idle g.seat q.0 q.1)).1 in
      let numbers = ap length pl.numbers in
      ended_all_of g.seat 1 1 s.calls (pl.count ∙ all ∙ numbers) k g e refl none

  pub lawful : IsLawfulWorld s
  lawful = record {
    seats = run.seats;
    moment = each_moment s.setting s.words s.log (Clients s) (Rights s) run.inv;
    book = books_are_lawful s.setting s.words s.log (Clients s) (Rights s) (dones_of s.calls) run.inv book;
    causes = refusals_have_causes s.setting s.words s.log (Clients s) (Rights s) (dones_of s.calls) run.inv book;
    answers = λ seat a h. calls_are_answered s.setting s.words s.log (Clients s) (Rights s) seat a run.inv h;
    senses = λ seat a e h w. never_senseless s.setting run.setting s.words s.log (Clients s) (Rights s) seat a e run.inv h w;
    lines = run.lines;
    few = log_few s run;
    ended = all_ended;
    rest = λ idle. at_rest s.setting run.setting s.words s.log (Clients s) (Rights s) run.inv (all_rest idle) (no_right idle);
  }

-- ---- the log

took_log : (s : State) (i : ℕ) (r : Place) (w : Want) → (took s i r w).log ≡ s.log ++ entries_wanted r w
took_log s i r w = search (rules, append-nil)

if_one : (es : List Entry) → length es ≤ 1 → (b : Bool) → length (if b then es else []) ≤ 1
if_one es h b = search rules

made_one : (m : Machine) (ph : Phase) → length (made_in m ph) ≤ 1
made_one m ph = search (rules, if_one, entries_one)

in_one : (r : Place) (w : Want) → length (entries_wanted r w) ≤ 1
in_one r w = search (rules, made_one)

extends_at : (s : State) (i : ℕ) (o : Option Place) → ((turn_at s i o).log ≡ s.log ++ entries_at s o) × (length (entries_at s o) ≤ 1)
extends_at s i o = search (rules, append-nil, took_log, in_one)

pub extends : (s : State) (i : ℕ) → Extends s i
extends s i = let h = extends_at s i (slice_get s.seats i) in record { log = h.0; one = h.1 }

-- ---- idle turns

answer_done : (words : List ℕ) (w : Want) → turn_answer_in words w ≡ turn.Idle → w ≡ want.Done
answer_done words w e = search rules

started_wants : (q : Place) (n seen : ℕ) (call : Call) → want_of (started q n call seen).client ≢ want.Done
started_wants q n seen call = (has_begun q.client call).wants

module _ (s : State) (i : ℕ) (q : Place) where
  asked_idle : is_idle q ≡ true → asked s.calls q (length s.log) ≡ q
  asked_idle e = search (rules, and_parts, eqb-true, slice_get_past, done_is)

  idle_wants : is_idle q ≡ true → want_of (asked s.calls q (length s.log)).client ≡ want.Done
  idle_wants e = ap (λ (x : Place). want_of x.client) (asked_idle e) ∙ done_is (want_of q.client) (and_parts (is_done (want_of q.client)) (q.ended == length q.numbers) e).0

  turned_idle : slice_get s.seats i ≡ Some q → is_idle q ≡ true → turn_at s i (Some q) ≡ s
  turned_idle at idle = (λ z. took s i (asked_idle idle z) (idle_wants idle z)) ∙ (λ z. record { setting = s.setting; words = s.words; log = s.log; seats = set_same s.seats i q at z; calls = s.calls; lines = s.lines })

-- a turn of an idle seat changes nothing
pub turn_idle : (s : State) (i : ℕ) → is_idle_at (slice_get s.seats i) ≡ true → turn_of s i ≡ s
turn_idle s i idle = search (rules, turned_idle)

module _ (s : State) (run : IsRunning s) (i : ℕ) (q : Place) (at : slice_get s.seats i ≡ Some q) where
  calls_none : (o : Option Given) (n : ℕ) → slice_get s.calls (n - 1) ≡ o → slice_get q.numbers q.ended ≡ Some n → want_of (starts s.calls q n (length s.log) o).client ≡ want.Done → ⊥
  calls_none None n e next w =
      let pl = run.places i q at in
      let nu = number_in i 1 s.calls q.ended n (ap (λ (ns : List ℕ). slice_get ns q.ended) (sym pl.numbers) ∙ next) in
      none_some (sym e ∙ nu.here)
  calls_none (Some g) n e next w = started_wants q n (length s.log) g.call w

  next_none : (o : Option ℕ) → slice_get q.numbers q.ended ≡ o → want_of (starts_next s.calls q (length s.log) o).client ≡ want.Done → slice_get q.numbers q.ended ≡ None
  next_none o e w = search (rules, calls_none)

  ended_all : slice_get q.numbers q.ended ≡ None → q.ended ≡ length q.numbers
  ended_all e = elim (slice_get_cases q.numbers q.ended).1 [
    | inl h ↦ absurd (none_some (sym e ∙ h.2))
    | inr h ↦ let le = (run.places i q at).ended in omega (arith, le, h.0)
  ]

  idle_from : (w : Want) → want_of q.client ≡ w → want_of (asked_in s.calls q (length s.log) w).client ≡ want.Done → is_idle q ≡ true
  idle_from w e d = search (rules, ended_all, next_none, eq-eqb)

  answers_idle : answer_of s i ≡ turn.Idle → is_idle q ≡ true
  answers_idle e = idle_from (want_of q.client) refl (answer_done s.words (want_of (asked s.calls q (length s.log)).client) (sym (ap (answer_at s) at) ∙ e))

  pub idles_right : IdlesRight s i
  idles_right = search (rules, answers_idle, idle_wants, turn_idle)

pub idle_at : (s : State) (run : IsRunning s) (i : ℕ) → i < length s.seats → IdlesRight s i
idle_at s run i lt = let q = seat_at s run i lt in idles_right s run i q.0 q.1
