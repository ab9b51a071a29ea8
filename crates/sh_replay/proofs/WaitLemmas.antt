-- A call behind an after begins where the calls before it have ended: no turn is taken before.
use Rattle.std.proofs.Common.{rules, ◌≡◌, ◌⊎◌, ◌<◌, ◌≤◌, ℕ, zero, suc, ◌+◌, ◌-◌, Bool, true, false, List, [], ◌∷◌, ◌++◌, length, set, Option, Some, None, refl, sym, ap, subst, ◌∙◌, inl, inr, arith}
use Rattle.std.{specs.{Prelude.{◌==◌, ◌&&◌, if◌then◌else◌, not, nat_le, slice_get, All}, List.{fold, range_with_len}}}
use Rattle.std.proofs.lemmas.{Bool.{cases_eq, cases_lt}, Option.{slice_get_within, get_or_from_slice_get}, List.{Folds.{list_any_at}, Elements.{All-head, All-tail}}}
use Rattle.sh_logic.proofs.{Lists.{set_else, set_here, slice_get-push_back}, Options.{some_is}, Tests.{above_test, at_most_test, same_test}}
use Rattle.sh_base.specs.{declared.{config.ConfigParts.{ConfigParts}, event.Event.{Event}}, Memory.{found_by}, Setting.{all_seats}}
use Rattle.sh_map.specs.{declared.{call.{Call.{Call}, Reply.{Reply}}, book.{Done.{Done}, Row.{Row}}, log.Entry.{Entry}}, Book.{made, Answers, AnswersAt}, Points.{point_of}}
use Rattle.sh_client.{proofs.Wanting.{wants_busy}, specs.{Feeds.{fed_by}, Giving.{makes}, Machine.{Machine}, Rests.{has_ended, is_resting, rows_told}, Wants.{want_of}, declared.state.Want.{Want}}}
use Rattle.sh_client.specs.declared.state.Want.TheVariants as want
use Rattle.sh_sheet.specs.{declared.item.Item.{Item, TheVariants.{Ask, Mark, After, Turn}}, Marks.{is_passed, stops_at, stops_of, Stop}}
use Rattle.sh_world.specs.{States.{Given, Place, State, answered, done_in, dones_from, fresh_call, fresh_from, fresh_state}, Running.{numbers_from, IsRunning}, declared.state.Line.{Line}}
use Rattle.sh_world.specs.Turning.{asked, called, give_at, give_of, going, is_idle_at, line_of, place_called, queued, resting, took, turn_of}
use Rattle.sh_world.proofs.{LawLemmas.{lawful}, PlaceLemmas.{get_answered, number_in, numbers_answered, set_cases}, WorldLemmas.{at1, run1, turn_is, turn_runs}}
use Rattle.sh_replay.specs.{Course.{can_turn, ended_of, given_by, goes_on, is_held_back, seat_of, takes, Asking, Course, Stage}, Waiting.{BeganAt, EndedWith, HasWaited, IsUnderWay}}
use Rattle.sh_replay.proofs.{HeldLemmas.{turn_grows}, StopLemmas.{all_fails, all_grow}, TurnLemmas.{asks, idle_rests, turn_seats, turned_world}}

-- ---- a seat's numbers

module _ (ns : List ℕ) (n m : ℕ) (low : (a : ℕ) → slice_get ns a ≡ Some m → n + 1 ≤ m) (same : (a b : ℕ) → slice_get ns a ≡ Some m → slice_get ns b ≡ Some m → a ≡ b) where
  same_place : (t : Bool) (a b : ℕ) → slice_get (if t then n ∷ ns else ns) a ≡ Some m → slice_get (if t then n ∷ ns else ns) b ≡ Some m → a ≡ b
  same_place false a b h k = same a b h k
  same_place true zero zero h k = refl
  same_place true zero (suc b) h k = absurd (omega (arith, low b k, some_is h))
  same_place true (suc a) zero h k = absurd (omega (arith, low a h, some_is k))
  same_place true (suc a) (suc b) h k = ap suc (same a b h k)

same_index : (seat n m : ℕ) (calls : List Given) (a b : ℕ) → slice_get (numbers_from seat n calls) a ≡ Some m → slice_get (numbers_from seat n calls) b ≡ Some m → a ≡ b
same_index seat n m [] a b h k = absurd (cc)
same_index seat n m (x ∷ calls) a b h k = same_place (numbers_from seat (n + 1) calls) n m (λ c e. (number_in seat (n + 1) calls c m e).low) (λ c d. same_index seat (n + 1) m calls c d) (x.seat == seat) a b h k

-- ---- a call ends

-- of the calls that have ended then, all but this one had ended before
answered_before : (calls : List Given) (i number ended : ℕ) (r : Reply) (rows : List Row) (f p : ℕ) → slice_get (numbers_from i 1 calls) ended ≡ Some number
    → (seat k : ℕ) (g : Given) (x : Reply) → EndedWith (answered calls (number - 1) r rows f p) seat k g x → EndedWith calls seat k g x ⊎ ((seat ≡ i) × (k ≡ ended) × (g.first ≡ f))
answered_before calls i number ended r rows f p at seat k g x e =
    let own = ap (λ ns. slice_get ns k) (sym (numbers_answered seat 1 calls (number - 1) r rows f p)) ∙ e.own in
    elim (get_answered calls (number - 1) r rows f p (e.number - 1) g e.here) [
      | inl was ↦ inl (record { number = e.number; own = own; here = was; reply_is = e.reply_is })
      | inr now ↦
          let a = number_in seat 1 calls k e.number own in
          let b = number_in i 1 calls ended number at in
          let same : e.number ≡ number = omega (arith, now.0, a.low, b.low) in
          let seat_is : seat ≡ i = sym a.seat_is ∙ ap (λ (y : Given). y.seat) (some_is (sym a.here ∙ ap (λ m. slice_get calls (m - 1)) same ∙ b.here)) ∙ b.seat_is in
          inr (seat_is, same_index i 1 number calls k ended (subst (λ s. slice_get (numbers_from s 1 calls) k ≡ Some number) seat_is (own ∙ ap Some same)) at, ap (λ (y : Given). y.first) now.3)
    ]

-- ---- a seat's client is fed

module _ (s : State) (i : ℕ) (R : Place) (lt : i < length s.seats) (busy : is_resting R.client ≡ false) (at : slice_get (numbers_from i 1 s.calls) R.ended ≡ Some R.number) where
  module _ (q : Place) (number_is : q.number ≡ R.number) (ended_is : q.ended ≡ R.ended) (first_is : q.first ≡ R.first) (log more : List Entry) (m : Machine) (r : Reply) (rows : List Row) (p : ℕ) where
    abbrev calls_by : Bool → List Given
    calls_by b = if b then answered s.calls (q.number - 1) r rows q.first p else s.calls

    abbrev place_by : Bool → Place
    place_by b = if b then resting q log m else going q log more m

    ended_before : (b : Bool) (seat k : ℕ) (g : Given) (x : Reply) → EndedWith (calls_by b) seat k g x → EndedWith s.calls seat k g x ⊎ ((seat ≡ i) × (k ≡ R.ended) × (g.first ≡ R.first))
    ended_before false seat k g x e = inl e
    ended_before true seat k g x e = elim (answered_before s.calls i q.number q.ended r rows q.first p (ap (slice_get (numbers_from i 1 s.calls)) ended_is ∙ at ∙ ap Some (sym number_is)) seat k g x e) [
      | inl was ↦ inl was
      | inr now ↦ inr (now.0, now.1 ∙ ended_is, now.2 ∙ first_is)
    ]

    at_way : (k first : ℕ) → R.ended ≡ k → R.first ≡ first → IsUnderWay (set s.seats i R) i k first
    at_way k first is from = record { place = R; here = set_here s.seats i R lt; busy = busy; before_is = is; first_is = from }

    own_way : (b : Bool) (x : Place) (k first : ℕ) → place_by b ≡ x → is_resting x.client ≡ false → x.ended ≡ k → x.first ≡ first → IsUnderWay (set s.seats i R) i k first
    own_way true x k first is open_one e f = absurd (let z = ap (λ (y : Place). is_resting y.client) is ∙ open_one in cc)
    own_way false x k first is open_one e f = at_way k first (sym ended_is ∙ ap (λ (y : Place). y.ended) is ∙ e) (sym first_is ∙ ap (λ (y : Place). y.first) is ∙ f)

    began_before : (b : Bool) (seat k first : ℕ) → BeganAt (calls_by b) (set s.seats i (place_by b)) seat k first → BeganAt s.calls (set s.seats i R) seat k first
    began_before b seat k first (inl e) = elim (ended_before b seat k e.call e.reply e.ended) [
      | inl was ↦ inl (record { call = e.call; reply = e.reply; ended = was; first_is = e.first_is })
      | inr now ↦ inr (subst (λ j. IsUnderWay (set s.seats i R) j k first) (sym now.0) (at_way k first (sym now.1) (sym now.2 ∙ e.first_is)))
    ]
    began_before b seat k first (inr w) = elim (cases_eq seat i) [
      | inl is ↦ inr (subst (λ j. IsUnderWay (set s.seats i R) j k first) (sym is) (own_way b w.place k first (some_is (sym (set_here s.seats i (place_by b) lt) ∙ ap (slice_get (set s.seats i (place_by b))) (sym is) ∙ w.here)) w.busy w.before_is w.first_is))
      | inr ne ↦ inr (record { place = w.place; here = set_else s.seats i seat R ne ∙ sym (set_else s.seats i seat (place_by b) ne) ∙ w.here; busy = w.busy; before_is = w.before_is; first_is = w.first_is })
    ]

-- ---- a turn

called_same : (q : Place) (line : Line) (w : Want) → ((place_called q line w).number ≡ q.number) × ((place_called q line w).ended ≡ q.ended) × ((place_called q line w).first ≡ q.first)
called_same q line w = search rules

-- what had ended and begun before a turn of seat i
pub record TurnsFrom (s : State) (i ended : ℕ) (t : State) : Type 0 where
  pub ends : (seat k : ℕ) (g : Given) (x : Reply) → EndedWith t.calls seat k g x → EndedWith s.calls seat k g x ⊎ ((seat ≡ i) × (k ≡ ended))
  pub begins : (seat k first : ℕ) → BeganAt t.calls t.seats seat k first → BeganAt s.calls s.seats seat k first ⊎ ((seat ≡ i) × (k ≡ ended) × (first ≡ length s.log))

module _ (s : State) (run : IsRunning s) (i : ℕ) (q : Place) (at : slice_get s.seats i ≡ Some q) where
  abbrev R : Place
  R = asked s.calls q (length s.log)

  lt : i < length s.seats
  lt = slice_get_within s.seats i q at

  abbrev AsBefore : State → Type 0
  AsBefore t = ((seat k : ℕ) (g : Given) (x : Reply) → EndedWith t.calls seat k g x → EndedWith s.calls seat k g x ⊎ ((seat ≡ i) × (k ≡ R.ended) × (g.first ≡ R.first))) × ((seat k first : ℕ) → BeganAt t.calls t.seats seat k first → BeganAt s.calls (set s.seats i R) seat k first)

  module _ (busy : is_resting R.client ≡ false) where
    next : slice_get (numbers_from i 1 s.calls) R.ended ≡ Some R.number
    next = let pl = (run1 s run i q at).places i R (at1 s run i q at) in ap (λ (ns : List ℕ). slice_get ns R.ended) (sym pl.numbers) ∙ pl.busy busy

    event_before : (e : Event) → AsBefore (took s i R (want.Event e))
    event_before e =
        let m = fed_by R.client (found_by s.words e) in
        let p = point_of s.log R.first R.point m.registers.call m.registers.reply in
        (ended_before s i R lt busy next R refl refl refl s.log (makes R.client) m m.registers.reply (rows_told m) p (has_ended m.phase), began_before s i R lt busy next R refl refl refl s.log (makes R.client) m m.registers.reply (rows_told m) p (has_ended m.phase))

    line_before : (w : Want) (lock : ℕ) → AsBefore (called s i lock R (line_of s i lock) w)
    line_before w lock =
        let r = place_called R (line_of s i lock) w in
        let m = r.client in
        let p = point_of s.log r.first r.point m.registers.call m.registers.reply in
        let same = called_same R (line_of s i lock) w in
        (ended_before s i R lt busy next r same.0 same.1 same.2 s.log [] m m.registers.reply (rows_told m) p (has_ended m.phase), began_before s i R lt busy next r same.0 same.1 same.2 s.log [] m m.registers.reply (rows_told m) p (has_ended m.phase))

  took_before : (w : Want) → want_of R.client ≡ w → AsBefore (took s i R w)
  took_before want.Done e = (λ seat k g x h. inl h, λ seat k first h. h)
  took_before (want.Event x) e = event_before (wants_busy R.client (want.Event x) e (λ z. cc)) x
  took_before (want.Draw lock) e = line_before (wants_busy R.client (want.Draw lock) e (λ z. cc)) (want.Draw lock) lock
  took_before (want.Look lock) e = line_before (wants_busy R.client (want.Look lock) e (λ z. cc)) (want.Look lock) lock
  took_before (want.Waiting lock) e = line_before (wants_busy R.client (want.Waiting lock) e (λ z. cc)) (want.Waiting lock) lock
  took_before (want.Leave lock carry) e = line_before (wants_busy R.client (want.Leave lock carry) e (λ z. cc)) (want.Leave lock carry) lock

  asked_is : (R ≡ q) ⊎ ((R.ended ≡ q.ended) × (R.first ≡ length s.log))
  asked_is = search rules

  ended_is : R.ended ≡ ended_of s i
  ended_is = let pl = (run1 s run i q at).places i R (at1 s run i q at) in sym pl.count

  -- the seat may have begun its next call with the turn
  asked_before : (seat k first : ℕ) → BeganAt s.calls (set s.seats i R) seat k first → BeganAt s.calls s.seats seat k first ⊎ ((seat ≡ i) × (k ≡ ended_of s i) × (first ≡ length s.log))
  asked_before seat k first (inl e) = inl (inl e)
  asked_before seat k first (inr w) = elim (cases_eq seat i) [
    | inr ne ↦ inl (inr (record { place = w.place; here = sym (set_else s.seats i seat R ne) ∙ w.here; busy = w.busy; before_is = w.before_is; first_is = w.first_is }))
    | inl is ↦
        let own : R ≡ w.place = some_is (sym (set_here s.seats i R lt) ∙ ap (slice_get (set s.seats i R)) (sym is) ∙ w.here) in
        elim asked_is [
          | inl same ↦ inl (inr (record { place = w.place; here = ap (slice_get s.seats) is ∙ at ∙ ap Some (sym same ∙ own); busy = w.busy; before_is = w.before_is; first_is = w.first_is }))
          | inr now ↦ inr (is, sym w.before_is ∙ sym (ap (λ (y : Place). y.ended) own) ∙ ended_is, sym w.first_is ∙ sym (ap (λ (y : Place). y.first) own) ∙ now.1)
        ]
  ]

  turns_from : TurnsFrom s i (ended_of s i) (turn_of s i)
  turns_from =
      let t = took_before (want_of R.client) refl in
      subst (TurnsFrom s i (ended_of s i)) (sym (turn_is s run i q at (want_of R.client) refl)) (record {
        ends = λ seat k g x e. elim (t.0 seat k g x e) [ inl was ↦ inl was | inr now ↦ inr (now.0, now.1 ∙ ended_is) ];
        begins = λ seat k first e. asked_before seat k first (t.1 seat k first e);
      })

-- ---- what has ended is in the log

entry_within : (log : List Entry) (p : ℕ) (e : Entry) → slice_get log p ≡ Some e → p + 1 ≤ length log
entry_within log p e here = omega (arith, slice_get_within log p e here)

none_within : (log : List Entry) (p : ℕ) → p ≤ length log → p + 0 ≤ length log
none_within log p within = omega (arith, within)

made_within : (log : List Entry) (d : Done) (call : Call) (r : Reply) → d.point ≤ length log → AnswersAt log d call r → d.point + made call r ≤ length log
made_within log d call r within row = search (rules, entry_within, none_within)

all_behind : (P : Done → Type 0) (n : ℕ) (g : Given) (ds : List Done) (o : Option Reply) → All P (done_in n g o ++ ds) → All P ds
all_behind P n g ds None all = all
all_behind P n g ds (Some r) all = All-tail P (record { n = n; seat = g.seat; call = g.call; reply = r; first = g.first; point = g.point; rows = g.rows }) ds all

answered_at : (log : List Entry) (n : ℕ) (calls : List Given) (place : ℕ) (g : Given) (r : Reply) → All (Answers log) (dones_from n calls) → slice_get calls place ≡ Some g → g.reply ≡ Some r → g.point + made g.call r ≤ length log
answered_at log n [] place g r all here is = absurd (cc)
answered_at log n (x ∷ calls) zero g r all here is =
    let d : Done = record { n = n; seat = x.seat; call = x.call; reply = r; first = x.first; point = x.point; rows = x.rows } in
    let a = All-head (Answers log) d (dones_from (n + 1) calls) (subst (λ (o : Option Reply). All (Answers log) (done_in n x o ++ dones_from (n + 1) calls)) (ap (λ (y : Given). y.reply) (some_is here) ∙ is) all) in
    subst (λ (y : Given). y.point + made y.call r ≤ length log) (some_is here) (made_within log d d.call d.reply a.within a.row)
answered_at log n (x ∷ calls) (suc place) g r all here is = answered_at log (n + 1) calls place g r (all_behind (Answers log) n x (dones_from (n + 1) calls) x.reply all) here is

ended_within : (s : State) → IsRunning s → (seat k : ℕ) (g : Given) (r : Reply) → EndedWith s.calls seat k g r → g.point + made g.call r ≤ length s.log
ended_within s run seat k g r e = answered_at s.log 1 s.calls (e.number - 1) g r (lawful s run).book.lawful.answers e.here e.reply_is

-- ---- a seat that may take a turn has passed its afters

passed_of : (a b c : Bool) → (a && b && not c) ≡ false → a ≡ true → b ≡ true → c ≡ true
passed_of a b c e x y = search rules

free_of : (items : List Item) (s : State) (i n : ℕ) (x : Stop) → can_turn items s i ≡ true → slice_get (stops_of items) n ≡ Some x → x.seat ≡ i → x.counts i ≤ ended_of s i → is_passed (ended_of s) (length s.seats) x ≡ true
free_of items s i n x can here is reached = passed_of (x.seat == i) (nat_le (x.counts i) (ended_of s i)) _ (none_stops (stops_at (ended_of s) (length s.seats) i x) refl) (same_test x.seat i is) (at_most_test (x.counts i) (ended_of s i) reached) where
  not_held : (a b : Bool) → (a && not b) ≡ true → b ≡ true → ⊥
  not_held a b c e = search rules

  none_stops : (b : Bool) → stops_at (ended_of s) (length s.seats) i x ≡ b → b ≡ false
  none_stops false e = refl
  none_stops true e = absurd (not_held _ (is_held_back items s i) can (list_any_at (stops_at (ended_of s) (length s.seats) i) (stops_of items) n x (slice_get_within (stops_of items) n x here) (ap (stops_at (ended_of s) (length s.seats) i) (get_or_from_slice_get (stops_of items) n x x here) ∙ e)))

passed_at : (ended : ℕ → ℕ) (seats i : ℕ) (x : Stop) → i < seats → is_passed ended seats x ≡ true → x.counts i ≤ ended i
passed_at ended seats i x below passed = elim (cases_lt (ended i) (x.counts i)) [
  | inr reached ↦ reached
  | inl less ↦ absurd (let z = sym passed ∙ all_fails (λ of. nat_le (x.counts of) (ended of)) seats i below (above_test (x.counts i) (ended i) less) in cc)
]

-- ---- what a turn leaves

-- a call behind an after has begun where all that come before had ended, and behind their points
abbrev pub Waits : List Item → State → Type 0
Waits items s = (n : ℕ) (x : Stop) (behind first : ℕ) → slice_get (stops_of items) n ≡ Some x → x.counts x.seat ≤ behind → BeganAt s.calls s.seats x.seat behind first
    → (is_passed (ended_of s) (length s.seats) x ≡ true) × ((seat before : ℕ) (g : Given) (r : Reply) → before < x.counts seat → EndedWith s.calls seat before g r → g.point + made g.call r ≤ first)

module _ (items : List Item) (s : State) (run : IsRunning s) (i : ℕ) (q : Place) (at : slice_get s.seats i ≡ Some q) (can : can_turn items s i ≡ true) (h : Waits items s) where
  abbrev Then : ℕ → Stop → Type 0
  Then first x = (is_passed (ended_of s) (length s.seats) x ≡ true) × ((seat before : ℕ) (g : Given) (r : Reply) → before < x.counts seat → EndedWith s.calls seat before g r → g.point + made g.call r ≤ first)

  had : (n : ℕ) (x : Stop) (behind first : ℕ) → slice_get (stops_of items) n ≡ Some x → x.counts x.seat ≤ behind → BeganAt s.calls s.seats x.seat behind first ⊎ ((x.seat ≡ i) × (behind ≡ ended_of s i) × (first ≡ length s.log)) → Then first x
  had n x behind first here after (inl was) = h n x behind first here after was
  had n x behind first here after (inr now) = (
    free_of items s i n x can here now.0 (omega (arith, after, now.1, ap x.counts now.0)),
    λ seat before g r less e. subst (λ m. g.point + made g.call r ≤ m) (sym now.2) (ended_within s run seat before g r e),
  )

  turn_waits : Waits items (turn_of s i)
  turn_waits n x behind first here after began =
      let f = turns_from s run i q at in
      let t = had n x behind first here after (f.begins x.seat behind first began) in (
        subst (λ m. is_passed (ended_of (turn_of s i)) m x ≡ true) (sym (turn_seats s i)) (all_grow (ended_of s) (ended_of (turn_of s i)) x.counts (range_with_len 0 (length s.seats)) (turn_grows s i) t.0),
        λ seat before g r less e. elim (f.ends seat before g r e) [
          | inl was ↦ t.1 seat before g r less was
          | inr now ↦ absurd (omega (arith, less, now.1, ap x.counts now.0, passed_at (ended_of s) (length s.seats) i x (slice_get_within s.seats i q at) t.0))
        ],
      )

-- ---- along a course

takes_can : (items : List Item) (r : Stage) (a : Asking) → takes items r a ≡ true → can_turn items r.world (seat_of a) ≡ true
takes_can items r a e = search rules

busy_place : (items : List Item) (s : State) (i : ℕ) (o : Option Place) → slice_get s.seats i ≡ o → can_turn items s i ≡ true → (q : Place) × (slice_get s.seats i ≡ Some q)
busy_place items s i None here can = absurd (let z = sym (idle_rests items s i (ap is_idle_at here)) ∙ can in cc)
busy_place items s i (Some q) here can = (q, here)

-- a world that runs, where each begun call has waited
abbrev pub IsRight : List Item → State → Type 0
IsRight items s = IsRunning s × Waits items s

right_turn : (items : List Item) (s : State) (i : ℕ) → can_turn items s i ≡ true → IsRight items s → IsRight items (turn_of s i)
right_turn items s i can h = let q = busy_place items s i (slice_get s.seats i) refl can in (turn_runs s h.0 i q.0 q.1, turn_waits items s h.0 i q.0 q.1 can h.1)

right_ask : (items : List Item) (c : Course) (a : Asking) → IsRight items c.stage.world → IsRight items (goes_on items c a).stage.world
right_ask items c a h = elim (asks items c a) [
  | inl same ↦ subst (λ (t : Course). IsRight items t.stage.world) (sym same) h
  | inr turn ↦ subst (IsRight items) (sym (ap (λ (r : Stage). r.world) turn.0 ∙ turned_world c.stage a)) (right_turn items c.stage.world (seat_of a) (takes_can items c.stage a turn.1) h)
]

pub right_course : (items : List Item) (asks : List Asking) (c : Course) → IsRight items c.stage.world → IsRight items (fold (goes_on items) c asks).stage.world
right_course items [] c h = h
right_course items (a ∷ asks) c h = right_course items asks (goes_on items c a) (right_ask items c a h)

pub has_waited : (items : List Item) (s : State) → IsRight items s → HasWaited items s
has_waited items s h n x seat before behind first g reply here less ended after began = (h.1 n x behind first here after began).1 seat before g reply less ended

-- ---- the beginning

-- no call was begun
pub record AreFresh (calls : List Given) (seats : List Place) : Type 0 where
  pub open_calls : (place : ℕ) (g : Given) → slice_get calls place ≡ Some g → g.reply ≡ None
  pub at_rest : (seat : ℕ) (q : Place) → slice_get seats seat ≡ Some q → is_resting q.client ≡ true

fresh_rests : (p : ConfigParts) (seat count i : ℕ) (q : Place) → slice_get (fresh_from p seat count) i ≡ Some q → is_resting q.client ≡ true
fresh_rests p seat zero i q here = absurd (cc)
fresh_rests p seat (suc count) zero q here = ap (λ (y : Place). is_resting y.client) (sym (some_is here))
fresh_rests p seat (suc count) (suc i) q here = fresh_rests p (seat + 1) count i q here

give_fresh : (s : State) (seat : ℕ) (call : Call) (o : Option Place) → slice_get s.seats seat ≡ o → AreFresh s.calls s.seats → AreFresh (give_at s seat call o).calls (give_at s seat call o).seats
give_fresh s seat call None at h = h
give_fresh s seat call (Some q) at h = record {
  open_calls = λ place g here. elim (slice_get-push_back s.calls (fresh_call seat call) g place here) [ inl was ↦ h.open_calls place g was | inr now ↦ ap (λ (y : Given). y.reply) (sym now.1) ];
  at_rest = λ j y here. elim (set_cases s.seats seat j (queued q (length s.calls + 1)) y (slice_get_within s.seats seat q at) here) [ inl own ↦ ap (λ (z : Place). is_resting z.client) own.1 ∙ h.at_rest seat q at | inr other ↦ h.at_rest j y other.1 ];
}

given_fresh : (items : List Item) (s : State) → AreFresh s.calls s.seats → AreFresh (fold given_by s items).calls (fold given_by s items).seats
given_fresh [] s h = h
given_fresh (Ask seat call ∷ items) s h = given_fresh items (give_of s seat call) (give_fresh s seat call (slice_get s.seats seat) refl h)
given_fresh (Mark seat n ∷ items) s h = given_fresh items s h
given_fresh (After seat n ∷ items) s h = given_fresh items s h
given_fresh (Turn seat count ∷ items) s h = given_fresh items s h

none_begun : (s : State) → AreFresh s.calls s.seats → (seat behind first : ℕ) → BeganAt s.calls s.seats seat behind first → ⊥
none_begun s h seat behind first (inl e) = let z = sym (h.open_calls (e.ended.number - 1) e.call e.ended.here) ∙ e.ended.reply_is in cc
none_begun s h seat behind first (inr w) = let z = sym (h.at_rest seat w.place w.here) ∙ w.busy in cc

pub right_given : (p : ConfigParts) (words : List ℕ) (sheet items : List Item) → IsRunning (fold given_by (fresh_state p words) items) → IsRight sheet (fold given_by (fresh_state p words) items)
right_given p words sheet items run = (run, λ n x behind first here after began. absurd (none_begun (fold given_by (fresh_state p words) items) (given_fresh items (fresh_state p words) (record { open_calls = λ place g here. absurd (cc); at_rest = fresh_rests p 0 (all_seats p) })) x.seat behind first began))
