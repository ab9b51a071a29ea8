-- A turn keeps all that holds of a world: its log, its values, its ranges, and what a call is answered.
use Rattle.std.proofs.Common.{rules, ◌≡◌, ◌≢◌, ℕ, zero, suc, ◌+◌, ◌<◌, ◌≤◌, inl, inr, Bool, true, false, List, [], ◌∷◌, length, Some, refl, sym, ap, ◌∙◌, arith, eq-eqb, ne_eqb, ◌++◌, take, Option}
use Rattle.std.proofs.{Common.{subst, get_or, All, ◌-◌, set, append-nil}, lemmas.{Bool.{cases_eq}, List.{length-append, length-set}, Option.{slice_get_within}}}
use Rattle.std.specs.Prelude.{◌==◌, filter, if◌then◌else◌, slice_get}
use Rattle.sh_map.{proofs.{LastLemmas.{value_from}, LogLemmas.{IsLegal-at}, RangeLemmas.{is_rising}, RowsLemmas.{found_in}}, specs.{Book.{AnswersAt, AnswersRange}, Calls.{IsInRange}, Map.{get}}}
use Rattle.sh_map.specs.{Log.{map_at, IsLegal}, Made.{entries_by}, Points.{point_of}, Rows.{nothing}, declared.{book.{Done.{Done}, Row.{Row}}, call.Call.{TheVariants.{Put, Del, Get, Range}, Call}}}
use Rattle.sh_map.specs.declared.{call.Reply.{Reply}, log.{Change.{Change}, Entry.{Entry}}}
use Rattle.sh_core.{proofs.Moves.{put_moves}, specs.Actors.{made_by, updates, Actor, becomes, done_of, ending, actor_going, point_after, AreAnswered, IsAnswered, IsLeast}}
use Rattle.sh_core.specs.{Causes.{HasCause, HaveCauses}, Core.{Inv, Moves, Instead}, Keeps.{pending, KeepsActor}}
use Rattle.sh_core_says.{specs.Rest.{sum_below}, proofs.Books.{pending_stands, MayStand}}
use Rattle.sh_client.specs.{Giving.{made_in}, Machine.{Machine}, Rests.{rows_for, has_ended, is_resting, rows_told}, declared.state.Phase.{Phase}}
use Rattle.sh_world.proofs.PlaceLemmas.{calls_long, agree_ended, set_cases, settled_keeps, AgreeBut, IsNext, get_answered, next_is, place_other, place_own}
use Rattle.sh_world.specs.{Columns.{IsReplyWide, IsRowWide, keys_of}, Lines.{AreLines}, Running.{numbers_from, HasPoint, IsGiven, IsPlace, IsRunning}, Seats.{CanEnd}, declared.state.Line.{Line}}
use Rattle.sh_world.specs.{States.{Given, done_in, dones_by, dones_from, Place, State, actor_of, answered, dones_of, HasActor, IsLeft}, Turning.{calls_after, going, place_after, resting}}
use Rattle.sh_logic.proofs.Options.{some_is}
use Rattle.sh_base.specs.{declared.config.ConfigParts.{ConfigParts}, Setting.{all_seats}}
use Rattle.sh_readers.{specs.Ranges.{IsGathered}, proofs.Gathering.{gathered_few}}
use Rattle.sh_core_turns.proofs.Calls.{rest_keeps}
use Rattle.sh_map.specs.declared.call.Reply.TheVariants as reply
use Rattle.sh_map.specs.declared.log.Change.TheVariants as change

-- a function that is one more at one number below n
sum_same : (n : ℕ) (f g : ℕ → ℕ) → ((j : ℕ) → j < n → g j ≡ f j) → sum_below n g ≡ sum_below n f
sum_same zero f g h = refl
sum_same (suc n) f g h = let e = h n (omega arith) in let r = sum_same n f g (λ j lt. h j (omega (arith, lt))) in omega (arith, e, r)

sum_more : (n k : ℕ) (f g : ℕ → ℕ) → ((j : ℕ) → j ≢ k → g j ≡ f j) → g k ≡ suc (f k) → k < n → sum_below n g ≡ suc (sum_below n f)
sum_more zero k f g h e lt = absurd (omega (arith, lt))
sum_more (suc n) k f g h e lt = elim (cases_eq n k) [
  | inl is ↦ let r = sum_same n f g (λ j below. h j (λ q. absurd (omega (arith, q, is, below)))) in let t : g n ≡ suc (f n) = ap g is ∙ e ∙ sym (ap (λ (m : ℕ). suc (f m)) is) in omega (arith, r, t)
  | inr ne ↦ let r = sum_more n k f g h e (omega (arith, lt, ne)) in let t = h n ne in omega (arith, r, t)
]

sum_less : (n : ℕ) (f g : ℕ → ℕ) → ((j : ℕ) → j < n → f j ≤ g j) → sum_below n f ≤ sum_below n g
sum_less zero f g h = omega arith
sum_less (suc n) f g h = let e = h n (omega arith) in let r = sum_less n f g (λ j lt. h j (omega (arith, lt))) in omega (arith, e, r)

sum_zero : (n : ℕ) → sum_below n (λ j. 0) ≡ 0
sum_zero zero = refl
sum_zero (suc n) = let r = sum_zero n in omega (arith, r)

-- as many as have each of the keys
all_counts : {X : Type 0} (key : X → ℕ) (n : ℕ) (xs : List X) → ((k : ℕ) (x : X) → slice_get xs k ≡ Some x → key x < n) → length xs ≡ sum_below n (λ j. length (filter (λ x. key x == j) xs))
all_counts key n [] h = sym (sum_zero n)
all_counts {X = X} key n (x ∷ xs) h =
    let one : ℕ → Bool → ℕ = λ j b. length (if b then x ∷ filter (λ y. key y == j) xs else filter (λ y. key y == j) xs) in
    ap suc (all_counts key n xs (λ k y e. h (suc k) y e))
    ∙ sym (sum_more n (key x) (λ j. length (filter (λ y. key y == j) xs)) (λ j. one j (key x == j)) (λ j ne. ap (one j) (ne_eqb (key x) j (λ e. ne (sym e)))) (ap (one (key x)) (eq-eqb (key x) (key x) refl)) (h 0 x refl))

number_counts : (j n : ℕ) (calls : List Given) → length (filter (λ (g : Given). g.seat == j) calls) ≡ length (numbers_from j n calls)
number_counts j n [] = refl
number_counts j n (g ∷ calls) = by_test (number_counts j (n + 1) calls) (g.seat == j) where
  by_test : length (filter (λ (x : Given). x.seat == j) calls) ≡ length (numbers_from j (n + 1) calls) → (b : Bool)
      → length (if b then g ∷ filter (λ (x : Given). x.seat == j) calls else filter (λ (x : Given). x.seat == j) calls) ≡ length (if b then n ∷ numbers_from j (n + 1) calls else numbers_from j (n + 1) calls)
  by_test h true = ap suc h
  by_test h false = h

-- no more entries than calls, where no seat has more
pub log_calls : (n : ℕ) (log : List Entry) (calls : List Given) → ((k : ℕ) (e : Entry) → slice_get log k ≡ Some e → e.seat < n) → ((k : ℕ) (g : Given) → slice_get calls k ≡ Some g → g.seat < n)
    → ((j : ℕ) → j < n → length (made_by j log) ≤ length (numbers_from j 1 calls)) → length log ≤ length calls
log_calls n log calls entries given h =
    let a = all_counts (λ (e : Entry). e.seat) n log entries in
    let b = all_counts (λ (g : Given). g.seat) n calls given in
    let c = sum_less n (λ j. length (made_by j log)) (λ j. length (filter (λ (g : Given). g.seat == j) calls)) (λ j lt. let e = number_counts j 1 calls in omega (arith, h j lt, e)) in
    omega (arith, a, b, c)

pub numbers_few : (j n : ℕ) (calls : List Given) → length (numbers_from j n calls) ≤ length calls
numbers_few j n [] = omega arith
numbers_few j n (g ∷ calls) = by_test (numbers_few j (n + 1) calls) (g.seat == j) where
  by_test : length (numbers_from j (n + 1) calls) ≤ length calls → (b : Bool) → length (if b then n ∷ numbers_from j (n + 1) calls else numbers_from j (n + 1) calls) ≤ suc (length calls)
  by_test h true = omega (arith, h)
  by_test h false = omega (arith, h)

-- a call makes one entry at most
pub entries_one : (seat : ℕ) (c : Call) (r : Reply) → length (entries_by seat c r) ≤ 1
entries_one seat c r = search rules

pub updates_few : (ds : List Done) → length (updates ds) ≤ length ds
updates_few [] = omega arith
updates_few (d ∷ ds) = let e = entries_one d.seat d.call d.reply in let r = updates_few ds in let l = length-append (entries_by d.seat d.call d.reply) (updates ds) in omega (arith, e, r, l)

-- they are of the seat
pub entries_of_seat : (seat : ℕ) (c : Call) (r : Reply) (k : ℕ) (e : Entry) → slice_get (entries_by seat c r) k ≡ Some e → e.seat ≡ seat
entries_of_seat seat c r k e h = search rules

-- the entries that a turn makes are its seat's
made_if : (seat : ℕ) (es : List Entry) → ((k : ℕ) (e : Entry) → slice_get es k ≡ Some e → e.seat ≡ seat) → (b : Bool) (k : ℕ) (e : Entry) → slice_get (if b then es else []) k ≡ Some e → e.seat ≡ seat
made_if seat es own b k e h = search rules

pub made_of_seat : (m : Machine) (ph : Phase) (k : ℕ) (e : Entry) → slice_get (made_in m ph) k ≡ Some e → e.seat ≡ m.seat
made_of_seat m ph k e h = search (rules, entries_of_seat, made_if)

-- ---- the values of the log, and so those of replies, have the setting's number of words

-- ---- the log

abbrev pub IsWide : (width : ℕ) → Change → Type 0
IsWide width (change.Put key value) = length value ≡ width
IsWide width (change.Del key) = Unit {0}

abbrev pub AreWide : (width : ℕ) → List Entry → Type 0
AreWide width es = (k : ℕ) (e : Entry) → slice_get es k ≡ Some e → IsWide width e.change

all_append : {X : Type 0} (P : X → Type 0) (xs ys : List X) → ((k : ℕ) (x : X) → slice_get xs k ≡ Some x → P x) → ((k : ℕ) (x : X) → slice_get ys k ≡ Some x → P x) → (k : ℕ) (x : X) → slice_get (xs ++ ys) k ≡ Some x → P x
all_append P [] ys a b k x h = b k x h
all_append P (z ∷ xs) ys a b zero x h = a zero x h
all_append P (z ∷ xs) ys a b (suc k) x h = all_append P xs ys (λ j y g. a (suc j) y g) b k x h

pub wide_append : (width : ℕ) (xs ys : List Entry) → AreWide width xs → AreWide width ys → AreWide width (xs ++ ys)
wide_append width xs ys a b = all_append (λ (e : Entry). IsWide width e.change) xs ys a b

pub wide_none : (width : ℕ) → AreWide width []
wide_none width k e h = absurd (cc)

-- a call in range makes no others
pub wide_by : (p : ConfigParts) (seat : ℕ) (c : Call) (r : Reply) → IsInRange p c → AreWide p.value_words (entries_by seat c r)
wide_by p seat c r h h5 e is = search (rules, some_is)

-- these ended calls are in range
abbrev pub AreIn : ConfigParts → List Done → Type 0
AreIn p ds = (k : ℕ) (d : Done) → slice_get ds k ≡ Some d → IsInRange p d.call

in_one : (p : ConfigParts) (n : ℕ) (g : Given) (o : Option Reply) → IsInRange p g.call → AreIn p (done_in n g o)
in_one p n g o h k d is = search (rules, some_is)

pub in_from : (p : ConfigParts) (n : ℕ) (calls : List Given) → ((k : ℕ) (g : Given) → slice_get calls k ≡ Some g → IsInRange p g.call) → AreIn p (dones_from n calls)
in_from p n [] h k d is = absurd (cc)
in_from p n (g ∷ calls) h k d is = all_append (λ (x : Done). IsInRange p x.call) (done_in n g g.reply) (dones_from (n + 1) calls) (in_one p n g g.reply (h 0 g refl)) (in_from p (n + 1) calls (λ j x here. h (suc j) x here)) k d is

pub in_by : (p : ConfigParts) (seat : ℕ) (ds : List Done) → AreIn p ds → AreIn p (dones_by seat ds)
in_by p seat [] h k d is = absurd (cc)
in_by p seat (x ∷ ds) h k d is = by_test (in_by p seat ds (λ j y here. h (suc j) y here)) (x.seat == seat) k d is where
  by_test : AreIn p (dones_by seat ds) → (b : Bool) → AreIn p (if b then x ∷ dones_by seat ds else dones_by seat ds)
  by_test rest true zero y here = h 0 y here
  by_test rest true (suc j) y here = rest j y here
  by_test rest false j y here = rest j y here

pub wide_updates : (p : ConfigParts) (ds : List Done) → AreIn p ds → AreWide p.value_words (updates ds)
wide_updates p [] h = wide_none p.value_words
wide_updates p (d ∷ ds) h = wide_append p.value_words (entries_by d.seat d.call d.reply) (updates ds) (wide_by p d.seat d.call d.reply (h 0 d refl)) (wide_updates p ds (λ k x is. h (suc k) x is))

-- an entry is one of its seat's
pub own_entry : (log : List Entry) (k : ℕ) (e : Entry) → slice_get log k ≡ Some e → (j : ℕ) × (slice_get (made_by e.seat log) j ≡ Some e)
own_entry [] k e h = absurd (cc)
own_entry (x ∷ log) zero e h =
    let same : x ≡ e = some_is h in
    (0, ap (λ (b : Bool). slice_get (if b then x ∷ made_by e.seat log else made_by e.seat log) 0) (eq-eqb x.seat e.seat (ap (λ (y : Entry). y.seat) same)) ∙ h)
own_entry (x ∷ log) (suc k) e h = by_test (own_entry log k e h) (x.seat == e.seat) where
  by_test : (j : ℕ) × (slice_get (made_by e.seat log) j ≡ Some e) → (b : Bool) → (j : ℕ) × (slice_get (if b then x ∷ made_by e.seat log else made_by e.seat log) j ≡ Some e)
  by_test rest true = (suc rest.0, rest.1)
  by_test rest false = rest

-- ---- replies

slice_get-take : (n : ℕ) (log : List Entry) (k : ℕ) (e : Entry) → slice_get (take n log) k ≡ Some e → slice_get log k ≡ Some e
slice_get-take zero log k e h = absurd (cc)
slice_get-take (suc n) [] k e h = absurd (cc)
slice_get-take (suc n) (x ∷ log) zero e h = h
slice_get-take (suc n) (x ∷ log) (suc k) e h = slice_get-take n log k e h

module _ (width : ℕ) (log : List Entry) (legal : IsLegal log) (wide : AreWide width log) where
  -- what the map has came from a put
  pub found_wide : (at key : ℕ) (value : List ℕ) → get (map_at log at) key ≡ Some value → length value ≡ width
  found_wide at key value has = search (rules, value_from, slice_get-take)

  old_wide : (at : ℕ) (e : Entry) (old : List ℕ) → slice_get log at ≡ Some e → e.old ≡ Some old → length old ≡ width
  old_wide at e old here is = found_wide at _ old (sym (IsLegal-at log at e legal here).0 ∙ is)

  pub reply_wide : (d : Done) (c : Call) (r : Reply) → AnswersAt log d c r → IsReplyWide width r
  reply_wide d c r h = search (rules, found_wide, old_wide)

-- ---- the rows of a range that ends: they are no more than its keys and than its buffer holds, and their values have
-- the setting's words. Any other call has none

pub record RowsFit (p : ConfigParts) (call : Call) (rows : List Row) : Type 0 where
  pub most : length rows ≤ p.rows
  pub keys : length rows ≤ keys_of call
  pub values : All (IsRowWide p.value_words) rows

module _ (p : ConfigParts) (counter : ℕ → ℕ) (log : List Entry) (legal : IsLegal log) (wide : AreWide p.value_words log) where
  no_rows : (call : Call) → RowsFit p call []
  no_rows call = record { most = omega arith; keys = omega arith; values = λ i d lt. absurd (omega (arith, lt)) }

  module _ (first point low upto : ℕ) (rows : List Row) (within : point ≤ length log) (reached : low ≤ upto) (answers : AnswersRange log first point low upto rows) where
    gathered : IsGathered log first low upto rows
    gathered = record { reached = reached; rising = answers.rising; within = answers.within; points = λ key from below. let p = answers.points key from below in (p.0, p.1, omega (arith, p.2, within), p.3) }

    few : low + length rows ≤ upto
    few = gathered_few log first low upto rows gathered

    -- a row's value is one that the map had
    wide_value : (i : ℕ) (d : Row) → i < length rows → IsRowWide p.value_words (get_or rows i d)
    wide_value i d lt =
        let r : Row = get_or rows i d in
        let inside = answers.within i d lt in
        let point = answers.points r.key inside.0 inside.1 in
        found_wide p.value_words log legal wide point.0 r.key r.value
        (point.3 ∙ sym (found_in rows r.key i d (is_rising rows answers.rising) record { in_range = lt; has_key = ap (λ (x : Row). x.key) (same rows i d lt) }))
      where
        same : (xs : List Row) (i : ℕ) (d : Row) → i < length xs → get_or xs i nothing ≡ get_or xs i d
        same [] i d lt = absurd (omega (arith, lt))
        same (x ∷ xs) zero d lt = refl
        same (x ∷ xs) (suc i) d lt = same xs i d (omega (arith, lt))

  pub rows_fit : (d : Done) (call : Call) (answer : Reply) (rows : List Row) → d.point ≤ length log → d.rows ≡ rows_for call rows → AnswersAt log d call answer → HasCause p counter log d.first d.point d.rows call answer → RowsFit p call (rows_for call rows)
  rows_fit d (Range low high) (reply.Rows upto) rows within is a cause =
      let answers = subst (AnswersRange log d.first d.point low upto) is a.2 in
      record { most = subst (λ (rs : List Row). length rs ≤ p.rows) is cause.few; keys = omega (arith, few d.first d.point low upto rows within a.0 answers, a.1); values = wide_value d.first d.point low upto rows within a.0 answers }
  rows_fit d (Range low high) (reply.Some value) rows within is a cause = absurd a
  rows_fit d (Range low high) reply.None rows within is a cause = absurd a
  rows_fit d (Range low high) reply.Full rows within is a cause = absurd a
  rows_fit d (Range low high) (reply.Worn version) rows within is a cause = absurd a
  rows_fit d (Get key) answer rows within is a cause = no_rows (Get key)
  rows_fit d (Put key value) answer rows within is a cause = no_rows (Put key value)
  rows_fit d (Del key) answer rows within is a cause = no_rows (Del key)

-- ---- a turn keeps all that holds of a world

-- ---- how long the log is

module _ (s : State) (run : IsRunning s) where
  abbrev p : ConfigParts
  p = s.setting

  -- the entry of a seat's call under way
  under : (j : ℕ) (q : Place) (k : KeepsActor p run.inv.scene j (actor_of s.calls j q)) → MayStand p run.inv.scene j q.first q.point q.seen q.client.registers.call q.client.registers.reply (pending j q.client.registers q.client.phase)
  under j q k = pending_stands p run.inv.scene j q.first q.point q.seen q.client.registers k.work.duty k.work.owes q.client.phase k.work.fits

  under_one : (j : ℕ) (q : Place) → KeepsActor p run.inv.scene j (actor_of s.calls j q) → length (pending j q.client.registers q.client.phase) ≤ 1
  under_one j q k = search (rules, under, entries_one)

  -- with it so many have no more entries than the seat has calls
  under_few : (j : ℕ) (q : Place) → slice_get s.seats j ≡ Some q → (b : Bool) → is_resting q.client ≡ b → q.ended + length (pending j q.client.registers q.client.phase) ≤ length q.numbers
  under_few j q at true e = let none = ap (λ (ph : Phase). length (pending j q.client.registers ph)) ((run.places j q at).rests e) in omega (arith, none, (run.places j q at).ended)
  under_few j q at false e = omega (arith, under_one j q (run.inv.kept j (actor_of s.calls j q) (record { place = q; here = at; actor_is = refl })), slice_get_within q.numbers q.ended q.number ((run.places j q at).busy e))

  -- the entries of a seat are at most as many as its calls
  one_seat : (j : ℕ) (q : Place) → slice_get s.seats j ≡ Some q → length (made_by j s.log) ≤ length (numbers_from j 1 s.calls)
  one_seat j q at =
      let k = run.inv.kept j (actor_of s.calls j q) (record { place = q; here = at; actor_is = refl }) in
      let h = run.places j q at in
      let mine = ap (λ (es : List Entry). length (made_by j es)) (sym run.inv.log_is) ∙ ap length k.mine ∙ length-append (updates (dones_by j (dones_of s.calls))) (pending j q.client.registers q.client.phase) in
      let all = ap length h.numbers in
      omega (arith, mine, updates_few (dones_by j (dones_of s.calls)), h.count, all, under_few j q at (is_resting q.client) refl)

  pub seat_at : (j : ℕ) → j < length s.seats → (q : Place) × (slice_get s.seats j ≡ Some q)
  seat_at j lt = there s.seats j lt where
    there : (xs : List Place) (j : ℕ) → j < length xs → (q : Place) × (slice_get xs j ≡ Some q)
    there [] j lt = absurd (omega (arith, lt))
    there (x ∷ xs) zero lt = (x, refl)
    there (x ∷ xs) (suc j) lt = there xs j (omega (arith, lt))

  pub log_few : length s.log ≤ length s.calls
  log_few = log_calls (all_seats p) s.log s.calls run.by_seats (λ k g e. (run.given k g e).seat_is) (λ j lt. let q = seat_at j (omega (arith, lt, run.seats)) in one_seat j q.0 q.1)

  -- the log's values have the setting's words: each entry is an ended call's of its seat, or that of the call under way
  pub log_wide : AreWide p.value_words s.log
  log_wide k e h =
      let lt = run.by_seats k e h in
      let q = seat_at e.seat (omega (arith, lt, run.seats)) in
      let a = run.inv.kept e.seat (actor_of s.calls e.seat q.0) (record { place = q.0; here = q.1; actor_is = refl }) in
      let ds = dones_by e.seat (dones_of s.calls) in
      let mine : made_by e.seat s.log ≡ updates ds ++ pending e.seat q.0.client.registers q.0.client.phase = ap (λ (es : List Entry). made_by e.seat es) (sym run.inv.log_is) ∙ a.mine in
      let ended : AreWide p.value_words (updates ds) = wide_updates p ds (in_by p e.seat (dones_of s.calls) (in_from p 1 s.calls (λ j g here. (run.given j g here).in_range))) in
      let under : AreWide p.value_words (pending e.seat q.0.client.registers q.0.client.phase) = elim (under e.seat q.0 a) [
        | inl none ↦ subst (AreWide p.value_words) (sym none) (wide_none p.value_words)
        | inr own ↦ subst (AreWide p.value_words) (sym own.0) (wide_by p e.seat q.0.client.registers.call q.0.client.registers.reply a.work.seated.in_range)
      ] in
      let there = own_entry s.log k e h in
      wide_append p.value_words (updates ds) (pending e.seat q.0.client.registers q.0.client.phase) ended under there.0 e (ap (λ (es : List Entry). slice_get es there.0) (sym mine) ∙ there.1)

-- ---- what an ended call was answered

answered_last : (log : List Entry) (i : ℕ) (ds : List Done) (d : Done) → AreAnswered log i (ds ++ d ∷ []) → IsAnswered log i d
answered_last log i [] d h = h.0
answered_last log i (c ∷ ds) d h = answered_last log i ds d h.1

causes_last : (p : ConfigParts) (counter : ℕ → ℕ) (log : List Entry) (ds : List Done) (d : Done) → HaveCauses p counter log (ds ++ d ∷ []) → HasCause p counter log d.first d.point d.rows d.call d.reply
causes_last p counter log [] d h = h.0
causes_last p counter log (c ∷ ds) d h = causes_last p counter log ds d h.1

has_point : (log : List Entry) (d : Done) (c : Call) (r : Reply) → IsLeast log d c r → HasPoint log d.first c r
has_point log d c r h = search rules

-- the ticket says nothing of a seat's calls
pub ticket_place : (calls : List Given) (i : ℕ) (q : Place) (t : ℕ) → IsPlace calls i q → IsPlace calls i (record q { ticket = t })
ticket_place calls i q t h = record { numbers = h.numbers; ended = h.ended; count = h.count; waiting = h.waiting; rests = h.rests; busy = h.busy; call = h.call }

module _ (s : State) (run : IsRunning s) (i : ℕ) (q : Place) (at : slice_get s.seats i ≡ Some q) (busy : is_resting q.client ≡ false) where
  abbrev P : ConfigParts
  P = s.setting

  abbrev A : Actor
  A = actor_of s.calls i q

  pub has : HasActor s.seats s.calls i A
  has = record { place = q; here = at; actor_is = refl }

  pub keeps : KeepsActor P run.inv.scene i A
  keeps = run.inv.kept i A has

  seat_seen : q.seen ≤ length s.log
  seat_seen = let e = ap length run.inv.log_is in let k = keeps.seen in omega (arith, e, k)

  module _ (t : ℕ) (words : List ℕ) (lines : List Line) (more : List Entry) (m : Machine) (same : m.registers.call ≡ q.client.registers.call)
      (step : (Now : ℕ → Actor → Type 0) → Moves (HasActor s.seats s.calls) i (becomes i A s.log more m) Now → Inv P words (s.log ++ more) Now (IsLeft P lines)) where
    -- the seat with this ticket
    abbrev T : Place
    T = record q { ticket = t }

    next : IsNext s.calls i q.number m
    next = next_is s.calls i q m (run.places i q at) busy same

    -- a call that has ended can be answered
    pub can_end : has_ended m.phase ≡ true → more ≡ [] → CanEnd s.setting s.log s.calls q m
    can_end e none =
        let inv = step (Instead (HasActor s.seats s.calls) i (becomes i A s.log more m)) (put_moves (HasActor s.seats s.calls) i (becomes i A s.log more m)) in
        let is : becomes i A s.log more m ≡ ending i A s.log m = ap (λ (b : Bool). if b then ending i A s.log m else actor_going A s.log more m) e in
        let k = inv.kept i (ending i A s.log m) (inl (refl, sym is)) in
        let log : inv.scene.log ≡ s.log = inv.log_is ∙ ap (λ (es : List Entry). s.log ++ es) none ∙ append-nil s.log in
        let last = answered_last s.log i A.dones (done_of i A s.log m) (subst (λ (es : List Entry). AreAnswered es i (A.dones ++ done_of i A s.log m ∷ [])) log k.answered) in
        let few = log_few s run in
        let caused = causes_last P inv.scene.counter inv.scene.log A.dones (done_of i A s.log m) k.causes in
        let rows = rows_fit P inv.scene.counter s.log (subst IsLegal run.inv.log_is run.inv.ground.legal) (log_wide s run) (done_of i A s.log m) m.registers.call m.registers.reply m.registers.rows last.answers.within refl last.answers.row (subst (λ (es : List Entry). let d : Done = done_of i A s.log m in HasCause P inv.scene.counter es d.first d.point d.rows d.call d.reply) log caused) in
        let h = run.places i q at in
        let inside = slice_get_within q.numbers q.ended q.number (h.busy busy) in
        let all : length q.numbers ≡ length (numbers_from i 1 s.calls) = ap length h.numbers in
        let n = next in
        let below = slice_get_within s.calls (q.number - 1) n.given n.here in
        let e1 = keeps.first in
        let seen = seat_seen in
        record {
          legal = subst IsLegal run.inv.log_is run.inv.ground.legal;
          real = (n.real, omega (arith, below));
          call = λ g here. let one : g ≡ n.given = some_is (sym here ∙ n.here) in ap (λ (x : Given). x.call) one ∙ n.call_is;
          waits = λ g here. let one : g ≡ n.given = some_is (sym here ∙ n.here) in n.later (q.number - 1) g (omega arith) here (ap (λ (x : Given). x.seat) one ∙ n.seat_is);
          point = has_point s.log (done_of i A s.log m) m.registers.call m.registers.reply last.least;
          wide = reply_wide P.value_words s.log (subst IsLegal run.inv.log_is run.inv.ground.legal) (log_wide s run) (done_of i A s.log m) m.registers.call m.registers.reply last.answers.row;
          rows = rows.most;
          keys = rows.keys;
          values = rows.values;
          first = omega (arith, e1, seen, few, run.few);
          place = omega (arith, run.points i q at, few, run.few);
          few = omega (arith, few, run.few);
          ended = omega (arith, inside, all, numbers_few i 1 s.calls, run.few);
        }

    -- the agreement of the others
    agree : AgreeBut i s.calls (answered s.calls (q.number - 1) m.registers.reply (rows_told m) q.first (point_of s.log q.first q.point m.registers.call m.registers.reply))
    agree = agree_ended P s.seats s.calls i q (slice_get_within s.seats i q at) s.log more m next

    abbrev Q : Place
    Q = place_after T s.log more m

    abbrev C : List Given
    C = calls_after s.calls q s.log m

    given_ended : (b : Bool) (k : ℕ) (g : Given) → slice_get (if b then answered s.calls (q.number - 1) m.registers.reply (rows_told m) q.first (point_of s.log q.first q.point m.registers.call m.registers.reply) else s.calls) k ≡ Some g → IsGiven P g
    given_ended false k g e = run.given k g e
    given_ended true k g e = elim (get_answered s.calls (q.number - 1) m.registers.reply (rows_told m) q.first (point_of s.log q.first q.point m.registers.call m.registers.reply) k g e) [
      | inl was ↦ run.given k g was
      | inr w ↦ let h = run.given (q.number - 1) w.1 w.2 in subst (IsGiven P) (sym w.3) (record { seat_is = h.seat_is; in_range = h.in_range })
    ]

    point_more : (es : List Entry) → point_after es q.point (length s.log) ≤ length (s.log ++ es)
    point_more [] = let l = length-append s.log [] in omega (arith, run.points i q at, l)
    point_more (e ∷ es) = let l = length-append s.log (e ∷ es) in omega (arith, l)

    point_ended : (b : Bool) → (if b then resting T s.log m else going T s.log more m).point ≤ length (s.log ++ more)
    point_ended true = let l = length-append s.log more in omega (arith, run.points i q at, l)
    point_ended false = point_more more

    points : (j : ℕ) (r : Place) → slice_get (set s.seats i Q) j ≡ Some r → r.point ≤ length (s.log ++ more)
    points j r e = elim (set_cases s.seats i j Q r (slice_get_within s.seats i q at) e) [
      | inl w ↦ subst (λ (x : Place). x.point ≤ length (s.log ++ more)) (sym w.1) (point_ended (has_ended m.phase))
      | inr w ↦ let l = length-append s.log more in omega (arith, run.points j r w.1, l)
    ]

    seats_of : ((k : ℕ) (e : Entry) → slice_get more k ≡ Some e → e.seat < all_seats P) → (k : ℕ) (e : Entry) → slice_get (s.log ++ more) k ≡ Some e → e.seat < all_seats P
    seats_of ok k e h = all_append (λ (x : Entry). x.seat < all_seats P) s.log more run.by_seats ok k e h

    -- all that holds of the world, in the one after the turn
    pub settled_runs : AreLines P (set s.seats i Q) lines → ((k : ℕ) (e : Entry) → slice_get more k ≡ Some e → e.seat < all_seats P)
        → IsRunning (record { setting = P; words = words; log = s.log ++ more; seats = set s.seats i Q; calls = C; lines = lines })
    settled_runs lines_ok seats_ok = record {
      setting = run.setting;
      inv = settled_keeps P s.seats s.calls i T (slice_get_within s.seats i q at) s.log more m words (IsLeft P lines) (rest_keeps P run.setting) step (λ e. next);
      seats = length-set s.seats i Q ∙ run.seats;
      lines = lines_ok;
      places = λ j r e. elim (set_cases s.seats i j Q r (slice_get_within s.seats i q at) e) [
        | inl w ↦ subst (λ (x : Place). IsPlace C j x) (sym w.1) (subst (λ (k : ℕ). IsPlace C k Q) (sym w.0) (place_own s.calls i T s.log more m (ticket_place s.calls i q t (run.places i q at)) busy same))
        | inr w ↦ place_other s.calls i q s.log more m (run.places i q at) busy same j r w.0 agree (run.places j r w.1)
      ];
      given = given_ended (has_ended m.phase);
      few = let l = calls_long s.calls q s.log m in omega (arith, l, run.few);
      points = points;
      by_seats = seats_of seats_ok;
    }

-- a seat is at another place, and all else stays
module _ (s : State) (run : IsRunning s) (i : ℕ) (q : Place) (at : slice_get s.seats i ≡ Some q) where
  pub placed : (q1 : Place) → Inv s.setting s.words s.log (HasActor (set s.seats i q1) s.calls) (IsLeft s.setting s.lines) → IsPlace s.calls i q1 → q1.point ≤ length s.log → AreLines s.setting (set s.seats i q1) s.lines
      → IsRunning (record s { seats = set s.seats i q1 })
  placed q1 inv place point lines = record {
    setting = run.setting;
    inv = inv;
    seats = length-set s.seats i q1 ∙ run.seats;
    lines = lines;
    places = λ j r e. elim (set_cases s.seats i j q1 r (slice_get_within s.seats i q at) e) [
      | inl w ↦ subst (λ (x : Place). IsPlace s.calls j x) (sym w.1) (subst (λ (k : ℕ). IsPlace s.calls k q1) (sym w.0) place)
      | inr w ↦ run.places j r w.1
    ];
    given = run.given;
    few = run.few;
    points = λ j r e. elim (set_cases s.seats i j q1 r (slice_get_within s.seats i q at) e) [
      | inl w ↦ subst (λ (x : Place). x.point ≤ length s.log) (sym w.1) point
      | inr w ↦ run.points j r w.1
    ];
    by_seats = run.by_seats;
  }
