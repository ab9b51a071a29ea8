-- What a turn of a seat leaves of a world.
use Rattle.std.proofs.Common.{rules, ◌≡◌, ◌≢◌, ◌⊎◌, ◌<◌, ℕ, zero, suc, ◌+◌, ◌-◌, Bool, true, false, List, [], ◌∷◌, ◌++◌, append-nil, length, Option, refl, ap, ◌∙◌, arith}
use Rattle.std.{specs.{Prelude.{slice_get, slice_set, if◌then◌else◌}, List.{fold}}, proofs.lemmas.{Bool.{cases_eq}, List.{length-set}}}
use Rattle.sh_logic.proofs.Lists.{set_else}
use Rattle.sh_client.specs.{declared.state.Want.{Want}}
use Rattle.sh_map.specs.declared.call.Call.{Call}
use Rattle.sh_sheet.specs.declared.item.Item.{Item}
use Rattle.sh_world.{specs.{States.{Place, State}, Turning.{answer_of, give_at, give_of, is_idle_at, took, turn_at, turn_of}}, proofs.LawLemmas.{turn_idle}}
use Rattle.sh_replay.specs.Course.{can_turn, found_in, goes_on, seat_of, takes, turn_asks, turned, Asking, ByRow, Course, SeatEvent, Stage}

-- only the place of this seat differs
pub record Alters (s : State) (seat : ℕ) (t : State) : Type 0 where
  pub place : Place
  pub setting : t.setting ≡ s.setting
  pub seats : t.seats ≡ slice_set s.seats seat place

alters_took : (s : State) (seat : ℕ) (q : Place) (w : Want) → Alters s seat (took s seat q w)
alters_took s seat q w = search rules

alters_at : (s : State) (seat : ℕ) (o : Option Place) → (turn_at s seat o ≡ s) ⊎ Alters s seat (turn_at s seat o)
alters_at s seat o = search (rules, alters_took)

alters : (s : State) (seat : ℕ) → (turn_of s seat ≡ s) ⊎ Alters s seat (turn_of s seat)
alters s seat = alters_at s seat (slice_get s.seats seat)

pub turn_setting : (s : State) (seat : ℕ) → (turn_of s seat).setting ≡ s.setting
turn_setting s seat = search (rules, alters)

pub turn_seats : (s : State) (seat : ℕ) → length (turn_of s seat).seats ≡ length s.seats
turn_seats s seat = search (rules, alters, length-set)

-- another seat's place stays
pub turn_others : (s : State) (seat other : ℕ) → other ≢ seat → slice_get (turn_of s seat).seats other ≡ slice_get s.seats other
turn_others s seat other ne = search (rules, alters, set_else)

-- ---- idle seats

-- an idle seat stays idle
pub idle_stays : (s : State) (seat other : ℕ) → is_idle_at (slice_get s.seats other) ≡ true → is_idle_at (slice_get (turn_of s seat).seats other) ≡ true
idle_stays s seat other idle = search (rules, cases_eq, turn_idle, turn_others)

-- ---- what is asked

by_test : (b : Bool) (c : Course) (t : Stage) (more : List SeatEvent) → (record { stage = if b then t else c.stage; events = c.events ++ (if b then more else []) } ≡ c) ⊎ (((if b then t else c.stage) ≡ t) × (b ≡ true))
by_test b c t more = search (rules, append-nil)

-- nothing changes, or the seat takes a turn
pub asks : (items : List Item) (c : Course) (a : Asking) → (goes_on items c a ≡ c) ⊎ (((goes_on items c a).stage ≡ turned c.stage a) × (takes items c.stage a ≡ true))
asks items c a = by_test (takes items c.stage a) c (turned c.stage a) _

pub turned_world : (r : Stage) (a : Asking) → (turned r a).world ≡ turn_of r.world (seat_of a)
turned_world r a = search rules

-- what a turn leaves, each ask leaves
asked_keeps : {X : Type 0} (items : List Item) (f : State → X) → ((s : State) (seat : ℕ) → f (turn_of s seat) ≡ f s) → (c : Course) (a : Asking) → f (goes_on items c a).stage.world ≡ f c.stage.world
asked_keeps items f keeps c a = search (rules, asks, turned_world)

pub all_keep : {X : Type 0} (items : List Item) (f : State → X) → ((s : State) (seat : ℕ) → f (turn_of s seat) ≡ f s) → (xs : List Asking) (c : Course) → f (fold (goes_on items) c xs).stage.world ≡ f c.stage.world
all_keep items f keeps [] c = refl
all_keep items f keeps (a ∷ xs) c = all_keep items f keeps xs (goes_on items c a) ∙ asked_keeps items f keeps c a

pub asked_seats : (items : List Item) (xs : List Asking) (c : Course) → length (fold (goes_on items) c xs).stage.world.seats ≡ length c.stage.world.seats
asked_seats items = all_keep items (λ (s : State). length s.seats) turn_seats

-- where the seat takes no turn nothing changes
not_taken : (b : Bool) (c : Course) (t : Stage) (more : List SeatEvent) → b ≡ false → record { stage = if b then t else c.stage; events = c.events ++ (if b then more else []) } ≡ c
not_taken b c t more e = search (rules, append-nil)

abbrev with_turn : Course → Stage → List SeatEvent → Course
with_turn c t more = record { stage = t; events = c.events ++ more }

taken : (b : Bool) (c : Course) (t : Stage) (more : List SeatEvent) → b ≡ true → with_turn c (if b then t else c.stage) (if b then more else []) ≡ with_turn c t more
taken b c t more e = search rules

pub none_taken : (items : List Item) (c : Course) (a : Asking) → takes items c.stage a ≡ false → goes_on items c a ≡ c
none_taken items c a none = not_taken (takes items c.stage a) c (turned c.stage a) _ none

pub one_taken : (items : List Item) (c : Course) (a : Asking) → takes items c.stage a ≡ true → goes_on items c a ≡ record { stage = turned c.stage a; events = c.events ++ found_in (seat_of a) (answer_of c.stage.world (seat_of a)) }
one_taken items c a one = taken (takes items c.stage a) c (turned c.stage a) _ one

-- an idle seat takes none
pub idle_rests : (items : List Item) (s : State) (seat : ℕ) → is_idle_at (slice_get s.seats seat) ≡ true → can_turn items s seat ≡ false
idle_rests items s seat idle = rw idle refl

-- ---- a row of turns

pub turns_none : (items : List Item) (c : Course) (seat count : ℕ) → can_turn items c.stage.world seat ≡ false → fold (goes_on items) c (turn_asks seat count) ≡ c
turns_none items c seat zero none = refl
turns_none items c seat (suc count) none = ap (λ (t : Course). fold (goes_on items) t (turn_asks seat count)) (none_taken items c (ByRow seat) none) ∙ turns_none items c seat count none

pub turns_append : (seat i j : ℕ) → turn_asks seat (i + j) ≡ turn_asks seat i ++ turn_asks seat j
turns_append seat zero j = ap (turn_asks seat) (omega arith)
turns_append seat (suc i) j = let next : suc i + j ≡ suc (i + j) = omega arith in ap (turn_asks seat) next ∙ ap (λ xs. ByRow seat ∷ xs) (turns_append seat i j)

-- so many, one more, and the rest
pub turns_split : (seat count i : ℕ) → i < count → turn_asks seat count ≡ turn_asks seat i ++ ((ByRow seat ∷ []) ++ turn_asks seat (count - (i + 1)))
turns_split seat count i below =
    let whole : count ≡ i + suc (count - (i + 1)) = omega (arith, below) in
    ap (turn_asks seat) whole ∙ turns_append seat i (suc (count - (i + 1)))

-- one more
pub turns_next : (seat i : ℕ) → turn_asks seat (i + 1) ≡ turn_asks seat i ++ ByRow seat ∷ []
turns_next seat i = turns_append seat i 1

-- ---- calls that are given

given_at : (s : State) (seat : ℕ) (call : Call) (o : Option Place) → ((give_at s seat call o).setting ≡ s.setting) × (length (give_at s seat call o).seats ≡ length s.seats)
given_at s seat call o = search (rules, length-set)

pub give_setting : (s : State) (seat : ℕ) (call : Call) → (give_of s seat call).setting ≡ s.setting
give_setting s seat call = (given_at s seat call (slice_get s.seats seat)).0

pub give_seats : (s : State) (seat : ℕ) (call : Call) → length (give_of s seat call).seats ≡ length s.seats
give_seats s seat call = (given_at s seat call (slice_get s.seats seat)).1
