-- What a turn leaves of the marks that a replay keeps, and that there is always a seat that isn't held back.
use Rattle.std.proofs.Common.{rules, ◌≡◌, ◌≢◌, ◌<◌, ◌≤◌, ℕ, zero, suc, ◌+◌, ◌-◌, Bool, true, false, List, [], ◌∷◌, map, length, get_or, set, take, Option, Some, None, refl, sym, ap, subst, ◌∙◌, inl, inr, arith}
use Rattle.std.{specs.{Prelude.{◌==◌, ◌&&◌, if◌then◌else◌, filter, not, slice_get}, List.{fold, range_with_len}}, proofs.lemmas.Bool.{and_parts, eqb-true, Decides.{nat_tests}}}
use Rattle.sh_map.specs.declared.{call.{Call.{Call}, Reply.{Reply}}, book.Row.{Row}}
use Rattle.sh_client.specs.{declared.state.Want.{Want}, Wants.{want_of}}
use Rattle.sh_sheet.specs.{declared.item.Item.{Item, TheVariants.{Ask, Mark, After, Turn}}, Marks.{behind, is_passed, nothing, Before}, Sheet.{is_call}}
use Rattle.sh_world.specs.{States.{Given, Place, State, answered, dones_by, dones_from}, Turning.{answer_of, asked, is_done, is_idle, is_idle_at, took, turn_at, turn_of}, Running.{IsRunning, numbers_from}, Laws.{IdlesRight}, declared.turn.Turn.{Turn as Answer}}
use Rattle.sh_world.specs.declared.turn.Turn.TheVariants as turn
use Rattle.sh_world.proofs.{PlaceLemmas.{number_in}}
use Rattle.sh_replay.specs.{declared.{marks.Marks.{Marks}, turns.Outcome.{Outcome}}, Course.{can_turn, ended_of, goes_on, have_ended, is_held_back, takes, Asking, Course, InRound}, Served.{item_of}, Standing.{left_after, stop_of, IsAsk, IsAt, IsChoice, IsMove, Keeps}, Thinning.{goes_in, AllRest}}
use Rattle.sh_replay.specs.declared.turns.Outcome.TheVariants as outcome
use Rattle.sh_replay.proofs.{EndLemmas.{all_head, by_places, each_ended, ended_head, fewer, no_more, one, there_is}, StopLemmas.{all_grow, ask_seat, at_own, own, seat_goes_on, rises, within_next, IsWithin}, RoundLemmas.{asked_next, round_idle, round_kept, SoFar}, TurnLemmas.{idle_stays, turn_seats}}

-- ---- ended calls only become more

abbrev count : (seat n : ℕ) → List Given → ℕ
count seat n calls = length (dones_by seat (dones_from n calls))

answered_grows : (seat n : ℕ) (calls : List Given) (place : ℕ) (r : Reply) (rows : List Row) (first point : ℕ) → count seat n calls ≤ count seat n (answered calls place r rows first point)
answered_grows seat n [] place r rows first point = omega arith
answered_grows seat n (g ∷ calls) zero r rows first point =
    let f : Given = record { seat = g.seat; call = g.call; reply = Some r; first = first; point = point; rows = rows } in
    omega (arith, ended_head g seat n (dones_from (n + 1) calls) g.reply (g.seat == seat) refl, ended_head f seat n (dones_from (n + 1) calls) (Some r) (g.seat == seat) refl, no_more (is_some_of g.reply) (g.seat == seat)) where
      is_some_of : Option Reply → Bool
      is_some_of None = false
      is_some_of (Some x) = true
answered_grows seat n (g ∷ calls) (suc place) r rows first point =
    omega (arith, ended_head g seat n (dones_from (n + 1) calls) g.reply (g.seat == seat) refl, ended_head g seat n (dones_from (n + 1) (answered calls place r rows first point)) g.reply (g.seat == seat) refl, answered_grows seat (n + 1) calls place r rows first point)

by_end : (b : Bool) (seat : ℕ) (calls : List Given) (place : ℕ) (r : Reply) (rows : List Row) (first point : ℕ) → count seat 1 calls ≤ count seat 1 (if b then answered calls place r rows first point else calls)
by_end b seat calls place r rows first point = search (rules, answered_grows)

took_grows : (of : ℕ) (s : State) (seat : ℕ) (q : Place) (w : Want) → ended_of s of ≤ ended_of (took s seat q w) of
took_grows of s seat q w = search (rules, by_end)

turn_at_grows : (of : ℕ) (s : State) (seat : ℕ) (o : Option Place) → ended_of s of ≤ ended_of (turn_at s seat o) of
turn_at_grows of s seat o = search (rules, took_grows)

pub turn_grows : (s : State) (seat of : ℕ) → ended_of s of ≤ ended_of (turn_of s seat) of
turn_grows s seat of = turn_at_grows of s seat (slice_get s.seats seat)

-- ---- a seat is asked

pub keeps_turn : (items : List Item) (s t : State) (seat : ℕ) (m : Marks) → Keeps items s m → t ≡ turn_of s seat → Keeps items t m
keeps_turn items s t seat m h e = subst (λ (u : State). Keeps items u m) (sym e) (record {
  rows = h.rows;
  past = λ x i r before here own. subst (λ n. is_passed (ended_of (turn_of s seat)) n (stop_of r) ≡ true) (sym (turn_seats s seat)) (all_grow (ended_of s) (ended_of (turn_of s seat)) (stop_of r).counts (range_with_len 0 (length s.seats)) (turn_grows s seat) (h.past x i r before here own));
})

rests_held : (b c : Bool) → c ≡ true → (b && not c) ≡ false
rests_held b c e = search rules

moves : (i c : Bool) → (i ≡ true → ⊥) → c ≡ false → (not i && not c) ≡ true
moves i c not_idle e = search rules

pub held_choice : (items : List Item) (s : State) (seat : ℕ) (held : Bool) → held ≡ is_held_back items s seat → held ≡ true → can_turn items s seat ≡ false
held_choice items s seat held is e = rests_held _ (is_held_back items s seat) (sym is ∙ e)

pub turned_choice : (items : List Item) (s : State) (seat : ℕ) (told : Answer) (held : Bool) → IdlesRight s seat → told ≡ answer_of s seat → (told ≡ turn.Idle → ⊥) → held ≡ is_held_back items s seat → held ≡ false → can_turn items s seat ≡ true
turned_choice items s seat told held idles is busy held_is free = moves (is_idle_at (slice_get s.seats seat)) (is_held_back items s seat) (λ rests. busy (is ∙ idles.cause.1 rests)) (sym held_is ∙ free)

-- ---- a seat that goes on

-- how many calls of the seat are among these items
abbrev asks_of : (seat : ℕ) → List Item → ℕ
asks_of seat [] = 0
asks_of seat (Ask t call ∷ items) = one (t == seat) + asks_of seat items
asks_of seat (Mark t n ∷ items) = asks_of seat items
asks_of seat (After t n ∷ items) = asks_of seat items
asks_of seat (Turn t count ∷ items) = asks_of seat items

one_more : (b : Before) (t seat : ℕ) (call : Call) → own b seat + one (t == seat) ≤ own (behind b (Ask t call)) seat
one_more b t seat call = search (rules, own, at_own, one, rises)

asks_least : (items : List Item) (b : Before) (seat : ℕ) → own b seat + asks_of seat (filter is_call items) ≤ own (fold behind b items) seat
asks_least [] b seat = omega arith
asks_least (Ask t call ∷ items) b seat = omega (arith, asks_least items (behind b (Ask t call)) seat, one_more b t seat call)
asks_least (Mark t n ∷ items) b seat = omega (arith, asks_least items (behind b (Mark t n)) seat, rises b (Mark t n) seat)
asks_least (After t n ∷ items) b seat = omega (arith, asks_least items (behind b (After t n)) seat, rises b (After t n) seat)
asks_least (Turn t count ∷ items) b seat = asks_least items b seat

wider : (b : Before) (old new : ℕ → ℕ) → IsWithin b old → ((of : ℕ) → old of ≤ new of) → IsWithin b new
wider b old new h more = (λ s of. omega (arith, h.0 s of, more of), λ m of. omega (arith, h.1 m of, more of))

asks_most : (items : List Item) (b : Before) (most : ℕ → ℕ) → IsWithin b most → IsWithin (fold behind b items) (λ of. most of + asks_of of (filter is_call items))
asks_most [] b most h = wider b most _ h (λ of. omega arith)
asks_most (Ask t call ∷ items) b most h =
    let more : ℕ → ℕ = λ of. most of + one (t == of) in
    let b2 = behind b (Ask t call) in
    wider (fold behind b2 items) _ _ (asks_most items b2 more (within_next b more (Ask t call) (wider b most more h (λ of. omega arith)) (λ s c e. subst (λ x. own b x + 1 ≤ more x) (ask_seat t s call c e) (omega (arith, h.0 t t, ap one (same t)))))) (λ of. omega arith) where
      same : (x : ℕ) → (x == x) ≡ true
      same x = grind (arith, nat_tests)
asks_most (Mark t n ∷ items) b most h = asks_most items (behind b (Mark t n)) most (within_next b most (Mark t n) h (λ s c e. absurd (cc)))
asks_most (After t n ∷ items) b most h = asks_most items (behind b (After t n)) most (within_next b most (After t n) h (λ s c e. absurd (cc)))
asks_most (Turn t count ∷ items) b most h = asks_most items b most h

numbers_are : (seat n : ℕ) (calls : List Given) → length (numbers_from seat n calls) ≡ asks_of seat (map item_of calls)
numbers_are seat n [] = refl
numbers_are seat n (g ∷ calls) = all_head g seat n calls (g.seat == seat) refl ∙ ap (λ k. one (g.seat == seat) + k) (numbers_are seat (n + 1) calls)

all_ended : (calls : List Given) → ((seat : ℕ) → length (numbers_from seat 1 calls) ≤ count seat 1 calls) → have_ended calls ≡ true
all_ended calls h = by_places calls (λ place g here. each_ended g.seat 1 calls (omega (arith, h g.seat, fewer g.seat 1 calls)) place g here refl)

module _ (items : List Item) (s : State) (run : IsRunning s) (are : map item_of s.calls ≡ filter is_call items) where
  numbers_asked : (seat : ℕ) → length (numbers_from seat 1 s.calls) ≡ asks_of seat (filter is_call items)
  numbers_asked seat = numbers_are seat 1 s.calls ∙ ap (asks_of seat) are

  -- a seat with a call that hasn't ended isn't idle
  not_idle : (seat : ℕ) → ended_of s seat < length (numbers_from seat 1 s.calls) → is_idle_at (slice_get s.seats seat) ≡ true → ⊥
  not_idle seat less idle =
      let m = there_is (numbers_from seat 1 s.calls) 0 (omega (arith, less)) in
      let n = number_in seat 1 s.calls 0 m.0 m.1 in
      let g = run.given (m.0 - 1) n.given n.here in
      let q = there_is s.seats seat (omega (arith, g.seat_is, n.seat_is, run.seats)) in
      let p = run.places seat q.0 q.1 in
      let rests : is_idle q.0 ≡ true = sym (ap is_idle_at q.1) ∙ idle in
      let all = eqb-true q.0.ended (length q.0.numbers) ((and_parts (is_done (want_of q.0.client)) _ rests).1) in
      absurd (omega (arith, all, p.count, ap length p.numbers, less))

  -- where no seat takes a turn and one may be made, every call has ended
  pub rest_ended : (left : ℕ) → left ≢ 0 → AllRest items (record { world = s; left = left }) → have_ended s.calls ≡ true
  rest_ended left some rest = elim (seat_goes_on nothing items (ended_of s) (length s.seats) ((λ x of. omega arith), (λ x of. omega arith))) [
    | inl all ↦ all_ended s.calls (λ seat. omega (arith, all seat, asks_least items nothing seat, numbers_asked seat))
    | inr on ↦
        let most = (asks_most items nothing (λ of. 0) ((λ x of. omega arith), (λ x of. omega arith))).0 on.0 on.0 in
        absurd (busy on.0 (is_idle_at (slice_get s.seats on.0)) (not_idle on.0 (omega (arith, on.1, most, numbers_asked on.0))) refl on.2 (rest on.0))
  ] where
    busy : (seat : ℕ) (b : Bool) → (b ≡ true → ⊥) → is_idle_at (slice_get s.seats seat) ≡ b → is_held_back items s seat ≡ false → takes items (record { world = s; left = left }) (InRound seat) ≡ false → ⊥
    busy seat true never idle free none = never refl
    busy seat false never idle free none =
        let test : (left == 0) ≡ false = grind (arith, nat_tests) in
        let no = rw (test, idle, free) at none in
        cc

-- so a call that hasn't ended is left only where no turn is
pub none_left : (items : List Item) (s : State) → IsRunning s → map item_of s.calls ≡ filter is_call items → (left : ℕ) → AllRest items (record { world = s; left = left }) → have_ended s.calls ≡ false → left ≡ 0
none_left items s run are zero rest open_calls = refl
none_left items s run are (suc left) rest open_calls = absurd (apart (have_ended s.calls) (rest_ended items s run are (suc left) (λ e. absurd (omega (arith, e))) rest) open_calls) where
  apart : (b : Bool) → b ≡ true → b ≡ false → ⊥
  apart true x y = cc
  apart false x y = cc

-- ---- what an outcome says

-- an idle seat stays idle
pub idle_moved : (s t : State) (seat x : ℕ) (o : Outcome) → IsMove s seat t o → is_idle_at (slice_get s.seats x) ≡ true → is_idle_at (slice_get t.seats x) ≡ true
idle_moved s t seat x o e idle = search (rules, idle_stays)

pub stopped : (items : List Item) (s t : State) (seat : ℕ) (o : Outcome) → IsMove s seat t o → IsChoice items s seat o → (o ≡ outcome.Turned → ⊥) → (can_turn items s seat ≡ false) × (t ≡ s)
stopped items s t seat o e can never = search rules

pub went : (items : List Item) (s t : State) (seat : ℕ) (o : Outcome) → IsMove s seat t o → IsChoice items s seat o → o ≡ outcome.Turned → (can_turn items s seat ≡ true) × (t ≡ turn_of s seat)
went items s t seat o e can is = search rules

-- what becomes of the turns and the seats of a round
abbrev pub IsKept : Outcome → (turns kept : ℕ) (seats : List ℕ) (seat : ℕ) → (turns' kept' : ℕ) (seats' : List ℕ) → Type 0
IsKept outcome.Turned turns kept seats seat turns' kept' seats' = (turns' ≡ turns - 1) × (kept' ≡ kept + 1) × (seats' ≡ set seats kept seat)
IsKept outcome.Held turns kept seats seat turns' kept' seats' = (turns' ≡ turns) × (kept' ≡ kept + 1) × (seats' ≡ set seats kept seat)
IsKept outcome.Idle turns kept seats seat turns' kept' seats' = (turns' ≡ turns) × (kept' ≡ kept) × (seats' ≡ seats)

-- A round so far, from this world and these marks on.
pub record IsRound (told : Bool) (first : State) (m : Marks) (budget : ℕ) (old : List ℕ) (begin : Option (List ℕ)) (world : State) (marks : Marks) (turns : ℕ) (seats : List ℕ) (kept i : ℕ) (now : Option (List ℕ)) : Type 0 where
  pub so_far : SoFar old world seats kept i
  pub at : (items : List Item) (c : Course) (held : Option (List ℕ)) → IsAt items told c first m budget held begin → IsAt items told (fold (goes_in items) c (take i old)) world marks turns held now
  pub idle : (x : ℕ) → is_idle_at (slice_get first.seats x) ≡ true → is_idle_at (slice_get world.seats x) ≡ true
  pub size : length world.seats ≡ length first.seats
  pub few : turns ≤ budget

module _ (told : Bool) (first : State) (m : Marks) (budget : ℕ) (old : List ℕ) (begin : Option (List ℕ)) (world : State) (marks : Marks) (turns : ℕ) (seats : List ℕ) (kept i : ℕ) (now : Option (List ℕ)) (h : IsRound told first m budget old begin world marks turns seats kept i now) where
  pub round_step : (world' : State) (marks' : Marks) (turns' : ℕ) (seats' : List ℕ) (kept' : ℕ) (now' : Option (List ℕ)) (o : Outcome) → i < length old → length seats ≡ length old → turns ≢ 0 → IsMove world (get_or seats i 0) world' o
      → ((items : List Item) (c : Course) (left : ℕ) (held : Option (List ℕ)) (a : Asking) → IsAt items told c world marks left held now → IsAsk (get_or seats i 0) left a → IsAt items told (goes_on items c a) world' marks' (left_after o a left) held now') → length world'.seats ≡ length world.seats
      → IsKept o turns kept seats (get_or seats i 0) turns' kept' seats' → IsRound told first m budget old begin world' marks' turns' seats' kept' (i + 1) now'
  round_step world' marks' turns' seats' kept' now' o below long some move asked size is = record {
    so_far = far o move is;
    at = λ items c held at. subst (λ (t : Course). IsAt items told t world' marks' turns' held now') (sym (asked_next old world seats kept i h.so_far items c below))
        (subst (λ n. IsAt items told (goes_in items (fold (goes_in items) c (take i old)) (get_or seats i 0)) world' marks' n held now') (left_is o is) (asked items (fold (goes_in items) c (take i old)) turns held (InRound (get_or seats i 0)) (h.at items c held at) (refl, some)));
    idle = λ x rests. idle_moved world world' (get_or seats i 0) x o move (h.idle x rests);
    size = size ∙ h.size;
    few = fewer o is;
  } where
    far : (o : Outcome) → IsMove world (get_or seats i 0) world' o → IsKept o turns kept seats (get_or seats i 0) turns' kept' seats' → SoFar old world' seats' kept' (i + 1)
    far outcome.Turned e k = subst (λ (l : List ℕ). SoFar old world' l kept' (i + 1)) (sym k.2) (subst (λ (n : ℕ). SoFar old world' (set seats kept (get_or seats i 0)) n (i + 1)) (sym k.1) (round_kept old world seats kept i h.so_far world' below long (λ x. idle_moved world world' (get_or seats i 0) x outcome.Turned e)))
    far outcome.Held e k = subst (λ (l : List ℕ). SoFar old world' l kept' (i + 1)) (sym k.2) (subst (λ (n : ℕ). SoFar old world' (set seats kept (get_or seats i 0)) n (i + 1)) (sym k.1) (round_kept old world seats kept i h.so_far world' below long (λ x. idle_moved world world' (get_or seats i 0) x outcome.Held e)))
    far outcome.Idle e k = subst (λ (l : List ℕ). SoFar old world' l kept' (i + 1)) (sym k.2) (subst (λ (n : ℕ). SoFar old world' seats n (i + 1)) (sym k.1) (round_idle old world seats kept i h.so_far world' below e.1 e.0))

    left_is : (o : Outcome) → IsKept o turns kept seats (get_or seats i 0) turns' kept' seats' → left_after o (InRound (get_or seats i 0)) turns ≡ turns'
    left_is outcome.Turned k = sym k.0
    left_is outcome.Held k = sym k.0
    left_is outcome.Idle k = sym k.0

    fewer : (o : Outcome) → IsKept o turns kept seats (get_or seats i 0) turns' kept' seats' → turns' ≤ budget
    fewer outcome.Turned k = omega (arith, k.0, h.few)
    fewer outcome.Held k = omega (arith, k.0, h.few)
    fewer outcome.Idle k = omega (arith, k.0, h.few)
