-- All seats are idle exactly where every call has ended.
use Rattle.std.proofs.Common.{rules, ◌≡◌, ◌≤◌, ◌<◌, ℕ, zero, suc, ◌+◌, Bool, true, false, List, [], ◌∷◌, ◌++◌, length, Option, Some, None, refl, sym, ap, ◌∙◌, arith}
use Rattle.std.{proofs.lemmas.{Bool.{and_parts, eqb-true}, Option.{slice_get_within}}, specs.Prelude.{◌==◌, ◌&&◌, is_some, slice_get}}
use Rattle.sh_base.specs.{declared.config.ConfigParts.{ConfigParts}, Setting.{all_seats, IsSetting}}
use Rattle.sh_map.specs.declared.{call.Reply.{Reply}, book.Done.{Done}}
use Rattle.sh_logic.proofs.Tests.{same_test, true_and}
use Rattle.sh_client.specs.{Rests.{is_resting}, Wants.{want_in, want_of}}
use Rattle.sh_core.specs.Actors.{Actor}
use Rattle.sh_world.specs.{States.{Given, HasActor, Place, State, done_in, dones_by, dones_from}, Turning.{is_done, is_idle, is_idle_at}, Running.{IsPlace, IsRunning, numbers_from}}
use Rattle.sh_replay.specs.{Course.{have_ended}, Thinning.{AllIdle}}

abbrev pub one : Bool → ℕ
one true = 1
one false = 0

-- how many of a seat's calls have ended, and how many there are
abbrev pub ended_count : (seat n : ℕ) → List Given → ℕ
ended_count seat n calls = length (dones_by seat (dones_from n calls))

abbrev pub all_count : (seat n : ℕ) → List Given → ℕ
all_count seat n calls = length (numbers_from seat n calls)

pub ended_head : (g : Given) (seat n : ℕ) (ds : List Done) (o : Option Reply) (b : Bool) → (g.seat == seat) ≡ b → length (dones_by seat (done_in n g o ++ ds)) ≡ one (is_some o && b) + length (dones_by seat ds)
ended_head g seat n ds o b e = search rules

pub all_head : (g : Given) (seat n : ℕ) (calls : List Given) (b : Bool) → (g.seat == seat) ≡ b → all_count seat n (g ∷ calls) ≡ one b + all_count seat (n + 1) calls
all_head g seat n calls b e = search rules

pub no_more : (some b : Bool) → one (some && b) ≤ one b
no_more some b = search rules

pub fewer : (seat n : ℕ) (calls : List Given) → ended_count seat n calls ≤ all_count seat n calls
fewer seat n [] = omega arith
fewer seat n (g ∷ calls) =
    let b = g.seat == seat in
    omega (arith, ended_head g seat n (dones_from (n + 1) calls) g.reply b refl, all_head g seat n calls b refl, no_more (is_some g.reply) b, fewer seat (n + 1) calls)

-- all of a seat's calls have ended where as many have
ended_one : (some b : Bool) → b ≡ true → one b ≤ one (some && b) → some ≡ true
ended_one some b e h = search rules

pub each_ended : (seat n : ℕ) (calls : List Given) → ended_count seat n calls ≡ all_count seat n calls → (place : ℕ) (g : Given) → slice_get calls place ≡ Some g → g.seat ≡ seat → is_some g.reply ≡ true
each_ended seat n [] e place g here by = absurd (cc)
each_ended seat n (f ∷ calls) e zero g here by =
    let is : f ≡ g = cc in
    let b = f.seat == seat in
    let own : (f.seat == seat) ≡ true = same_test f.seat seat (ap (λ (x : Given). x.seat) is ∙ by) in
    ap (λ (x : Given). is_some x.reply) (sym is) ∙ ended_one (is_some f.reply) b own (omega (arith, e, ended_head f seat n (dones_from (n + 1) calls) f.reply b refl, all_head f seat n calls b refl, fewer seat (n + 1) calls))
each_ended seat n (f ∷ calls) e (suc place) g here by =
    let b = f.seat == seat in
    each_ended seat (n + 1) calls (omega (arith, e, ended_head f seat n (dones_from (n + 1) calls) f.reply b refl, all_head f seat n calls b refl, no_more (is_some f.reply) b, fewer seat (n + 1) calls)) place g here by

-- and where every call has ended, as many have
as_many : (seat n : ℕ) (calls : List Given) → have_ended calls ≡ true → ended_count seat n calls ≡ all_count seat n calls
as_many seat n [] e = refl
as_many seat n (g ∷ calls) e =
    let b = g.seat == seat in
    let some = (and_parts (is_some g.reply) (have_ended calls) e).0 in
    omega (arith, ended_head g seat n (dones_from (n + 1) calls) g.reply b refl, all_head g seat n calls b refl, ap (λ t. one (t && b)) some, as_many seat (n + 1) calls ((and_parts (is_some g.reply) (have_ended calls) e).1))

pub by_places : (calls : List Given) → ((place : ℕ) (g : Given) → slice_get calls place ≡ Some g → is_some g.reply ≡ true) → have_ended calls ≡ true
by_places [] each = refl
by_places (g ∷ calls) each = true_and (is_some g.reply) (have_ended calls) (each 0 g refl) (by_places calls (λ place f here. each (suc place) f here))

pub there_is : {X : Type 0} (xs : List X) (i : ℕ) → i < length xs → (x : X) × (slice_get xs i ≡ Some x)
there_is [] i below = absurd (omega (arith, below))
there_is (x ∷ xs) zero below = (x, refl)
there_is (x ∷ xs) (suc i) below = there_is xs i (omega (arith, below))

module _ (s : State) (h : IsRunning s) where
  idle_place : (seat : ℕ) (q : Place) → IsPlace s.calls seat q → have_ended s.calls ≡ true → (b : Bool) → is_resting q.client ≡ b → is_idle q ≡ true
  idle_place seat q p ended true rests =
      let done : is_done (want_of q.client) ≡ true = ap (λ f. is_done (want_in q.client f)) (p.rests rests) in
      let all : q.ended ≡ length q.numbers = sym p.count ∙ as_many seat 1 s.calls ended ∙ sym (ap length p.numbers) in
      true_and (is_done (want_of q.client)) (q.ended == length q.numbers) done (same_test q.ended (length q.numbers) all)
  idle_place seat q p ended false rests =
      let all : q.ended ≡ length q.numbers = sym p.count ∙ as_many seat 1 s.calls ended ∙ sym (ap length p.numbers) in
      absurd (omega (arith, all, slice_get_within q.numbers q.ended q.number (p.busy rests)))

  pub idle_ended : have_ended s.calls ≡ true → AllIdle s
  idle_ended ended seat = at (slice_get s.seats seat) refl where
    at : (o : Option Place) → slice_get s.seats seat ≡ o → is_idle_at o ≡ true
    at None here = refl
    at (Some q) here = idle_place seat q (h.places seat q here) ended (is_resting q.client) refl

-- where every seat is idle its client rests
rests_at : (s : State) (h : IsRunning s) → AllIdle s → (seat : ℕ) (q : Place) → slice_get s.seats seat ≡ Some q → (b : Bool) → is_resting q.client ≡ b → is_resting q.client ≡ true
rests_at s h idle seat q here true rests = rests
rests_at s h idle seat q here false rests =
    let all = eqb-true q.ended (length q.numbers) ((and_parts (is_done (want_of q.client)) _ (sym (ap is_idle_at here) ∙ idle seat)).1) in
    absurd (omega (arith, all, slice_get_within q.numbers q.ended q.number ((h.places seat q here).busy rests)))

pub all_rest : (s : State) → IsRunning s → AllIdle s → (seat : ℕ) (a : Actor) → HasActor s.seats s.calls seat a → is_resting a.client ≡ true
all_rest s h idle seat a has = ap (λ (b : Actor). is_resting b.client) has.actor_is ∙ rests_at s h idle seat has.place has.here (is_resting has.place.client) refl

pub few_seats : (p : ConfigParts) → IsSetting p → all_seats p ≤ 64
few_seats p h = search rules
