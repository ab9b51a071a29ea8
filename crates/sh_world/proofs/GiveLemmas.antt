-- A world whose pool was just laid, and one where a seat is given a call.
use Rattle.std.proofs.Common.{rules, ◌≡◌, ℕ, zero, suc, ◌+◌, ◌*◌, ◌<◌, ◌≤◌, List, [], ◌∷◌, ◌++◌, length, get_or, take, replicate, Option, Some, None, refl, sym, ap, ◌∙◌, subst, arith, inr, append-nil, ◌≢◌}
use Rattle.std.proofs.{Common.{◌⊎◌, ◌-◌, ◌^◌, inl, Bool, true, false, set, eq-eqb, ne_eqb}, lemmas.{Bool.{cases_eq}, List.{length-replicate, length-take-le, take_more, length-set, length_push}}}
use Rattle.std.{proofs.lemmas.Option.{slice_get_within}, specs.Prelude.{slice_get, ◌==◌, if◌then◌else◌}}
use Rattle.sh_logic.proofs.{Options.{none_some, some_is}, Lists.{set_here, set_else, slice_get-append_left, slice_get-push_back}}
use Rattle.sh_base.specs.{declared.config.ConfigParts.{ConfigParts}, Setting.{all_locks, all_seats, IsSetting}}
use Rattle.sh_map.specs.{declared.{call.{Reply.{Reply}, Call.{Call}}, book.Done.{Done}, log.Entry.{Entry}}, Calls.{IsInRange}}
use Rattle.sh_image.specs.Laid.{AreLaid}
use Rattle.sh_client.specs.{Machine.{Machine, fresh_machine}, InLine.{stand_of, IsIn}}
use Rattle.sh_core.{specs.{Actors.{Actor}, Opening.{entered}, Core.{AreSame}}, proofs.Moves.{same_keeps}}
use Rattle.sh_core_turns.proofs.Opening.{laid_keeps}
use Rattle.sh_world.{proofs.{PlaceLemmas.{dones_snoc, dones_waits, set_cases, number_in}, QueueLemmas.{lines_still}}, specs.{Lines.{IsLine, StandsIn}, Turning.{give_at, give_of, queued}}}
use Rattle.sh_world.specs.{Running.{IsPlace, IsRunning, IsWorld, numbers_from, IsGiven}, declared.state.Line.{Line}}
use Rattle.sh_world.specs.States.{Given, Place, State, done_in, dones_of, free_line, fresh_from, fresh_place, fresh_state, HasActor, IsLeft, actor_of, dones_by, fresh_call}

-- one seat more
pub fresh_snoc : (p : ConfigParts) (k n : ℕ) → fresh_from p k (n + 1) ≡ fresh_from p k n ++ fresh_place p (k + n) ∷ []
fresh_snoc p k zero = let e : k ≡ k + 0 = omega arith in ap (λ (m : ℕ). fresh_place p m ∷ []) e
fresh_snoc p k (suc n) =
    let e : k + 1 + n ≡ k + suc n = omega arith in
    let m : suc n + 1 ≡ suc (n + 1) = omega arith in
    ap (fresh_from p k) m ∙ ap (λ (xs : List Place). fresh_place p k ∷ xs) (fresh_snoc p (k + 1) n ∙ ap (λ (m : ℕ). fresh_from p (k + 1) n ++ fresh_place p m ∷ []) e)

-- one call more is looked at
pub dones_more : (calls : List Given) (i : ℕ) (g : Given) → i < length calls → g ≡ get_or calls i g → dones_of (take (i + 1) calls) ≡ dones_of (take i calls) ++ done_in (i + 1) g g.reply
dones_more calls i g lt read =
    let n : 1 + length (take i calls) ≡ i + 1 = omega (arith, length-take-le i calls (omega (arith, lt))) in
    ap dones_of (take_more calls i g lt ∙ ap (λ (x : Given). take i calls ++ x ∷ []) (sym read)) ∙ dones_snoc 1 (take i calls) g ∙ ap (λ (m : ℕ). dones_of (take i calls) ++ done_in m g g.reply) n

pub seats_more : (p : ConfigParts) (n : ℕ) (old new : List Place) (m : Machine) (ns : List ℕ) → old ≡ fresh_from p 0 n → m ≡ fresh_machine p n → ns ≡ [] → new ≡ old ++ record { client = m; numbers = ns; ended = 0; number = 0; ticket = 0; seen = 0; first = 0; point = 0 } ∷ [] → new ≡ fresh_from p 0 (n + 1)
seats_more p n old new m ns old_is m_is ns_is new_is = search (rules, fresh_snoc)

pub told_more : (calls : List Given) (i : ℕ) (g : Given) (r : Reply) (old new : List Done) (d : Done) → i < length calls → g ≡ get_or calls i g → old ≡ dones_of (take i calls) → g.reply ≡ Some r → new ≡ old ++ d ∷ [] → d ∷ [] ≡ done_in (i + 1) g (Some r) → new ≡ dones_of (take (i + 1) calls)
told_more calls i g r old new d lt read old_is reply_is new_is d_is = new_is ∙ (λ z. old_is z ++ d_is z) ∙ ap (λ (o : Option Reply). dones_of (take i calls) ++ done_in (i + 1) g o) (sym reply_is) ∙ sym (dones_more calls i g lt read)

pub untold_more : (calls : List Given) (i : ℕ) (g : Given) (old : List Done) → i < length calls → g ≡ get_or calls i g → old ≡ dones_of (take i calls) → g.reply ≡ None → old ≡ dones_of (take (i + 1) calls)
untold_more calls i g old lt read old_is reply_is = old_is ∙ sym (append-nil (dones_of (take i calls))) ∙ ap (λ (o : Option Reply). dones_of (take i calls) ++ done_in (i + 1) g o) (sym reply_is) ∙ sym (dones_more calls i g lt read)

fresh_at : (p : ConfigParts) (k n i : ℕ) (q : Place) → slice_get (fresh_from p k n) i ≡ Some q → (i < n) × (q ≡ fresh_place p (k + i))
fresh_at p k zero i q e = cc
fresh_at p k (suc n) zero q e = let x : k ≡ k + 0 = omega arith in (omega arith, sym (some_is e) ∙ ap (fresh_place p) x)
fresh_at p k (suc n) (suc i) q e = let h = fresh_at p (k + 1) n i q e in let x : k + 1 + i ≡ k + suc i = omega arith in (omega (arith, h.0), h.1 ∙ ap (fresh_place p) x)

length_fresh : (p : ConfigParts) (k n : ℕ) → length (fresh_from p k n) ≡ n
length_fresh p k zero = refl
length_fresh p k (suc n) = ap suc (length_fresh p (k + 1) n)

free_at : (n i : ℕ) (l : Line) → slice_get (replicate n free_line) i ≡ Some l → l ≡ free_line
free_at zero i l e = cc
free_at (suc n) zero l e = cc
free_at (suc n) (suc i) l e = free_at n i l e

module _ (p : ConfigParts) (ok : IsSetting p) (words : List ℕ) (laid : AreLaid p words) where
  abbrev S : List Place
  S = fresh_from p 0 (all_seats p)

  abbrev L : List Line
  L = replicate (all_locks p * p.computes) free_line

  has_entered : (seat : ℕ) (a : Actor) → HasActor S [] seat a → (seat < all_seats p) × (a ≡ entered p seat)
  has_entered seat a h = let f = fresh_at p 0 (all_seats p) seat h.place h.here in let x : 0 + seat ≡ seat = omega arith in (f.0, h.actor_is ∙ ap (λ (q : Place). record { client = q.client; number = q.number; seen = q.seen; first = q.first; point = q.point; dones = [] }) (f.1 ∙ ap (fresh_place p) x))

  none_left : (lock compute depth : ℕ) → IsLeft p L lock compute depth → ⊥
  none_left lock compute depth h = none_some (ap (λ (l : Line). l.left) (sym (free_at (all_locks p * p.computes) _ h.line h.here)) ∙ h.left)

  away : (lock compute seat : ℕ) (q : Place) → StandsIn p S lock compute seat q → ⊥
  away lock compute seat q h = subst (λ (x : Place). IsIn lock (stand_of x.client)) (fresh_at p 0 (all_seats p) seat q h.here).1 h.stands

  pub laid_runs : IsRunning (fresh_state p words)
  laid_runs = record {
    setting = ok;
    inv = laid_keeps p ok words (HasActor S []) (IsLeft p L) laid has_entered none_left;
    seats = length_fresh p 0 (all_seats p);
    lines = record {
      count = length-replicate (all_locks p * p.computes) free_line;
      each = λ lock compute line a b e. subst (IsLine p S lock compute) (sym (free_at (all_locks p * p.computes) _ line e)) (record {
        next = omega arith;
        served = omega arith;
        few = omega arith;
        each = λ k lt. absurd (omega (arith, lt));
        out = λ j q h. absurd (away lock compute j q h);
        differ = λ i j q r h k x. absurd (away lock compute i q h);
        turn = λ j q h t. absurd (away lock compute j q h);
        ahead = λ j q h w. absurd (away lock compute j q h);
        left = λ d x. absurd (none_some x);
      });
      within = λ seat q lock e x. absurd (subst (λ (y : Place). IsIn lock (stand_of y.client)) (fresh_at p 0 (all_seats p) seat q e).1 x);
    };
    places = λ seat q e. subst (IsPlace [] seat) (sym (fresh_at p 0 (all_seats p) seat q e).1) (record { numbers = refl; ended = omega arith; count = refl; waiting = λ n place g x. cc; rests = λ r. refl; busy = λ b. cc; call = λ g b. cc });
    given = λ k g e. cc;
    few = omega arith;
    points = λ seat q e. subst (λ (x : Place). x.point ≤ 0) (sym (fresh_at p 0 (all_seats p) seat q e).1) (omega arith);
    by_seats = λ k e x. cc;
  }

  -- and so it is a world
  pub open_world : (t : State) (room : ℕ) (kept : ConfigParts) → t ≡ fresh_state p words → 0 < room → kept ≡ p → IsWorld t room kept
  open_world t room kept is lt kept_is = subst (λ (x : State). IsWorld x room kept) (sym is) (inr (laid_runs, lt, kept_is))

-- ---- a seat is given a call

abbrev last : (seat n : ℕ) → Given → Bool → List ℕ
last seat n g t = if t then n ∷ [] else []

numbers_snoc : (seat n : ℕ) (calls : List Given) (g : Given) → numbers_from seat n (calls ++ g ∷ []) ≡ numbers_from seat n calls ++ last seat (n + length calls) g (g.seat == seat)
numbers_snoc seat n [] g = let e : n ≡ n + 0 = omega arith in ap (λ (m : ℕ). last seat m g (g.seat == seat)) e
numbers_snoc seat n (x ∷ calls) g = by_test (numbers_snoc seat (n + 1) calls g ∙ ap (λ (m : ℕ). numbers_from seat (n + 1) calls ++ last seat m g (g.seat == seat)) (let e : n + 1 + length calls ≡ n + suc (length calls) = omega arith in e)) (x.seat == seat) where
  by_test : numbers_from seat (n + 1) (calls ++ g ∷ []) ≡ numbers_from seat (n + 1) calls ++ last seat (n + suc (length calls)) g (g.seat == seat) → (b : Bool)
      → (if b then n ∷ numbers_from seat (n + 1) (calls ++ g ∷ []) else numbers_from seat (n + 1) (calls ++ g ∷ [])) ≡ (if b then n ∷ numbers_from seat (n + 1) calls else numbers_from seat (n + 1) calls) ++ last seat (n + suc (length calls)) g (g.seat == seat)
  by_test h true = ap (λ (ns : List ℕ). n ∷ ns) h
  by_test h false = h

module _ (calls : List Given) (g : Given) (waits : g.reply ≡ None) (j : ℕ) (q : Place) (h : IsPlace calls j q) where
  pub place_given : (ns : List ℕ) → ns ≡ numbers_from j 1 (calls ++ g ∷ []) → ((m : ℕ) → slice_get ns q.ended ≡ Some m → (slice_get q.numbers q.ended ≡ Some m) ⊎ (m ≡ length calls + 1)) → ((m : ℕ) → slice_get q.numbers q.ended ≡ Some m → slice_get ns q.ended ≡ Some m)
      → length q.numbers ≤ length ns → IsPlace (calls ++ g ∷ []) j (record q { numbers = ns })
  place_given ns is back on le = record {
    numbers = is;
    ended = omega (arith, h.ended, le);
    count = ap (λ (ds : List Done). length (dones_by j ds)) (dones_waits calls g waits) ∙ h.count;
    waiting = λ m place x at low here own. elim (slice_get-push_back calls g x place here) [
      | inl was ↦ elim (back m at) [
        | inl old ↦ h.waiting m place x old low was own
        | inr new ↦ let w = slice_get_within calls place x was in absurd (omega (arith, new, low, w))
      ]
      | inr w ↦ ap (λ (y : Given). y.reply) (sym w.1) ∙ waits
    ];
    rests = h.rests;
    busy = λ b. on q.number (h.busy b);
    call = λ x b here. elim (slice_get-push_back calls g x (q.number - 1) here) [
      | inl was ↦ h.call x b was
      | inr w ↦
          let n = number_in j 1 calls q.ended q.number (ap (λ (ms : List ℕ). slice_get ms q.ended) (sym h.numbers) ∙ h.busy b) in
          let below = slice_get_within calls (q.number - 1) n.given n.here in
          absurd (omega (arith, below, w.0))
    ];
  }

  pub other_given : g.seat ≢ j → IsPlace (calls ++ g ∷ []) j q
  other_given ne = place_given q.numbers (h.numbers ∙ sym (numbers_snoc j 1 calls g ∙ ap (λ (b : Bool). numbers_from j 1 calls ++ last j (1 + length calls) g b) (ne_eqb g.seat j ne) ∙ append-nil (numbers_from j 1 calls))) (λ m e. inl e) (λ m e. e) (omega arith)

  pub own_given : g.seat ≡ j → IsPlace (calls ++ g ∷ []) j (queued q (length calls + 1))
  own_given own =
      let n : 1 + length calls ≡ length calls + 1 = omega arith in
      place_given (q.numbers ++ (length calls + 1) ∷ []) (ap (λ (ms : List ℕ). ms ++ (length calls + 1) ∷ []) h.numbers ∙ sym (numbers_snoc j 1 calls g ∙ ap (λ (b : Bool). numbers_from j 1 calls ++ last j (1 + length calls) g b) (eq-eqb g.seat j own) ∙ ap (λ (m : ℕ). numbers_from j 1 calls ++ m ∷ []) n))
      (λ m e. elim (slice_get-push_back q.numbers (length calls + 1) m q.ended e) [ inl w ↦ inl w | inr w ↦ inr (sym w.1) ]) (λ m e. slice_get-append_left q.numbers ((length calls + 1) ∷ []) q.ended m e)
      (let l = length_push q.numbers (length calls + 1) in omega (arith, l))

module _ (s : State) (run : IsRunning s) (i : ℕ) (q : Place) (at : slice_get s.seats i ≡ Some q) (call : Call) (in_range : IsInRange s.setting call) (few : length s.calls < 2 ^ 32 - 1) where
  abbrev G : Given
  G = fresh_call i call

  abbrev Q : Place
  Q = queued q (length s.calls + 1)

  abbrev C : List Given
  C = s.calls ++ G ∷ []

  at_q : slice_get (set s.seats i Q) i ≡ Some Q
  at_q = set_here s.seats i Q (slice_get_within s.seats i q at)

  same_dones : (j : ℕ) → dones_by j (dones_of C) ≡ dones_by j (dones_of s.calls)
  same_dones j = ap (dones_by j) (dones_waits s.calls G refl)

  actor_same : (j : ℕ) (r : Place) → actor_of C j r ≡ actor_of s.calls j r
  actor_same j r = ap (λ (ds : List Done). record { client = r.client; number = r.number; seen = r.seen; first = r.first; point = r.point; dones = ds }) (same_dones j)

  same : AreSame (HasActor s.seats s.calls) (HasActor (set s.seats i Q) C)
  same = record {
    on = λ j b x. elim (cases_eq j i) [
      | inl e ↦ let one : x.place ≡ q = some_is (sym x.here ∙ ap (slice_get s.seats) e ∙ at) in record { place = Q; here = ap (slice_get (set s.seats i Q)) e ∙ at_q; actor_is = x.actor_is ∙ ap (actor_of s.calls j) one ∙ sym (actor_same j Q) }
      | inr ne ↦ record { place = x.place; here = set_else s.seats i j Q ne ∙ x.here; actor_is = x.actor_is ∙ sym (actor_same j x.place) }
    ];
    back = λ j b x. elim (cases_eq j i) [
      | inl e ↦ let one : x.place ≡ Q = some_is (sym x.here ∙ ap (slice_get (set s.seats i Q)) e ∙ at_q) in record { place = q; here = ap (slice_get s.seats) e ∙ at; actor_is = x.actor_is ∙ ap (actor_of C j) one ∙ actor_same j Q }
      | inr ne ↦ record { place = x.place; here = sym (set_else s.seats i j Q ne) ∙ x.here; actor_is = x.actor_is ∙ actor_same j x.place }
    ];
  }

  seat_small : i < all_seats s.setting
  seat_small = let w = slice_get_within s.seats i q at in omega (arith, w, run.seats)

  pub given_runs : IsRunning (give_of s i call)
  given_runs = subst (λ (o : Option Place). IsRunning (give_at s i call o)) (sym at) (record {
    setting = run.setting;
    inv = same_keeps s.setting s.words s.log (HasActor s.seats s.calls) (HasActor (set s.seats i Q) C) (IsLeft s.setting s.lines) (IsLeft s.setting s.lines) run.inv same (record { on = λ l c d o. o; back = λ l c d o. o });
    seats = length-set s.seats i Q ∙ run.seats;
    lines = lines_still s.setting run.setting s.lines s.seats i q Q at run.lines refl (inr refl);
    places = λ j r e. elim (set_cases s.seats i j Q r (slice_get_within s.seats i q at) e) [
      | inl w ↦ subst (λ (x : Place). IsPlace C j x) (sym w.1) (subst (λ (k : ℕ). IsPlace C k Q) (sym w.0) (own_given s.calls G refl i q (run.places i q at) refl))
      | inr w ↦ other_given s.calls G refl j r (run.places j r w.1) (λ x. w.0 (sym x))
    ];
    given = λ k g e. elim (slice_get-push_back s.calls G g k e) [
      | inl was ↦ run.given k g was
      | inr w ↦ subst (IsGiven s.setting) w.1 (record { seat_is = seat_small; in_range = in_range })
    ];
    few = let l = length_push s.calls G in omega (arith, l, few);
    points = λ j r e. elim (set_cases s.seats i j Q r (slice_get_within s.seats i q at) e) [
      | inl w ↦ subst (λ (x : Place). x.point ≤ length s.log) (sym w.1) (run.points i q at)
      | inr w ↦ run.points j r w.1
    ];
    by_seats = run.by_seats;
  })

-- what is given makes the world of that call
pub give_is : (s t : State) (i n : ℕ) (q x : Place) (call : Call) (calls : List Given) (log : List Entry) → s ≡ t → slice_get s.seats i ≡ Some q → n ≡ length s.calls + 1 → x ≡ queued q n → calls ≡ s.calls ++ fresh_call i call ∷ [] → log ≡ s.log
    → record { setting = s.setting; words = s.words; log = log; seats = set s.seats i x; calls = calls; lines = s.lines } ≡ give_of t i call
give_is s t i n q x call calls log e at n_is x_is calls_is log_is = search rules

pub given_long : (calls more : List Given) (g : Given) → more ≡ calls ++ g ∷ [] → length more ≡ length calls + 1
given_long calls more g is = ap length is ∙ (let l = length_push calls g in omega (arith, l))

pub given_world : (s t : State) (i room : ℕ) (kept : ConfigParts) (q : Place) (call : Call) (u : State) → s ≡ t → IsRunning s → slice_get s.seats i ≡ Some q → IsInRange t.setting call → length t.calls < 2 ^ 32 - 1 → u ≡ give_of t i call → length u.calls < room → kept ≡ s.setting → IsWorld u room kept
given_world s t i room kept q call u e run at in_range few u_is lt kept_is = search (rules, given_runs, same)
