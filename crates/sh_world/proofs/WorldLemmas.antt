-- The world's turn as what its parts do: a seat that is asked begins its next call; and from what the parts do to the
-- turn.
use Rattle.std.proofs.Common.{rules, ◌≡◌, ◌≢◌, ℕ, ◌-◌, ◌<◌, inr, Bool, true, false, List, [], length, set, Option, Some, None, refl, sym, ap, ◌∙◌, subst, arith, ◌≤◌, ◌++◌, get_or, take}
use Rattle.std.{proofs.lemmas.{List.{append-nil, length-set, set-set, take_at}, Option.{slice_get_within, slice_get_read}}, specs.Prelude.{◌==◌, if◌then◌else◌, slice_get, IfSome}}
use Rattle.sh_logic.proofs.{Tests.{less_test}, Lists.{set_same, set_here}, Options.{some_is}}
use Rattle.sh_base.{proofs.PlanLemmas.{lock_below}, specs.{Layout.{compute_of, lock_of}, Memory.{apply, found_by}, Setting.{all_locks, node_size}, declared.{config.ConfigParts.{ConfigParts}, event.Event.{Event}}}}
use Rattle.sh_map.specs.{Calls.{IsInRange}, declared.log.Entry.{Entry}}
use Rattle.sh_alloc.specs.{declared.state.ChunkWant.{ChunkWant}, Chunks.{WantsEvent}}
use Rattle.sh_read.specs.Reads.{Reads, wanted}
use Rattle.sh_state.specs.TreeState.{Linked, TreeState}
use Rattle.sh_decide.specs.{declared.state.Posting.{Posting}, Aims.{target}}
use Rattle.sh_client.{proofs.{BeginLemmas.{has_begun}, CachedLemmas.{fed_keeps}, InLineLemmas.{count_stands, draw_stands, look_stands}, Wanting.{stand_ended}}, specs.Feeds.{fed_by, fed_in, turned_by}}
use Rattle.sh_client.specs.{Giving.{counted, made_in, makes, released}, InLine.{stand_in, MayHand, Stand, stand_of, IsIn}, Machine.{Machine}, Rests.{has_ended, is_resting, rests}}
use Rattle.sh_client.specs.{Wants.{count_of, load_of, want_in, want_of, IsWithin}, declared.state.{Phase.{Phase, TheVariants.{Draw, Leave, Look, Waiting}}, Then.{Then}, Want.{Want}}}
use Rattle.sh_client.specs.declared.state.Write.{Write}
use Rattle.sh_core.specs.{Actors.{Actor, actor_begun}, Fits.{Fits}, Keeps.{KeepsActor}}
use Rattle.sh_core_turns.proofs.Calls.{begin_keeps}
use Rattle.sh_world.proofs.{PlaceLemmas.{moves_seats, number_in, place_started, calls_long}, QueueLemmas.{lines_still, compute_within}, RunLemmas.{can_end, placed}}
use Rattle.sh_world.proofs.TurnLemmas.{event_busy, event_step, leave_busy, leave_step, put_place, at_line, count_runs, draw_runs, event_runs, leave_runs, look_runs}
use Rattle.sh_world.specs.{Running.{IsRunning, IsWorld}, Seats.{CanAsk, CanSettle}, States.{Given, Place, State, actor_of, HasActor, IsLeft, line_at}, declared.{state.Line.{Line}, turn.Turn.{Turn}}}
use Rattle.sh_world.specs.Turning.{asked, asked_in, started, starts, starts_next, answer_at, turn_answer_in, answer_of, behind, calls_after, drawn, left_line, line_of, looked_client, looked_line}
use Rattle.sh_world.specs.Turning.{or_free, line_called, place_after, place_called, took, took_in, turn_at, turn_of, wanted_lock, IsTurn}
use Rattle.sh_client.specs.declared.state.Want.TheVariants as want
use Rattle.sh_world.specs.declared.turn.Turn.TheVariants as turn

-- ---- a client that wants nothing is at rest

load_some : (p : ConfigParts) (r : Reads) → length r.loaded < node_size p → load_of (wanted p r) ≢ want.Done
load_some p r lt e = search (rules, less_test)

count_some : (w : ChunkWant) → WantsEvent w → count_of w ≢ want.Done
count_some w h x = search rules

done_in : (p : ConfigParts) (s : TreeState) (i f q e : ℕ) (m : Machine) (duty : Option Posting) (ph : Phase) → m.setting ≡ p → Fits p s i f q e m.registers duty ph → want_in m ph ≡ want.Done → rests ph ≡ true
done_in p s i f q e m duty ph is h w = search (rules, load_some, count_some)

module _ (s : State) (run : IsRunning s) (i : ℕ) (q : Place) (at : slice_get s.seats i ≡ Some q) where
  abbrev P : ConfigParts
  P = s.setting

  abbrev A : Actor
  A = actor_of s.calls i q

  h : HasActor s.seats s.calls i A
  h = record { place = q; here = at; actor_is = refl }

  k : KeepsActor P run.inv.scene i A
  k = run.inv.kept i A h

  pub rests_done : want_of q.client ≡ want.Done → is_resting q.client ≡ true
  rests_done w = done_in P run.inv.scene i q.first q.point q.seen q.client k.work.duty q.client.phase k.work.seated.setting_is k.work.fits w

  -- it may begin its next call
  pub can_ask : CanAsk s.calls q
  can_ask w n next =
      let pl = run.places i q at in
      let nu = number_in i 1 s.calls q.ended n (ap (λ (ns : List ℕ). slice_get ns q.ended) (sym pl.numbers) ∙ next) in
      let below = slice_get_within s.calls (n - 1) nu.given nu.here in
      record {
        idle = pl.rests (rests_done w);
        real = (nu.low, omega (arith, below, nu.low));
        lawful = λ g here. let x = run.given (n - 1) g here in subst (λ (p : ConfigParts). IsInRange p g.call) (sym k.work.seated.setting_is) x.in_range;
      }

  started_runs : want_of q.client ≡ want.Done → (n : ℕ) → slice_get q.numbers q.ended ≡ Some n → (g : Given) → slice_get s.calls (n - 1) ≡ Some g → IsRunning (put_place s i (started q n g.call (length s.log)))
  started_runs w n next g here =
      let rest = rests_done w in
      let idle = (run.places i q at).rests rest in
      let e = ap length run.inv.log_is in
      let seen = k.seen in
      let q1 : Place = started q n g.call (length s.log) in
      placed s run i q at q1
      (begin_keeps P run.setting s.words s.log (HasActor s.seats s.calls) (HasActor (set s.seats i q1) s.calls) (IsLeft P s.lines) i n (length s.log) A g.call run.inv h rest (run.given (n - 1) g here).in_range (omega (arith, e, seen)) (omega arith)
      (moves_seats s.seats s.calls s.calls i q1 (actor_begun A n g.call (length s.log)) (slice_get_within s.seats i q at) (λ j ne. refl) refl))
      (place_started s.calls i q n (length s.log) g (run.places i q at) next here) (omega arith)
      (lines_still P run.setting s.lines s.seats i q q1 at run.lines (ap (stand_in q.client.setting q.client.registers) idle ∙ sym (has_begun q.client g.call).away) (inr refl))

  same_runs : IsRunning (put_place s i q)
  same_runs = subst (λ (xs : List Place). IsRunning (record s { seats = xs })) (sym (set_same s.seats i q at)) run

  asked_calls : want_of q.client ≡ want.Done → (n : ℕ) → slice_get q.numbers q.ended ≡ Some n → (o : Option Given) → slice_get s.calls (n - 1) ≡ o → IsRunning (put_place s i (starts s.calls q n (length s.log) o))
  asked_calls w n next None e = same_runs
  asked_calls w n next (Some g) e = started_runs w n next g e

  asked_next : want_of q.client ≡ want.Done → (o : Option ℕ) → slice_get q.numbers q.ended ≡ o → IsRunning (put_place s i (starts_next s.calls q (length s.log) o))
  asked_next w None e = same_runs
  asked_next w (Some n) e = asked_calls w n e (slice_get s.calls (n - 1)) refl

  asked_by : (w : Want) → want_of q.client ≡ w → IsRunning (put_place s i (asked_in s.calls q (length s.log) w))
  asked_by want.Done e = asked_next e (slice_get q.numbers q.ended) refl
  asked_by w e = same_runs

  -- the world with the seat that was asked
  pub asked_runs : IsRunning (put_place s i (asked s.calls q (length s.log)))
  asked_runs = asked_by (want_of q.client) refl

-- ---- ends

not_released : (m : Machine) (node : ℕ) (carry : Option ℕ) (after : Then) → has_ended (released m node carry after).phase ≡ false
not_released m node carry after = search rules

not_counted : (m : Machine) (node : ℕ) (carry : Option ℕ) (write : Write) (after : Then) (b : Bool) (x : Machine) → has_ended x.phase ≡ false → has_ended (if b then released (counted m write) node carry after else x).phase ≡ false
not_counted m node carry write after b x e = search (rules, not_released)

true_false : (b : Bool) → b ≡ true → b ≡ false → ⊥
true_false b x y = cc

-- a turn that ends a call makes no entry
ended_makes : (m : Machine) (word : ℕ) (ph : Phase) → has_ended (fed_in m word ph).phase ≡ true → made_in m ph ≡ []
ended_makes m word ph e = search (rules, true_false, not_counted)

module _ (s : State) (run : IsRunning s) (i : ℕ) (q : Place) (at : slice_get s.seats i ≡ Some q) where
  pub event_settles : (e : Event) → want_of q.client ≡ want.Event e → CanSettle s.setting s.log s.calls q (fed_by q.client (found_by s.words e))
  event_settles e w ended = can_end s run i q at (event_busy s run i q at e w) q.ticket (apply s.words e) s.lines (makes q.client) (fed_by q.client (found_by s.words e)) (fed_keeps q.client (found_by s.words e)).2 (event_step s run i q at e w) ended (ended_makes q.client (found_by s.words e) q.client.phase ended)

  pub leave_settles : (lock : ℕ) → lock < all_locks s.setting → (carry : Option ℕ) → want_of q.client ≡ want.Leave lock carry → CanSettle s.setting s.log s.calls q (fed_by q.client 0)
  leave_settles lock lt carry w ended = can_end s run i q at (leave_busy s run i q at lock lt carry w) q.ticket s.words _ [] (fed_by q.client 0) (fed_keeps q.client 0).2 (leave_step s run i q at lock lt carry w carry refl) ended refl

-- ---- the world's turn as what its parts do

-- a world that has seats runs
pub runs : (s : State) (room : ℕ) (kept : ConfigParts) → IsWorld s room kept → s.seats ≢ [] → IsRunning s × (length s.calls < room) × (kept ≡ s.setting)
runs s room kept h3 some = search (rules, h)

-- a call on a line is wanted of the lock of a linked node, or of one in whose line the client stands
load_calls : (o : Option ℕ) (lock : ℕ) → wanted_lock (load_of o) ≢ Some lock
load_calls o lock e = search rules

count_calls : (w : ChunkWant) (lock : ℕ) → wanted_lock (count_of w) ≢ Some lock
count_calls w lock e = search rules

lock_real : (p : ConfigParts) (s : TreeState) (i f q e lock : ℕ) (m : Machine) (duty : Option Posting) (ph : Phase) → m.setting ≡ p → Fits p s i f q e m.registers duty ph → ((n level low : ℕ) → s.class n ≡ Linked level low → lock_of p n < all_locks p)
    → (IsIn lock (stand_in m.setting m.registers ph) → lock < all_locks p) → wanted_lock (want_in m ph) ≡ Some lock → lock < all_locks p
lock_real p s i f q e lock m duty (Draw aim n) is h linked stands wants = subst (λ l. l < all_locks p) (ap (λ (x : ConfigParts). lock_of x n) (sym is) ∙ some_is wants) (linked n (target aim) h.there.low h.there.linked)
lock_real p s i f q e lock m duty (Look aim n) is h linked stands wants = stands (some_is wants)
lock_real p s i f q e lock m duty (Waiting depth giving) is h linked stands wants = stands (some_is wants)
lock_real p s i f q e lock m duty (Leave n carry after) is h linked stands wants = stands (some_is wants)
lock_real p s i f q e lock m duty ph is h linked stands wants = search (rules, load_calls, count_calls)

module _ (s : State) (run : IsRunning s) (i : ℕ) (q : Place) (at : slice_get s.seats i ≡ Some q) where
  -- the seat that was asked
  abbrev R : Place
  R = asked s.calls q (length s.log)

  abbrev S1 : State
  S1 = put_place s i R

  pub turn_is : (w : Want) → want_of R.client ≡ w → turn_of s i ≡ took s i R w
  turn_is w e = ap (turn_at s i) at ∙ ap (took s i R) e

  pub answer_is : (w : Want) → want_of R.client ≡ w → answer_of s i ≡ turn_answer_in s.words w
  answer_is w e = ap (answer_at s) at ∙ ap (turn_answer_in s.words) e

  pub run1 : IsRunning S1
  run1 = asked_runs s run i q at

  pub at1 : slice_get S1.seats i ≡ Some R
  at1 = set_here s.seats i R (slice_get_within s.seats i q at)

  -- a turn of the one with the seat asked is one of this
  again : (words : List ℕ) (log : List Entry) (x : Place) (calls : List Given) (lines : List Line) → IsRunning (record { setting = s.setting; words = words; log = log; seats = set (set s.seats i R) i x; calls = calls; lines = lines }) → IsRunning (record { setting = s.setting; words = words; log = log; seats = set s.seats i x; calls = calls; lines = lines })
  again words log x calls lines h = subst (λ (xs : List Place). IsRunning (record { setting = s.setting; words = words; log = log; seats = xs; calls = calls; lines = lines })) (set-set s.seats i R x) h

  wanted_real : (lock : ℕ) → wanted_lock (want_of R.client) ≡ Some lock → lock < all_locks s.setting
  wanted_real lock wants =
      let k = run1.inv.kept i (actor_of s.calls i R) (record { place = R; here = at1; actor_is = refl }) in
      lock_real s.setting run1.inv.scene i R.first R.point R.seen lock R.client k.work.duty R.client.phase k.work.seated.setting_is k.work.fits
      (λ n level low linked. lock_below s.setting n run.setting (run1.inv.ground.sits n level low linked).real) (run1.lines.within i R lock at1) wants

  took_runs : (w : Want) → want_of R.client ≡ w → IsRunning (took s i R w)
  took_runs want.Done e = run1
  took_runs (want.Event x) e = again (apply s.words x) (s.log ++ makes R.client) (place_after R s.log (makes R.client) (fed_by R.client (found_by s.words x))) (calls_after s.calls R s.log (fed_by R.client (found_by s.words x))) s.lines (event_runs S1 run1 i R at1 x e)
  took_runs (want.Draw lock) e = again s.words (s.log ++ []) (place_after (record R { ticket = (line_of s i lock).next }) s.log [] (fed_by R.client (line_of s i lock).next)) (calls_after s.calls (record R { ticket = (line_of s i lock).next }) s.log (fed_by R.client (line_of s i lock).next)) (set s.lines (line_at s.setting lock (compute_of s.setting i)) (drawn (line_of s i lock))) (draw_runs S1 run1 i R at1 lock (wanted_real lock (ap wanted_lock e)) e)
  took_runs (want.Look lock) e = again s.words (s.log ++ []) (place_after R s.log [] (looked_client R (line_of s i lock))) (calls_after s.calls R s.log (looked_client R (line_of s i lock))) (set s.lines (line_at s.setting lock (compute_of s.setting i)) (looked_line R (line_of s i lock))) (look_runs S1 run1 i R at1 lock (wanted_real lock (ap wanted_lock e)) e)
  took_runs (want.Waiting lock) e = again s.words (s.log ++ []) _ _ (set s.lines (line_at s.setting lock (compute_of s.setting i)) (line_of s i lock)) (count_runs S1 run1 i R at1 lock (wanted_real lock (ap wanted_lock e)) e)
  took_runs (want.Leave lock carry) e = again s.words (s.log ++ []) (place_after R s.log [] (fed_by R.client 0)) (calls_after s.calls R s.log (fed_by R.client 0)) (set s.lines (line_at s.setting lock (compute_of s.setting i)) (left_line (line_of s i lock) carry)) (leave_runs S1 run1 i R at1 lock (wanted_real lock (ap wanted_lock e)) carry e)

  -- a turn keeps all that holds of a world
  pub turn_runs : IsRunning (turn_of s i)
  turn_runs = subst IsRunning (sym (turn_is (want_of R.client) refl)) (took_runs (want_of R.client) refl)

  -- as many calls, in the same setting
  took_long : (w : Want) (lock : Option ℕ) → (length (took_in s i R w lock).calls ≡ length s.calls) × ((took_in s i R w lock).setting ≡ s.setting)
  took_long w lock = search (rules, calls_long)

  -- a world of the same parts is one, with as much room
  pub world_is : (w : Want) → want_of R.client ≡ w → (t : State) (room new : ℕ) (kept : ConfigParts) → t ≡ took s i R w → length s.calls < room → new ≡ room → kept ≡ s.setting → IsWorld t new kept
  world_is w e t room new kept is lt same kept_is = subst (λ (x : State). IsWorld x new kept) (sym is) (let l = took_long w (wanted_lock w) in inr (took_runs w e, omega (arith, l.0, lt, same), kept_is ∙ sym l.1))

-- ---- from what a turn's parts do to the turn

length_apply : (ws : List ℕ) (e : Event) → length (apply ws e) ≡ length ws
length_apply ws e = search (rules, length-set)

-- what a world of these fields is
pub running : (s t : State) (room : ℕ) (kept : ConfigParts) (i : ℕ) → s ≡ t → IsWorld s room kept → i < length t.seats → IsRunning s × (length s.calls < room) × (i < length s.seats) × (kept ≡ s.setting)
running s t room kept i e h lt = search (rules, runs)

-- a line that was read is the one of its place
pub line_read : (s : State) (i lock k : ℕ) (l : Line) → k ≡ line_at s.setting lock (compute_of s.setting i) → k < length s.lines → l ≡ get_or s.lines k l → l ≡ line_of s i lock
line_read s i lock k l is lt read = ap or_free (sym (slice_get_read s.lines (length s.lines) k l refl lt read) ∙ ap (slice_get s.lines) is)

module _ (s : State) (i : ℕ) (r R : Place) (r_is : r ≡ R) where
  pub event_world : (e : Event) (ws words rest_w : List ℕ) (log : List Entry) (x : Place) (cs calls : List Given) (nw : ℕ) → ws ≡ s.words → cs ≡ s.calls → words ≡ apply ws e → log ≡ s.log ++ makes r.client
      → x ≡ place_after r s.log (makes r.client) (fed_by r.client (found_by ws e)) → calls ≡ calls_after cs r s.log (fed_by r.client (found_by ws e)) → length s.words ≡ nw
      → record { setting = s.setting; words = take nw (words ++ rest_w); log = log; seats = set s.seats i x; calls = calls; lines = s.lines } ≡ took s i R (want.Event e)
  event_world e ws words rest_w log x cs calls nw ws_is cs_is words_is log_is x_is calls_is nw_is = search (rules, take_at, length_apply)

  -- a call on a line
  module _ (lock k : ℕ) where
    abbrev K : ℕ
    K = line_at s.setting lock (compute_of s.setting i)

    pub called_world : (w : Want) (l new : Line) (lg : List Entry) (cs calls : List Given) (x : Place) → lg ≡ s.log → cs ≡ s.calls → k ≡ K → k < length s.lines → l ≡ get_or s.lines k l → wanted_lock w ≡ Some lock
        → new ≡ line_called r l w → x ≡ place_after (place_called r l w) lg [] (place_called r l w).client → calls ≡ calls_after cs (place_called r l w) lg (place_called r l w).client
        → record { setting = s.setting; words = s.words; log = s.log; seats = set s.seats i x; calls = calls; lines = set s.lines k new } ≡ took s i R w
    called_world w l new lg cs calls x lg_is cs_is k_is lt read lock_is new_is x_is calls_is =
        let l_is = line_read s i lock k l k_is lt read in
        let p = x_is ∙ (λ z. place_after (place_called (r_is z) (l_is z) w) (lg_is z) [] (place_called (r_is z) (l_is z) w).client) in
        let c = calls_is ∙ (λ z. calls_after (cs_is z) (place_called (r_is z) (l_is z) w) (lg_is z) (place_called (r_is z) (l_is z) w).client) in
        let n = new_is ∙ (λ z. line_called (r_is z) (l_is z) w) in
        (λ z. record { setting = s.setting; words = s.words; log = sym (append-nil s.log) z; seats = set s.seats i (p z); calls = c z; lines = set s.lines (k_is z) (n z) })
        ∙ sym (ap (took_in s i R w) lock_is)

-- the seat was asked, and wants this
pub record IsAsked (s : State) (i room : ℕ) (kept : ConfigParts) (r : Place) (w : Want) : Type 0 where
  pub run : IsRunning s
  pub room_is : length s.calls < room
  pub kept_for : kept ≡ s.setting
  pub place : Place
  pub here : slice_get s.seats i ≡ Some place
  pub asked_is : r ≡ asked s.calls place (length s.log)
  pub want_is : want_of (asked s.calls place (length s.log)).client ≡ w
  pub within : IsWithin s.setting w

asked_setting : (s : State) (run : IsRunning s) (i : ℕ) (q : Place) (at : slice_get s.seats i ≡ Some q) → (asked s.calls q (length s.log)).client.setting ≡ s.setting
asked_setting s run i q at = let r1 = run1 s run i q at in (r1.inv.kept i (actor_of s.calls i (asked s.calls q (length s.log))) (record { place = asked s.calls q (length s.log); here = at1 s run i q at; actor_is = refl })).work.seated.setting_is

pub is_asked : (s t : State) (room : ℕ) (kept : ConfigParts) (i : ℕ) (q r : Place) (calls : List Given) (seen : ℕ) (res w : Want) → s ≡ t → IsWorld s room kept → i < length t.seats → q ≡ get_or s.seats i q → calls ≡ s.calls → seen ≡ length s.log → r ≡ asked calls q seen → res ≡ want_of r.client → IsWithin r.client.setting res → res ≡ w → IsAsked s i room kept r w
is_asked s t room kept i q r calls seen res w e h lt read calls_is seen_is r_is res_is inside w_is = search (rules, running, slice_get_read, asked_setting)

module _ (s : State) (i room : ℕ) (kept : ConfigParts) (r : Place) (w : Want) (a : IsAsked s i room kept r w) where
  -- what comes of it is the turn
  pub value_is : (t u : State) → s ≡ u → t ≡ took s i (asked s.calls a.place (length s.log)) w → t ≡ turn_of u i
  value_is t u e is = is ∙ sym (turn_is s a.run i a.place a.here w a.want_is) ∙ ap (λ (x : State). turn_of x i) e

  pub told_is : (u : State) (words : List ℕ) (x : Turn) → s ≡ u → words ≡ s.words → x ≡ turn_answer_in words w → x ≡ answer_of u i
  told_is u words x e ws is = is ∙ ap (λ (v : List ℕ). turn_answer_in v w) ws ∙ sym (answer_is s a.run i a.place a.here w a.want_is) ∙ ap (λ (y : State). answer_of y i) e

  -- the seat wants it now
  pub wants : want_of r.client ≡ w
  wants = ap (λ (x : Place). want_of x.client) a.asked_is ∙ a.want_is

  pub turned : (t u : State) (words : List ℕ) (x : Turn) → s ≡ u → words ≡ s.words → t ≡ took s i (asked s.calls a.place (length s.log)) w → x ≡ turn_answer_in words w → IsTurn u i t x
  turned t u words x e ws is told = record { world = value_is t u e is; answer = told_is u words x e ws told }

  pub kept_is : (t : State) (new : ℕ) (now : ConfigParts) → t ≡ took s i (asked s.calls a.place (length s.log)) w → new ≡ room → now ≡ kept → IsWorld t new now
  kept_is t new now is same now_is = world_is s a.run i a.place a.here w a.want_is t room new now is a.room_is same (now_is ∙ a.kept_for)

-- a call that ends where its client was fed can end
fed_can : (s : State) (i room : ℕ) (kept : ConfigParts) (r : Place) (w : Want) (cs : List Given) (lg : List Entry) (word : ℕ) (a : IsAsked s i room kept r w) → cs ≡ s.calls → lg ≡ s.log
    → (let q = asked s.calls a.place (length s.log) in CanSettle s.setting s.log s.calls q (fed_by q.client word)) → CanSettle kept lg cs r (fed_by r.client word)
fed_can s i room kept r w cs lg word a cs_is lg_is h = subst (λ (t : Type 0). t) (λ z. CanSettle (sym a.kept_for z) (sym lg_is z) (sym cs_is z) (sym a.asked_is z) (fed_by (sym a.asked_is z).client word)) h

pub event_can : (s : State) (i room : ℕ) (kept : ConfigParts) (r : Place) (e : Event) (cs : List Given) (ws : List ℕ) → IsAsked s i room kept r (want.Event e) → cs ≡ s.calls → ws ≡ s.words → CanSettle kept s.log cs r (fed_by r.client (found_by ws e))
event_can s i room kept r e cs ws a cs_is ws_is =
    let q = asked s.calls a.place (length s.log) in
    fed_can s i room kept r (want.Event e) cs s.log (found_by ws e) a cs_is refl (subst (λ (v : List ℕ). CanSettle s.setting s.log s.calls q (fed_by q.client (found_by v e))) (sym ws_is) (event_settles (put_place s i q) (run1 s a.run i a.place a.here) i q (at1 s a.run i a.place a.here) e a.want_is))

-- ---- a call on a line

pub lock_within : (p : ConfigParts) (w : Want) (lock : ℕ) → wanted_lock w ≡ Some lock → IsWithin p w → lock < all_locks p
lock_within p w lock e h = search (rules, some_is)

-- what it answers
pub local_told : (words : List ℕ) (w : Want) (lock : ℕ) → wanted_lock w ≡ Some lock → turn.Local ≡ turn_answer_in words w
local_told words w lock x = search rules

pub nothing_left : (w : Want) → wanted_lock w ≡ None → ((e : Event) → w ≢ want.Event e) → w ≡ want.Done
nothing_left w none h = search rules

-- a client that stands in a line goes on
in_line_goes : (m : Machine) (lock : ℕ) → IsIn lock (stand_of m) → has_ended m.phase ≡ true → ⊥
in_line_goes m lock h e = subst (IsIn lock) (stand_ended m m.phase e) h

may_be : (lock n : ℕ) (x : Stand) → MayHand lock n x → IsIn lock x
may_be lock n x e = search rules

looks_on : (r : Place) (l : Line) (lock : ℕ) → want_of r.client ≡ want.Look lock → (b : Bool) → IsIn lock (stand_of (if b then turned_by r.client l.left else fed_by r.client l.served))
looks_on r l lock w b = search (rules, look_stands)

-- a call that ends with it can end
pub call_can : (s : State) (i room : ℕ) (kept : ConfigParts) (r : Place) (w : Want) (lock : ℕ) (l : Line) (cs : List Given) (lg : List Entry) → IsAsked s i room kept r w → wanted_lock w ≡ Some lock → cs ≡ s.calls → lg ≡ s.log → CanSettle kept lg cs (place_called r l w) (place_called r l w).client
call_can s i room kept r (want.Draw n) lock l cs lg a e cs_is lg_is = λ ended. absurd (in_line_goes (fed_by r.client l.next) n (subst (IsIn n) (sym (draw_stands r.client l.next n r.client.phase (wants s i room kept r _ a)).1) refl) ended)
call_can s i room kept r (want.Look n) lock l cs lg a e cs_is lg_is = λ ended. absurd (in_line_goes (looked_client r l) n (looks_on r l n (wants s i room kept r _ a) (l.served == r.ticket)) ended)
call_can s i room kept r (want.Waiting n) lock l cs lg a e cs_is lg_is = λ ended. absurd (in_line_goes (fed_by r.client (behind l r.ticket)) n (may_be n (behind l r.ticket) _ (count_stands r.client (behind l r.ticket) n r.client.phase (wants s i room kept r _ a)).1) ended)
call_can s i room kept r (want.Leave n carry) lock l cs lg a e cs_is lg_is = λ ended.
    let q = asked s.calls a.place (length s.log) in
    let x = fed_can s i room kept r _ cs lg 0 a cs_is lg_is (leave_settles (put_place s i q) (run1 s a.run i a.place a.here) i q (at1 s a.run i a.place a.here) n a.within carry a.want_is) ended in
    record { legal = x.legal; real = x.real; call = x.call; waits = x.waits; point = x.point; wide = x.wide; rows = x.rows; keys = x.keys; values = x.values; first = x.first; place = x.place; few = x.few; ended = x.ended }
call_can s i room kept r w lock l cs lg a e cs_is lg_is = cc

-- what was left in a line is within the bound
pub left_bound : (s : State) (i room : ℕ) (kept : ConfigParts) (r : Place) (w : Want) (lock : ℕ) (l : Line) → IsAsked s i room kept r w → wanted_lock w ≡ Some lock → l ≡ line_of s i lock → (d : ℕ) → l.left ≡ Some d → d ≤ r.client.setting.bound
left_bound s i room kept r w lock l a lock_is l_is d e =
    let within = lock_within s.setting w lock lock_is a.within in
    let q = asked s.calls a.place (length s.log) in
    let r1 = run1 s a.run i a.place a.here in
    let seat = (r1.inv.kept i (actor_of s.calls i q) (record { place = q; here = at1 s a.run i a.place a.here; actor_is = refl })).work.seated.within in
    let compute = compute_within s.setting a.run.setting i seat in
    let h = (a.run.lines.each lock (compute_of s.setting i) (line_of s i lock) within compute (at_line s a.run i a.place a.here lock within)).left d (ap (λ (x : Line). x.left) (sym l_is) ∙ e) in
    let set_is : r.client.setting ≡ s.setting = ap (λ (x : Place). x.client.setting) a.asked_is ∙ asked_setting s a.run i a.place a.here in
    let bound : r.client.setting.bound ≡ s.setting.bound = ap (λ (p : ConfigParts). p.bound) set_is in
    omega (arith, h.1, bound)

pub done_world : (s : State) (i : ℕ) (r R : Place) → r ≡ R → record { setting = s.setting; words = s.words; log = s.log; seats = set s.seats i r; calls = s.calls; lines = s.lines } ≡ took s i R want.Done
done_world s i r R e = λ z. record { setting = s.setting; words = s.words; log = s.log; seats = set s.seats i (e z); calls = s.calls; lines = s.lines }

pub if_some : (o : Option ℕ) (b : ℕ) → ((d : ℕ) → o ≡ Some d → d ≤ b) → IfSome o (λ d. d ≤ b)
if_some o b h = search rules
