-- What a pass's turns leave of it.
use Rattle.std.proofs.Common.{rules, ◌≡◌, ℕ, ◌+◌, ◌<◌, ◌≤◌, Bool, true, false, Option, Some, None, List, [], ◌∷◌, ◌++◌, length, drop, refl, ap, sym, ◌∙◌, subst, arith, append-nil, length-append}
use Rattle.std.{proofs.Math.Seq.{drop-length}, specs.Prelude.{if◌then◌else◌, map}}
use Rattle.atomic_table.specs.Seated.{TableId}
use Rattle.sh_base.specs.{declared.{config.ConfigParts.{ConfigParts}, event.Event.{Event}}, Layout.{compute_of}}
use Rattle.sh_map.specs.{declared.{call.Call.{Call}, log.Entry.{Entry}, book.Done.{Done}}, Calls.{IsInRange}}
use Rattle.sh_decide.specs.{declared.state.Aim.{Aim, TheVariants.{Own}}, Aims.{aim_of, call_key, takes_lock}}
use Rattle.sh_client.specs.declared.state.Want.TheVariants as want
use Rattle.sh_client.specs.{declared.state.{Phase.{Phase, TheVariants.{Read, Draw, Look}}, Want.{Want}, Origin.{Origin}}, Machine.{Machine, began_cached, reading, to}}
use Rattle.sh_client.specs.{Cached.{origin_of}, Feeds.{began_at, calling, fed_by, finished, from_cached, turned_by, begun as machine_begun}, Giving.{makes}, Courses.{KeepsCall}}
use Rattle.sh_client.{specs.{InLine.{Stand, Away, stand_in, stand_of}, Rests.{has_ended, is_resting, rests}, Wants.{load_of, want_in, want_of}}, proofs.BeginLemmas.{has_begun}}
use Rattle.sh_client.proofs.{CachedLemmas.{fed_keeps, turned_keeps}, InLineLemmas.{IsEvent, fed_stands}}
use Rattle.sh_core.specs.{Actors.{Actor, actor_begun, actor_going, actor_stepped, actor_turned, done_of, ending}, Core.{IsLocal}}
use Rattle.sh_core_says.specs.Books.{HasAnswers}
use Rattle.sh_local.{specs.{declared.view.{View.{View}, ChairCall.{ChairCall}}, Calls.{gave, given, taken, took, total}, Chairs.{Sitting}}, proofs.Sums.{total_snoc}}
use Rattle.sh_pool_rule.specs.{declared.view.{PassView.{PassView}, Member.{Member}, Tiding.{Tiding, TheVariants.{CallTold, TurnTold, WordTold}}}, Views.{first_member, member, own, view_seat}, Lives.{calls_told, HasLived}}
use Rattle.sh_pool_rule.specs.Untold.{UntoldTurn, CallBegun, WordAnswered, TurnServed, caught_up, life_with, untold_after, MayTake, MayTakeAll, IsActorOf, StaysAnswered}
use Rattle.sh_pool_rule.{specs.Rule.{TookEvent}, proofs.{LifeLemmas.{becomes_client, untold_lives, word_lives}, Stayed.{stays_behind}}}
use Rattle.sh_pool.specs.{Handed.{Handed}, Passes.{is_left, life_of, pass_actor, tale_of, untold_by, untold_of, untold_turns, EndsLeft, IsBefore, IsPass, SitsWhere, Standing, TellsItsCalls}}
use Rattle.sh_pool.proofs.Busy.{fed_busy, is_idle, rests_not, turned_busy}
use Rattle.sh_pool.{specs.declared.right.Knower.{Knower}, proofs.UntoldLemmas.{caught-append, drop-snoc, ends-snoc, if-snoc, life-append, may-append, with-begin}}

abbrev pub standing : TableId → Machine → Bool → PassView → Sitting Handed Knower → Standing
standing z m b v c = record { table = z; client = m; begun = b; view = v; chair = c }

pub is_actor : (p : Standing) → IsPass p → IsActorOf p.client.setting p.view (pass_actor p)
is_actor p i = record { here = i.here; alone = i.alone; turns = untold_turns p; may = i.may; is = refl }

-- ---- the calls that its life tells

abbrev open_if : Bool → Call → List Call
open_if b call = if b then [] else call ∷ []

ends_with_call : (ds : List Done) (d : Done) → map (λ (x : Done). x.call) (ds ++ d ∷ []) ≡ map (λ (x : Done). x.call) ds ++ d.call ∷ []
ends_with_call [] d = refl
ends_with_call (x ∷ ds) d = ap (λ (cs : List Call). x.call ∷ cs) (ends_with_call ds d)

becomes_calls : (k : ℕ) (life : List Tiding) (a : Actor) (log more : List Entry) (m : Machine) (t : Bool) → TellsItsCalls life a → is_resting a.client ≡ false → m.registers.call ≡ a.client.registers.call → is_resting m ≡ t → TellsItsCalls life (if t then ending k a log m else actor_going a log more m)
becomes_calls k life a log more m true h busy same e = h ∙ (λ z. map (λ (d : Done). d.call) a.dones ++ open_if (busy z) (sym same z)) ∙ sym (ends_with_call a.dones (done_of k a log m)) ∙ sym (append-nil (map (λ (d : Done). d.call) (a.dones ++ done_of k a log m ∷ []))) ∙ (λ z. map (λ (d : Done). d.call) (a.dones ++ done_of k a log m ∷ []) ++ open_if (sym e z) m.registers.call)
becomes_calls k life a log more m false h busy same e = h ∙ (λ z. map (λ (d : Done). d.call) a.dones ++ open_if ((busy ∙ sym e) z) (sym same z))

-- a client that isn't idle rests where its call has ended
rests_as : (ph : Phase) → is_idle ph ≡ false → rests ph ≡ has_ended ph
rests_as ph e = search rules

pub busy_at : (m : Machine) (ph : Phase) → (want_in m ph ≡ want.Done → ⊥) → rests ph ≡ false
busy_at m ph h = search rules

pub word_calls : (k : ℕ) (life : List Tiding) (a : Actor) (log : List Entry) (word : ℕ) → TellsItsCalls life a → is_resting a.client ≡ false → TellsItsCalls (WordTold word ∷ life) (actor_stepped k a log word)
word_calls k life a log word h busy = search (rules, rests_not, becomes_calls, fed_keeps, rests_as, fed_busy)

pub turn_calls : (k : ℕ) (life : List Tiding) (a : Actor) (log : List Entry) (depth : Option ℕ) → TellsItsCalls life a → is_resting a.client ≡ false → TellsItsCalls (TurnTold depth ∷ life) (actor_turned k a log depth)
turn_calls k life a log depth h busy = search (rules, becomes_calls, turned_keeps, rests_as, turned_busy, rests_not)

begun_calls : (life : List Tiding) (a : Actor) (call : Call) (n : ℕ) → TellsItsCalls life a → is_resting a.client ≡ true → TellsItsCalls (CallTold call ∷ life) (actor_begun a (a.number + 1) call n)
begun_calls life a call n h rest = search (rules, has_begun, append-nil)

-- the calls of a pass that rests have all ended
pub calls_ended : (p : Standing) → IsPass p → is_resting p.client ≡ true → map (λ (d : Done). d.call) (pass_actor p).dones ≡ calls_told (life_of p)
calls_ended p i rest = search (rules, append-nil)

pub seat_is : (v : PassView) (k : ℕ) (a : Actor) → v.members ≡ member k a ∷ [] → view_seat v ≡ k
seat_is v k a e = ap (λ (ms : List Member). (first_member ms).seat) e

pub own_is : (v : PassView) (k : ℕ) (a : Actor) → v.members ≡ member k a ∷ [] → own v ≡ a
own_is v k a e = ap (λ (ms : List Member). (first_member ms).actor) e

-- its ended calls are answered within what it has seen
pub stays_now : (p : Standing) → IsPass p → StaysAnswered p.client.setting (view_seat p.view) p.view.seen (pass_actor p)
stays_now p i = stays_behind p.client.setting (view_seat p.view) p.view.seen (own p.view) (untold_turns p) i.answered i.may

pub answered_now : (p : Standing) → IsPass p → HasAnswers p.view.seen (view_seat p.view) (pass_actor p)
answered_now p i = stays_now p i [] tt

-- ---- what a client is at before the first event of its call

-- a turn that comes behind an event
abbrev IsLate : Want → Type 0
IsLate (want.Waiting lock) = Unit {0}
IsLate (want.Leave lock carry) = Unit {0}
IsLate w = ⊥

load_late : (o : Option ℕ) → IsLate (load_of o) → ⊥
load_late o h = search rules

not_late : (m : Machine) (ph : Phase) → IsBefore ph → IsLate (want_in m ph) → ⊥
not_late m ph b h = search (rules, load_late)

by_test : (b : Bool) → (b ≡ true → ⊥) → b ≡ false
by_test b h = search rules

pub count_not_begun : (p : Standing) (lock : ℕ) → IsPass p → want_of p.client ≡ want.Waiting lock → p.begun ≡ false
count_not_begun p lock i e = by_test p.begun (λ b. not_late p.client p.client.phase (i.before b) (subst IsLate (sym e) tt))

pub leave_not_begun : (p : Standing) (lock : ℕ) (carry : Option ℕ) → IsPass p → want_of p.client ≡ want.Leave lock carry → p.begun ≡ false
leave_not_begun p lock carry i e = by_test p.begun (λ b. not_late p.client p.client.phase (i.before b) (subst IsLate (sym e) tt))

pub rest_not_before : (ph : Phase) → rests ph ≡ true → IsBefore ph → ⊥
rest_not_before ph e b = search rules

-- ---- a call begins

rests_away : (m : Machine) (ph : Phase) → rests ph ≡ true → stand_in m.setting m.registers ph ≡ Away
rests_away m ph e = search rules

-- the chair of a client with this setting and seat
pub sits_to : (v : View Handed Knower) (m x : Machine) (k : Stand) → KeepsCall m x → stand_of x ≡ k → SitsWhere m.setting (compute_of m.setting m.seat) v k → SitsWhere x.setting (compute_of x.setting x.seat) v (stand_of x)
sits_to v m x k keeps e h = subst (λ (q : ConfigParts × ℕ). SitsWhere q.0 (compute_of q.0 q.1) v (stand_of x)) (λ z. (sym keeps.0 z, sym keeps.1 z)) (subst (SitsWhere m.setting (compute_of m.setting m.seat) v) (sym e) h)

within_to : (m x : Machine) → KeepsCall m x → compute_of m.setting m.seat < m.setting.computes → compute_of x.setting x.seat < x.setting.computes
within_to m x keeps h = subst (λ (q : ConfigParts × ℕ). compute_of q.0 q.1 < q.0.computes) (λ z. (sym keeps.0 z, sym keeps.1 z)) h

-- ---- a call on the chair

-- one turn more of which the view isn't told
pub untold_more : (p q : Standing) (us : List UntoldTurn) → q.view ≡ p.view → untold_turns q ≡ untold_turns p ++ us → (pass_actor q ≡ caught_up (view_seat p.view) p.view.seen (pass_actor p) us) × (life_of q ≡ life_with us (life_of p))
untold_more p q us view now = search (rules, caught-append, life-append)

-- the turn that a call on the chair was comes behind those before
pub untold_now : (p q : Standing) (x : ChairCall Handed) → IsPass p → q.chair.view.calls ≡ p.chair.view.calls ++ x ∷ [] → q.client.registers.call ≡ p.client.registers.call → q.begun ≡ p.begun → q.view ≡ p.view → (p.begun ≡ true → is_left x ≡ false) → untold_turns q ≡ untold_turns p ++ untold_by x
untold_now p q x i calls call begun view late = search (rules, drop-snoc, if-snoc)

pub told_pass : (p : Standing) (c : Sitting Handed Knower) (x : ChairCall Handed) (u : UntoldTurn) (m : Machine) → IsPass p → c.view.calls ≡ p.chair.view.calls ++ x ∷ [] → untold_by x ≡ u ∷ [] → (p.begun ≡ true → is_left x ≡ false) → MayTake p.client.setting (pass_actor p) u
    → m ≡ (untold_after (view_seat p.view) p.view.seen (pass_actor p) u).client → KeepsCall p.client m → SitsWhere p.client.setting (compute_of p.client.setting p.client.seat) c.view (stand_of m) → (p.begun ≡ true → IsBefore m.phase) → (c.view.ticket ≡ None → is_left x ≡ true) → gave x ≡ 0 → took x ≡ 0 → TellsItsCalls (life_with (u ∷ []) (life_of p)) (untold_after (view_seat p.view) p.view.seen (pass_actor p) u) → IsPass (standing p.table m p.begun p.view c)
told_pass p c x u m i calls tells late may is keeps sits before ended none_given none_taken told =
    let k : ℕ = view_seat p.view in
    let s : List Entry = p.view.seen in
    let old : List (ChairCall Handed) = p.chair.view.calls in
    let q : Standing = standing p.table m p.begun p.view c in
    let now : untold_turns q ≡ untold_turns p ++ u ∷ [] = untold_now p q x i calls keeps.2 refl refl late ∙ ap (λ (us : List UntoldTurn). untold_turns p ++ us) tells in
    let more = untold_more p q (u ∷ []) refl now in
    let lives : HasLived p.client.setting k (life_with (u ∷ []) (life_of p)) (caught_up k s (pass_actor p) (u ∷ [])) = untold_lives p.client.setting k s (life_of p) (pass_actor p) (u ∷ []) (may, tt) i.lived in
    let g : given c.view ≡ given p.chair.view + gave x = ap (total gave) calls ∙ total_snoc gave old x in
    let t : taken c.view ≡ taken p.chair.view + took x = ap (total took) calls ∙ total_snoc took old x in
    record {
      here = i.here;
      alone = i.alone;
      seat_is = i.seat_is ∙ sym keeps.1;
      within = within_to p.client m keeps i.within;
      heard = omega (arith, i.heard, ap length calls, length-append old (x ∷ []));
      may = subst (λ (n : ConfigParts). MayTakeAll n k s (own p.view) (untold_turns q)) (sym keeps.0) (subst (MayTakeAll p.client.setting k s (own p.view)) (sym now)
          (may-append p.client.setting k s (own p.view) (untold_turns p) (u ∷ []) i.may (may, tt)));
      tied = is ∙ ap (λ (y : Actor). y.client) (sym more.0);
      lived = subst (λ (z : ConfigParts × List Tiding × Actor). HasLived z.0 k z.1 z.2) (λ z. (sym keeps.0 z, sym more.1 z, sym more.0 z)) lives;
      calls = subst (λ (z : List Tiding × Actor). TellsItsCalls z.0 z.1) (λ z. (sym more.1 z, sym more.0 z)) told;
      no_right = i.no_right;
      sits = sits_to c.view p.client m (stand_of m) keeps refl sits;
      before = before;
      ended = λ n. subst EndsLeft (sym (ap (drop p.view.heard) calls ∙ drop-snoc p.view.heard old x i.heard)) (ends-snoc (drop p.view.heard old) x (ended n));
      answered = subst (λ (n : ConfigParts). StaysAnswered n k s (own p.view)) (sym keeps.0) i.answered;
      gave = i.gave ∙ (let e = none_given in omega (arith, g, e));
      took = i.took ∙ (let e = none_taken in omega (arith, t, e));
    }

-- a local turn was answered by this word
pub answer_pass : (p : Standing) (c : Sitting Handed Knower) (x : ChairCall Handed) (word : ℕ) → IsPass p → IsLocal (want_of p.client) → c.view.calls ≡ p.chair.view.calls ++ x ∷ [] → untold_by x ≡ WordAnswered word ∷ [] → (p.begun ≡ true → is_left x ≡ false)
    → SitsWhere p.client.setting (compute_of p.client.setting p.client.seat) c.view (stand_of (fed_by p.client word)) → (p.begun ≡ true → IsBefore (fed_by p.client word).phase) → (c.view.ticket ≡ None → is_left x ≡ true) → gave x ≡ 0 → took x ≡ 0 → IsPass (standing p.table (fed_by p.client word) p.begun p.view c)
answer_pass p c x word i l calls tells late sits before ended none_given none_taken =
    told_pass p c x (WordAnswered word) (fed_by p.client word) i calls tells late (subst (λ (m : Machine). IsLocal (want_of m)) i.tied l)
    (ap (λ (m : Machine). fed_by m word) i.tied ∙ sym (becomes_client (view_seat p.view) (pass_actor p) p.view.seen (makes (pass_actor p).client) (fed_by (pass_actor p).client word))) (fed_keeps p.client word) sits before ended none_given none_taken
    (word_calls (view_seat p.view) (life_of p) (pass_actor p) p.view.seen word i.calls (subst (λ (m : Machine). is_resting m ≡ false) i.tied (busy_at p.client p.client.phase (λ e. subst IsLocal e l))))

-- a look had its turn, with nothing left
pub serve_pass : (p : Standing) (c : Sitting Handed Knower) (x : ChairCall Handed) (aim : Aim) (n : ℕ) → IsPass p → p.client.phase ≡ Look aim n → c.view.calls ≡ p.chair.view.calls ++ x ∷ [] → untold_by x ≡ TurnServed ∷ [] → (p.begun ≡ true → is_left x ≡ false)
    → SitsWhere p.client.setting (compute_of p.client.setting p.client.seat) c.view (stand_of (turned_by p.client None)) → (p.begun ≡ true → IsBefore (turned_by p.client None).phase) → (c.view.ticket ≡ None → is_left x ≡ true) → gave x ≡ 0 → took x ≡ 0 → IsPass (standing p.table (turned_by p.client None) p.begun p.view c)
serve_pass p c x aim n i phase calls tells late sits before ended none_given none_taken =
    told_pass p c x TurnServed (turned_by p.client None) i calls tells late (aim, n, ap (λ (m : Machine). m.phase) (sym i.tied) ∙ phase)
    (ap (λ (m : Machine). turned_by m None) i.tied ∙ sym (becomes_client (view_seat p.view) (pass_actor p) p.view.seen [] (turned_by (pass_actor p).client None))) (turned_keeps p.client None) sits before ended none_given none_taken
    (turn_calls (view_seat p.view) (life_of p) (pass_actor p) p.view.seen None i.calls (subst (λ (m : Machine). is_resting m ≡ false) i.tied (ap rests phase)))

-- ---- a turn of which the view is told at once

pub moved_pass : (p : Standing) (w : PassView) (c : Sitting Handed Knower) (m : Machine) (a : Actor) → IsPass p → w.members ≡ member (view_seat p.view) a ∷ [] → a.client ≡ m → untold_of (drop w.heard c.view.calls) ≡ [] → EndsLeft (drop w.heard c.view.calls) → w.heard ≤ length c.view.calls → w.right ≡ None → w.pasts ≡ []
    → HasLived p.client.setting (view_seat p.view) w.life a → TellsItsCalls w.life a → StaysAnswered p.client.setting (view_seat p.view) w.seen a → KeepsCall p.client m → SitsWhere p.client.setting (compute_of p.client.setting p.client.seat) c.view (stand_of m) → w.gave ≡ given c.view → w.took ≡ taken c.view → IsPass (standing p.table m false w c)
moved_pass p w c m a i members is none ended heard right alone lived calls stays keeps sits gave took = search (rules, seat_is, own_is, within_to, sits_to)

is_event : (w : Want) (e : Event) → w ≡ want.Event e → IsEvent w
is_event w e q = subst IsEvent (sym q) tt

pub event_pass : (p : Standing) (e : Event) (word : ℕ) (w : PassView) → IsPass p → want_of p.client ≡ want.Event e → TookEvent (pass_actor p) (tale_of p (length p.chair.view.calls)) p.view word w → IsPass (standing p.table (fed_by p.client word) false w p.chair)
event_pass p e word w i wants event = search (rules, drop-length, busy_at, moved_pass, becomes_client, word_lives, word_calls, fed_keeps, fed_stands)

abbrev IsStart : Machine → Machine → Type 0
IsStart m x = IsBefore x.phase × (x.setting ≡ m.setting) × (x.seat ≡ m.seat)

start_at : (m : Machine) (call : Call) (origin : Origin) (t : Bool) → let x : Machine = began_cached (from_cached (calling m call) origin.low) in IsStart m (if t then to x (Draw (aim_of call) origin.child) else reading x origin.child (Read (aim_of call) false))
start_at m call origin t = search rules

pub start_by : (m : Machine) (call : Call) (o : Option Origin) → IsStart m (began_at (calling m call) call o)
start_by m call o = search (rules, start_at)

same_at : (m : Machine) (call : Call) (origin : Origin) (t : Bool) → let x : Machine = began_cached (from_cached (calling m call) origin.low) in let y : Machine = began_cached (from_cached (calling (finished m) call) origin.low) in
    (if t then to y (Draw (aim_of call) origin.child) else reading y origin.child (Read (aim_of call) false)) ≡ (if t then to x (Draw (aim_of call) origin.child) else reading x origin.child (Read (aim_of call) false))
same_at m call origin t = search rules

same_by : (m : Machine) (call : Call) (o : Option Origin) → began_at (calling (finished m) call) call o ≡ began_at (calling m call) call o
same_by m call None = refl
same_by m call (Some origin) = same_at m call origin (takes_lock call Own)

-- that the call before was taken away changes nothing
pub begun_finished : (m : Machine) (call : Call) → machine_begun (finished m) call ≡ machine_begun m call
begun_finished m call = same_by m call (origin_of m.registers.cached (call_key call))

pub begun_setting : (m : Machine) (call : Call) → let x : Machine = machine_begun m call in x.setting ≡ m.setting
begun_setting m call = (start_by m call (origin_of m.registers.cached (call_key call))).1

pub begun_seated : (m : Machine) (call : Call) → compute_of m.setting m.seat ≡ (let x : Machine = machine_begun m call in compute_of x.setting x.seat)
begun_seated m call = let s = start_by m call (origin_of m.registers.cached (call_key call)) in (λ z. compute_of (sym s.1 z) (sym s.2 z))

pub no_begun : (p : Standing) → IsPass p → is_resting p.client ≡ true → p.begun ≡ false
no_begun p i rest = by_test p.begun (λ b. rest_not_before p.client.phase rest (i.before b))

pub no_ticket : (p : Standing) → IsPass p → is_resting p.client ≡ true → p.chair.view.ticket ≡ None
no_ticket p i rest = subst (SitsWhere p.client.setting (compute_of p.client.setting p.client.seat) p.chair.view) (rests_away p.client p.client.phase rest) i.sits

abbrev pub begun_as : Standing → Call → Standing
begun_as p call = standing p.table (machine_begun p.client call) true p.view p.chair

begun_now : (p : Standing) (call : Call) → IsPass p → is_resting p.client ≡ true → untold_turns (begun_as p call) ≡ untold_turns p ++ CallBegun call ∷ []
begun_now p call i rest = search (rules, has_begun, with-begin, no_ticket, no_begun)

-- the actor whose call was begun
pub begun_actor : (p : Standing) (call : Call) → IsPass p → is_resting p.client ≡ true → pass_actor (begun_as p call) ≡ actor_begun (pass_actor p) ((pass_actor p).number + 1) call (length p.view.seen)
begun_actor p call i rest = (untold_more p (begun_as p call) (CallBegun call ∷ []) refl (begun_now p call i rest)).0

pub begin_pass : (p : Standing) (call : Call) → IsPass p → is_resting p.client ≡ true → IsInRange p.client.setting call → IsPass (begun_as p call)
begin_pass p call i rest lawful =
    let k : ℕ = view_seat p.view in
    let s : List Entry = p.view.seen in
    let m : Machine = machine_begun p.client call in
    let start = start_by p.client call (origin_of p.client.registers.cached (call_key call)) in
    let has = has_begun p.client call in
    let u : UntoldTurn = CallBegun call in
    let q : Standing = begun_as p call in
    let now : untold_turns q ≡ untold_turns p ++ u ∷ [] = begun_now p call i rest in
    let more = untold_more p q (u ∷ []) refl now in
    let lives : HasLived p.client.setting k (life_with (u ∷ []) (life_of p)) (caught_up k s (pass_actor p) (u ∷ [])) = untold_lives p.client.setting k s (life_of p) (pass_actor p) (u ∷ []) ((subst (λ (x : Machine). is_resting x ≡ true) i.tied rest, lawful), tt) i.lived in
    record {
      here = i.here;
      alone = i.alone;
      seat_is = i.seat_is ∙ sym start.2;
      within = subst (λ (n : ConfigParts × ℕ). compute_of n.0 n.1 < n.0.computes) (λ z. (sym start.1 z, sym start.2 z)) i.within;
      heard = i.heard;
      may = subst (λ (n : ConfigParts). MayTakeAll n k s (own p.view) (untold_turns q)) (sym start.1) (subst (MayTakeAll p.client.setting k s (own p.view)) (sym now)
          (may-append p.client.setting k s (own p.view) (untold_turns p) (u ∷ []) i.may ((subst (λ (x : Machine). is_resting x ≡ true) i.tied rest, lawful), tt)));
      tied = ap (λ (x : Machine). machine_begun x call) i.tied ∙ ap (λ (y : Actor). y.client) (sym more.0);
      lived = subst (λ (z : ConfigParts × List Tiding × Actor). HasLived z.0 k z.1 z.2) (λ z. (sym start.1 z, sym more.1 z, sym more.0 z)) lives;
      calls = subst (λ (z : List Tiding × Actor). TellsItsCalls z.0 z.1) (λ z. (sym more.1 z, sym more.0 z)) (begun_calls (life_of p) (pass_actor p) call (length s) i.calls (subst (λ (x : Machine). is_resting x ≡ true) i.tied rest));
      no_right = i.no_right;
      sits = subst (SitsWhere m.setting (compute_of m.setting m.seat) p.chair.view) (sym has.away) (no_ticket p i rest);
      answered = subst (λ (n : ConfigParts). StaysAnswered n k s (own p.view)) (sym start.1) i.answered;
      before = λ e. start.0;
      ended = i.ended;
      gave = i.gave;
      took = i.took;
    }

-- a client that is said by an equation, of the same setting and seat
pub seated : (z : TableId) (m x : Machine) (b : Bool) (v : PassView) (c : Sitting Handed Knower) (y : Machine) (n : ℕ) → x ≡ m → IsPass (standing z m b v c) → KeepsCall y m → n ≡ compute_of y.setting y.seat → IsPass (standing z x b v c) × (n ≡ compute_of x.setting x.seat)
seated z m x b v c y n is i keeps at = (subst (λ (k : Machine). IsPass (standing z k b v c)) (sym is) i, at ∙ (λ k. compute_of (sym keeps.0 k) (sym keeps.1 k)) ∙ ap (λ (k : Machine). compute_of k.setting k.seat) (sym is))
