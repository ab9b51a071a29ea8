-- Turns without an event: they change no word, and rights go from one to another.
use Rattle.std.proofs.Common.{rules, ◌≡◌, ◌≢◌, ℕ, ◌+◌, ◌≤◌, Bool, true, false, List, [], ◌++◌, length, Option, Some, None, refl, sym, ap, subst, arith, length-append, ◌⊎◌, ◌-◌, ◌∙◌, inl, inr}
use Rattle.std.{proofs.{Common.{drop_of_length-le}}, specs.Prelude.{if◌then◌else◌}}
use Rattle.sh_base.{specs.{declared.config.ConfigParts.{ConfigParts}, Setting.{IsSetting, all_seats, node_size}, Layout.{lock_of, compute_of}}, proofs.LayoutLemmas.{node_size_is}}
use Rattle.sh_map.specs.declared.log.Entry.{Entry as LogEntry}
use Rattle.sh_lock.specs.{declared.state.Release.{TheVariants.{Hand, Free}, Release}, Locks.{release_of}}
use Rattle.sh_state.{specs.{TreeState.{Seat, LockState, Held, TreeState, Owner, Grant}, Nodes.{Orderly}, Ground.{Ground}, Change.{ChangeFor}}, proofs.Puts.{put_here, put_else, put_case}}
use Rattle.sh_decide.specs.declared.state.{Posting.{Posting}, Aim.{Aim}}
use Rattle.sh_client.specs.{Giving.{carried, released, writes_nothing}, Machine.{Machine, Registers, handed_over}, Rests.{rows_for}, Wants.{want_in, want_of}}
use Rattle.sh_client.specs.declared.state.{Giving.{Giving}, Phase.{TheVariants.{Root, Draw, Look, Grab, Waiting, Body, Unlock, Leave, Ended, ReadLocked, Read, Seek}, Phase}, Then.{Then}}
use Rattle.sh_client.specs.declared.state.{Then.TheVariants.{Ends, Starts, Takes}, Write.{TheVariants.{Nothing}, Write}}
use Rattle.sh_core.{proofs.{Causes.{decided_cause}, Others.{follows_on, at_on, seat_apart, adds_before, bounded_less, step_to}}, specs.Actors.{Actor, becomes, ending, actor_stepped, actor_turned}}
use Rattle.sh_core.proofs.Frame.{next, actor_in, at, goes_on, ends_now, decided_ends, same_call, work_with, work_ended, same_here, same_grows, IsCalm, Before, stays, no_add, same_hold, hands_take}
use Rattle.sh_core.{proofs.Frame.{hands_drop, actor_is, before}, specs.Core.{Inv, Moves, SomeAdds, IsLocal, HasSeen, LocalKeeps, LookKeeps, TakeKeeps, PartKeeps}}
use Rattle.sh_core.specs.{Fits.{Carries, Fits, Follows, Plans}, Keeps.{holding, Hands, pending, pending_then, pending_write, KeepsActor}}
use Rattle.sh_core_turns.proofs.Standing.{to_root}
use Rattle.sh_read.specs.Reads.{reads_start}
use Rattle.sh_acts.{specs.Acts.{with_hold}, proofs.Holds.{hand_act}}

carries_on : (p : ConfigParts) (count depth : ℕ) (r : Release) → release_of count depth p.bound ≡ r → depth ≤ p.bound → Carries p depth (carried depth r)
carries_on p count depth r e le = search rules

writes_some : (write : Write) → writes_nothing write ≡ false → write ≢ Nothing
writes_some write e = search rules

writes_none : (write : Write) → writes_nothing write ≡ true → write ≡ Nothing
writes_none write e = search rules

module _ (p : ConfigParts) (ok : IsSetting p) (words : List ℕ) (Has Now : ℕ → Actor → Type 0) (Out : ℕ → ℕ → ℕ → Type 0) (i : ℕ) (s : TreeState) (b : Before p words Has Out s)
    (a : Actor) (r : Registers) (sn rest : List LogEntry) (whole : s.log ≡ sn ++ rest) (more : a.seen ≤ length sn) where
  abbrev N : ℕ
  N = length sn

  short : N ≤ length s.log
  short = omega (arith, ap length whole, length-append sn rest)

  abbrev Local : Phase → ℕ → Type 0
  Local ph word = Has i (actor_in p i a r ph) → Moves Has i (actor_stepped i (actor_in p i a r ph) sn word) Now → Inv p words s.log Now Out

  -- another phase, with nothing else changed
  pub goes : (ph to : Phase) (k : KeepsActor p s i (actor_in p i a r ph)) → Fits p s i a.first a.point N r k.work.duty to → Hands s i (holding p r to) → pending i r to ≡ pending i r ph → IsCalm to → Moves Has i (next a N (at p i r to)) Now → Inv p words s.log Now Out
  goes ph to k fits hands same calm mv =
      let m : Machine = at p i r to in
      stays p ok words Has Now Out i s b (next a N m)
      (goes_on p s s i N (actor_in p i a r ph) m k refl (λ server. omega arith) more short (work_with p s s i a.first a.point a.seen N r ph k.work (same_here s) more r to (same_call r) fits hands) same) calm mv

  later : (duty : Option Posting) (after : Then) → a.seen ≤ length s.log → Follows p s i a.first a.point a.seen r.call r.reply duty after → Follows p s i a.first a.point N r.call r.reply duty after
  later duty after le h = follows_on p s s i a.first a.point a.seen N (same_grows s s i a.seen N (same_here s) more) r.call r.reply duty after le h

  pub draw : (aim : Aim) (n word : ℕ) → Local (Draw aim n) word
  draw aim n word h mv = let k = b.kept i (actor_in p i a r (Draw aim n)) h in goes (Draw aim n) (Look aim n) k k.work.fits k.work.hands refl tt mv

  pub look : (aim : Aim) (n word : ℕ) → Local (Look aim n) word
  look aim n word h mv = let k = b.kept i (actor_in p i a r (Look aim n)) h in goes (Look aim n) (Look aim n) k k.work.fits k.work.hands refl tt mv

  -- it had the turn, and no right was in the queue
  pub turn : (aim : Aim) (n : ℕ) → Has i (actor_in p i a r (Look aim n)) → Moves Has i (actor_turned i (actor_in p i a r (Look aim n)) sn None) Now → Inv p words s.log Now Out
  turn aim n h mv = let k = b.kept i (actor_in p i a r (Look aim n)) h in goes (Look aim n) (Grab aim n) k k.work.fits k.work.hands refl tt mv

  -- it is known how many wait
  bound_is : (n d : ℕ) → s.hold (lock_of p n) ≡ Held (Seat i) d → d ≤ p.bound
  bound_is n d e = subst (λ (x : LockState). Orderly p s (lock_of p n) x) e (b.ground.orderly (lock_of p n))

  -- nothing is written: what follows is known, and so are the entries of the call
  unwritten : (d : ℕ) (giving : Giving) (k : KeepsActor p s i (actor_in p i a r (Waiting d giving))) → writes_nothing giving.write ≡ true → Follows p s i a.first a.point N r.call r.reply k.work.duty giving.after
  unwritten d giving k t = later k.work.duty giving.after k.seen (subst (λ (x : Write). Plans p s i a.first a.point a.seen r giving.node x giving.after k.work.duty) (writes_none giving.write t) k.work.fits.plans)

  made_later : (giving : Giving) → writes_nothing giving.write ≡ true → pending_then i r.call r.reply giving.after ≡ pending_write i r.call r.reply giving.write giving.after
  made_later giving t = ap (λ (x : Write). pending_write i r.call r.reply x giving.after) (sym (writes_none giving.write t))

  waits : (d word : ℕ) (giving : Giving) (x : Release) → release_of word d p.bound ≡ x → (t : Bool) → writes_nothing giving.write ≡ t → Has i (actor_in p i a r (Waiting d giving))
      → Moves Has i (becomes i (actor_in p i a r (Waiting d giving)) sn [] (if t then released (at p i r (Waiting d giving)) giving.node (carried d x) giving.after else at p i r (Body (carried d x) 0 giving))) Now → Inv p words s.log Now Out
  waits d word giving x e false t h mv =
      let k = b.kept i (actor_in p i a r (Waiting d giving)) h in
      let f = k.work.fits in
      let some = writes_some giving.write t in
      goes (Waiting d giving) (Body (carried d x) 0 giving) k record {
        storing = record { real = f.real; some = some; depth = d; held = f.held; carries = carries_on p word d x e (bound_is giving.node d f.held); left = (search rules) };
        plans = search (rules, later);
      } k.work.hands refl tt mv
  waits d word giving Free e true t h mv =
      let k = b.kept i (actor_in p i a r (Waiting d giving)) h in
      let f = k.work.fits in
      goes (Waiting d giving) (Unlock giving.node giving.after) k record { holding = record { real = f.real; depth = d; held = f.held; carries = tt }; follows = unwritten d giving k t } k.work.hands (made_later giving t) tt mv
  waits d word giving Hand e true t h mv =
      let k = b.kept i (actor_in p i a r (Waiting d giving)) h in
      let f = k.work.fits in
      goes (Waiting d giving) (Leave giving.node (Some (d + 1)) giving.after) k record { leaving = record { real = f.real; depth = d; held = f.held; carries = carries_on p word d Hand e (bound_is giving.node d f.held) }; follows = unwritten d giving k t } k.work.hands (made_later giving t) tt mv

  pub waiting : (d word : ℕ) (giving : Giving) → Local (Waiting d giving) word
  waiting d word giving h mv = waits d word giving (release_of word d p.bound) refl (writes_nothing giving.write) refl h mv

  -- the queue is left, and the lock was given back before
  pub leave : (n word : ℕ) (after : Then) → Local (Leave n None after) word
  leave n word Ends h mv =
      let k = b.kept i (actor_in p i a r (Leave n None Ends)) h in
      let f = k.work.fits.follows in
      let end = decided_ends p s sn rest i a r.rows whole more k.first r.call r.reply f.decided in
      stays p ok words Has Now Out i s b (ending i (actor_in p i a r (Leave n None Ends)) sn (at p i r Ended))
      (ends_now p s s i (actor_in p i a r (Leave n None Ends)) (at p i r Ended) sn k refl (λ server. omega arith) short more (work_ended p s s i a.first a.point a.seen N r (Leave n None Ends) k.work (same_here s) more r refl refl refl refl f.none k.work.hands) end.answered (decided_cause p s sn i a more (rows_for r.call r.rows) r.call r.reply f.decided) end.from end.past refl refl) tt mv
  leave n word (Starts aim) h mv = let k = b.kept i (actor_in p i a r (Leave n None (Starts aim))) h in goes (Leave n None (Starts aim)) (Root aim) k (to_root p s i a.first r aim k.work.duty k.work.fits.follows) k.work.hands refl tt mv
  leave n word (Takes aim node) h mv = let k = b.kept i (actor_in p i a r (Leave n None (Takes aim node))) h in goes (Leave n None (Takes aim node)) (Draw aim node) k k.work.fits.follows k.work.hands refl tt mv

-- ---- a lock is handed over and taken up, without an event

module _ (p : ConfigParts) (ok : IsSetting p) (words : List ℕ) (Has Now : ℕ → Actor → Type 0) (Out After : ℕ → ℕ → ℕ → Type 0) (i : ℕ) (s : TreeState) (b : Before p words Has Out s)
    (a : Actor) (r : Registers) (sn rest : List LogEntry) (whole : s.log ≡ sn ++ rest) (more : a.seen ≤ length sn) where
  short_seen : length sn ≤ length s.log
  short_seen = omega (arith, ap length whole, length-append sn rest)

  -- the lock of the seat, or of its compute server, goes to the other one
  hands_to : (Other : Owner → Type 0) → ((j : ℕ) → j ≢ i → Other (Seat j)) → (l : ℕ) (x : LockState) (x' : Actor) → ChangeFor p Other s (with_hold s l x) × Ground p words (with_hold s l x) → KeepsActor p (with_hold s l x) i x' → IsCalm x'.client.phase → Moves Has i x' Now
      → ((k c d : ℕ) → (with_hold s l x).hold k ≡ Held (Grant c) d → After k c d) → ((k c d : ℕ) → After k c d → (with_hold s l x).hold k ≡ Held (Grant c) d) → Inv p words s.log Now After
  hands_to Other other l x x' ch k calm mv given out =
      let t : TreeState = with_hold s l x in
      step_to p Has Now i x' mv ok words words s t b.ground ch.1 k b.kept b.held b.pends b.skips b.makes After Other other ch.0 (λ server. omega arith)
      (λ server lt. bounded_less p.chunks (all_seats p) (s.counter server) (λ j. SomeAdds p Has server j) (λ j. SomeAdds p Now server j) (adds_before p Has Now i x' mv server (λ q. no_add p server x'.client x'.client.phase calm q)) (b.bounded server lt))
      given out

  -- ---- a right is taken up
  pub takes_up : (aim : Aim) (n depth : ℕ) → Has i (actor_in p i a r (Look aim n)) → Out (lock_of p n) (compute_of p i) depth
      → ((l c d : ℕ) → After l c d → (l ≢ lock_of p n) × Out l c d) → ((l c d : ℕ) → l ≢ lock_of p n → Out l c d → After l c d)
      → Moves Has i (actor_turned i (actor_in p i a r (Look aim n)) sn (Some depth)) Now → Inv p words s.log Now After
  takes_up aim n depth h out back on mv =
      let k = b.kept i (actor_in p i a r (Look aim n)) h in
      let f = k.work.fits in
      let l : ℕ = lock_of p n in
      let c : ℕ = compute_of p i in
      let x : LockState = Held (Seat i) depth in
      let t : TreeState = with_hold s l x in
      let mine = b.out l c depth out in
      let le : depth ≤ p.bound = subst (λ (y : LockState). Orderly p s l y) mine (b.ground.orderly l) in
      let short_node : length (s.node n) ≤ node_size p - 0 = omega (arith, b.ground.long n) in
      let ch = hand_act p words s b.ground l depth depth (Grant c) (Seat i) mine refl le in
      let same = same_hold s l x in
      let y : Registers = record r { reads = reads_start n } in
      hands_to (λ o. (o ≢ Grant (compute_of p i)) × (o ≢ Seat i)) (λ j ne. (λ q. cc, seat_apart j i ne)) l x (next a (length sn) (at p i y (ReadLocked aim depth))) ch
      (goes_on p s t i (length sn) (actor_in p i a r (Look aim n)) (at p i y (ReadLocked aim depth)) k refl (λ server. omega arith) more short_seen
      (work_with p s t i a.first a.point a.seen (length sn) r (Look aim n) k.work same more y (ReadLocked aim depth) record { call_is = refl; reply_is = refl; spare_is = refl; skips_are = refl; cached_is = refl } record {
        holds = record { at = at_on p s t i 0 0 0 0 (same_grows s t i 0 0 same (omega arith)) r.call aim n k.work.duty f; held = put_here s.hold l x };
        reading = record { left = omega (arith, node_size_is p); standing = drop_of_length-le (s.node n) short_node };
      }
      (hands_take s i l x k.work.hands)) refl) tt mv
      (λ y e d. put_case (λ z. z ≡ Held (Grant e) d → After y e d) s.hold l x y (λ w o. absurd (cc)) (λ w o. on y e d w (b.given y e d o)))
      (λ y e d o. let u = back y e d o in put_else s.hold l x y u.0 ∙ b.out y e d u.1)

  -- ---- a right is put out
  module _ (n depth : ℕ) (here : After (lock_of p n) (compute_of p i) depth)
      (back : (l c d : ℕ) → After l c d → ((l ≡ lock_of p n) × (c ≡ compute_of p i) × (d ≡ depth)) ⊎ Out l c d) (on : (l c d : ℕ) → Out l c d → After l c d) where
    puts_out : (after : Then) (k : KeepsActor p s i (actor_in p i a r (Leave n (Some depth) after))) (x' : Actor) → KeepsActor p (with_hold s (lock_of p n) (Held (Grant (compute_of p i)) depth)) i x' → IsCalm x'.client.phase → Moves Has i x' Now → Inv p words s.log Now After
    puts_out after k x' kept calm mv =
        let l : ℕ = lock_of p n in
        let c : ℕ = compute_of p i in
        let f = k.work.fits.leaving in
        let x : LockState = Held (Grant c) depth in
        let ch = hand_act p words s b.ground l f.depth depth (Seat i) (Grant c) f.held refl f.carries.within in
        hands_to (λ o. (o ≢ Seat i) × (o ≢ Grant (compute_of p i))) (λ j ne. (seat_apart j i ne, λ q. cc)) l x x' ch kept calm mv
        (λ y e d. put_case (λ z. z ≡ Held (Grant e) d → After y e d) s.hold l x y
        (λ w o. let ce : c ≡ e = cc in let de : depth ≡ d = cc in subst (λ (z : ℕ × ℕ × ℕ). After z.0 z.1 z.2) (λ j. (sym w j, ce j, de j)) here)
        (λ w o. on y e d (b.given y e d o)))
        (λ y e d o. put_case (λ z. z ≡ Held (Grant e) d) s.hold l x y
        (λ w. elim (back y e d o) [
          | inl z ↦ (λ j. Held (Grant (sym z.1 j)) (sym z.2 j))
          | inr z ↦ absurd (let q = sym f.held ∙ ap s.hold (sym w) ∙ b.out y e d z in cc)
        ])
        (λ w. elim (back y e d o) [ inl z ↦ absurd (w z.0) | inr z ↦ b.out y e d z ]))

    abbrev given_over : Registers
    given_over = (handed_over (at p i r Ended)).registers

    abbrev T : TreeState
    T = with_hold s (lock_of p n) (Held (Grant (compute_of p i)) depth)

    dropped : (after : Then) (k : KeepsActor p s i (actor_in p i a r (Leave n (Some depth) after))) → Hands T i None
    dropped after k = hands_drop s i (lock_of p n) (Held (Grant (compute_of p i)) depth) (λ o. cc) k.work.hands

    goes_off : (after : Then) (to : Phase) (k : KeepsActor p s i (actor_in p i a r (Leave n (Some depth) after))) → Fits p T i a.first a.point (length sn) given_over k.work.duty to → holding p given_over to ≡ None → pending i given_over to ≡ pending i r (Leave n (Some depth) after)
        → IsCalm to → Moves Has i (next a (length sn) (at p i given_over to)) Now → Inv p words s.log Now After
    goes_off after to k fits off same calm mv =
        let q : Machine = at p i given_over to in
        puts_out after k (next a (length sn) q)
        (goes_on p s T i (length sn) (actor_in p i a r (Leave n (Some depth) after)) q k refl (λ server. omega arith) more short_seen
        (work_with p s T i a.first a.point a.seen (length sn) r (Leave n (Some depth) after) k.work (same_hold s (lock_of p n) (Held (Grant (compute_of p i)) depth)) more given_over to record { call_is = refl; reply_is = refl; spare_is = refl; skips_are = refl; cached_is = refl } fits (subst (Hands T i) (sym off) (dropped after k))) same) calm mv

    pub parts_with : (word : ℕ) (after : Then) → Has i (actor_in p i a r (Leave n (Some depth) after)) → Moves Has i (actor_stepped i (actor_in p i a r (Leave n (Some depth) after)) sn word) Now → Inv p words s.log Now After
    parts_with word Ends h mv =
        let k = b.kept i (actor_in p i a r (Leave n (Some depth) Ends)) h in
        let f = k.work.fits.follows in
        let end = decided_ends p s sn rest i a r.rows whole more k.first r.call r.reply f.decided in
        let q : Machine = at p i given_over Ended in
        puts_out Ends k (ending i (actor_in p i a r (Leave n (Some depth) Ends)) sn q)
        (ends_now p s T i (actor_in p i a r (Leave n (Some depth) Ends)) q sn k refl (λ server. omega arith) short_seen more
        (work_ended p s T i a.first a.point a.seen (length sn) r (Leave n (Some depth) Ends) k.work (same_hold s (lock_of p n) (Held (Grant (compute_of p i)) depth)) more given_over refl refl refl refl f.none (dropped Ends k)) end.answered (decided_cause p s sn i a more (rows_for r.call r.rows) r.call r.reply f.decided) end.from end.past refl refl) tt mv
    parts_with word (Starts aim) h mv = let k = b.kept i (actor_in p i a r (Leave n (Some depth) (Starts aim))) h in goes_off (Starts aim) (Root aim) k (to_root p T i a.first given_over aim k.work.duty k.work.fits.follows) refl refl tt mv
    parts_with word (Takes aim node) h mv =
        let k = b.kept i (actor_in p i a r (Leave n (Some depth) (Takes aim node))) h in
        goes_off (Takes aim node) (Draw aim node) k (at_on p s T i 0 0 0 0 (same_grows s T i 0 0 (same_hold s (lock_of p n) (Held (Grant (compute_of p i)) depth)) (omega arith)) r.call aim node k.work.duty k.work.fits.follows) refl refl tt mv

-- ---- the laws of the turns that a compute server answers, and of rights

module _ (p : ConfigParts) (ok : IsSetting p) (words : List ℕ) (log seen : List LogEntry) (Has Now : ℕ → Actor → Type 0) (Out : ℕ → ℕ → ℕ → Type 0) (i : ℕ) (a : Actor) (inv : Inv p words log Has Out) (h : Has i a) (saw : HasSeen log seen a) where
  abbrev R : Registers
  R = a.client.registers

  whole : inv.scene.log ≡ seen ++ saw.rest
  whole = inv.log_is ∙ saw.whole

  B : Before p words Has Out inv.scene
  B = before p words log Has Out inv

  here : (ph : Phase) → a.client.phase ≡ ph → a ≡ actor_in p i a R ph
  here ph e = actor_is p i a ph (inv.kept i a h).work.seated e

  logs : (Out : ℕ → ℕ → ℕ → Type 0) → Inv p words inv.scene.log Now Out → Inv p words log Now Out
  logs Out x = subst (λ (es : List LogEntry). Inv p words es Now Out) inv.log_is x

  abbrev L : Phase → ℕ → Type 0
  L ph word = Has i (actor_in p i a R ph) → Moves Has i (actor_stepped i (actor_in p i a R ph) seen word) Now → Inv p words inv.scene.log Now Out

  locals : (ph : Phase) (word : ℕ) → IsLocal (want_in (at p i R ph) ph) → L ph word
  locals (Draw aim n) word l = draw p ok words Has Now Out i inv.scene B a R seen saw.rest whole saw.more aim n word
  locals (Look aim n) word l = look p ok words Has Now Out i inv.scene B a R seen saw.rest whole saw.more aim n word
  locals (Waiting d giving) word l = waiting p ok words Has Now Out i inv.scene B a R seen saw.rest whole saw.more d word giving
  locals (Leave n None after) word l = leave p ok words Has Now Out i inv.scene B a R seen saw.rest whole saw.more n word after
  locals (Read aim top) word l = absurd (search rules)
  locals (ReadLocked aim d) word l = absurd (search rules)
  locals (Seek need) word l = absurd (search rules)
  locals ph word l = absurd l

  pub local_turn : (word : ℕ) → IsLocal (want_of a.client) → Moves Has i (actor_stepped i a seen word) Now → Inv p words log Now Out
  local_turn word l mv =
      let e = here a.client.phase refl in
      logs Out (locals a.client.phase word (subst (λ (x : Actor). IsLocal (want_of x.client)) e l) (subst (Has i) e h) (subst (λ (x : Actor). Moves Has i (actor_stepped i x seen word) Now) e mv))

  pub look_turn : (aim : Aim) (n : ℕ) → a.client.phase ≡ Look aim n → Moves Has i (actor_turned i a seen None) Now → Inv p words log Now Out
  look_turn aim n e mv =
      let q = here (Look aim n) e in
      logs Out (turn p ok words Has Now Out i inv.scene B a R seen saw.rest whole saw.more aim n (subst (Has i) q h) (subst (λ (x : Actor). Moves Has i (actor_turned i x seen None) Now) q mv))

  pub take_turn : (After : ℕ → ℕ → ℕ → Type 0) (aim : Aim) (n depth : ℕ) → a.client.phase ≡ Look aim n → Out (lock_of p n) (compute_of p i) depth
      → ((l c d : ℕ) → After l c d → (l ≢ lock_of p n) × Out l c d) → ((l c d : ℕ) → l ≢ lock_of p n → Out l c d → After l c d) → Moves Has i (actor_turned i a seen (Some depth)) Now → Inv p words log Now After
  take_turn After aim n depth e out back on mv =
      let q = here (Look aim n) e in
      logs After (takes_up p ok words Has Now Out After i inv.scene B a R seen saw.rest whole saw.more aim n depth (subst (Has i) q h) out back on (subst (λ (x : Actor). Moves Has i (actor_turned i x seen (Some depth)) Now) q mv))

  pub part_turn : (After : ℕ → ℕ → ℕ → Type 0) (word n depth : ℕ) (after : Then) → a.client.phase ≡ Leave n (Some depth) after → After (lock_of p n) (compute_of p i) depth
      → ((l c d : ℕ) → After l c d → ((l ≡ lock_of p n) × (c ≡ compute_of p i) × (d ≡ depth)) ⊎ Out l c d) → ((l c d : ℕ) → Out l c d → After l c d) → Moves Has i (actor_stepped i a seen word) Now → Inv p words log Now After
  part_turn After word n depth after e at back on mv =
      let q = here (Leave n (Some depth) after) e in
      logs After (parts_with p ok words Has Now Out After i inv.scene B a R seen saw.rest whole saw.more n depth at back on word after (subst (Has i) q h) (subst (λ (x : Actor). Moves Has i (actor_stepped i x seen word) Now) q mv))

pub local_keeps : (p : ConfigParts) → IsSetting p → LocalKeeps p
local_keeps p ok words log seen Has Now Out i word a inv h l saw mv = local_turn p ok words log seen Has Now Out i a inv h saw word l mv

pub look_keeps : (p : ConfigParts) → IsSetting p → LookKeeps p
look_keeps p ok words log seen Has Now Out i a aim n inv h e saw mv = look_turn p ok words log seen Has Now Out i a inv h saw aim n e mv

pub take_keeps : (p : ConfigParts) → IsSetting p → TakeKeeps p
take_keeps p ok words log seen Has Now Out After i a aim n depth inv h e saw out back on mv = take_turn p ok words log seen Has Now Out i a inv h saw After aim n depth e out back on mv

pub part_keeps : (p : ConfigParts) → IsSetting p → PartKeeps p
part_keeps p ok words log seen Has Now Out After i word a n depth after inv h e saw at back on mv = part_turn p ok words log seen Has Now Out i a inv h saw After word n depth after e at back on mv
