-- The world after a turn of a seat, want by want.
use Rattle.std.proofs.Common.{◌≡◌, ℕ, zero, suc, ◌<◌, ◌≤◌, inl, inr, Bool, true, false, List, [], ◌++◌, length, get_or, set, Option, Some, None, refl, sym, ap, ◌∙◌, subst, arith, append-nil}
use Rattle.std.{proofs.lemmas.{Bool.{cases_eq, eqb-true}, Option.{slice_get-get_or}}, specs.Prelude.{◌==◌, if◌then◌else◌, slice_get}}
use Rattle.sh_logic.proofs.Options.{some_is, none_some}
use Rattle.sh_base.specs.{declared.{config.ConfigParts.{ConfigParts}, event.Event.{Event}}, Setting.{all_locks, all_seats, IsSetting}, Layout.{compute_of, lock_of}, Memory.{apply, found_by}}
use Rattle.sh_map.specs.declared.log.Entry.{Entry}
use Rattle.sh_state.specs.TreeState.{Grant, Held}
use Rattle.sh_client.proofs.{CachedLemmas.{fed_keeps, turned_keeps}, InLineLemmas.{count_stands, draw_stands, fed_stands, leave_stands, look_stands, Elsewhere, IsEvent}}
use Rattle.sh_client.{proofs.Wanting.{leaving, line_makes, looking, wants_busy}, specs.{Feeds.{fed_by, turned_by}, Giving.{makes}, Machine.{Machine}, Rests.{is_resting}, Wants.{want_of}}}
use Rattle.sh_client.specs.{InLine.{MayHand, Stand, Away, Waits, Served, is_some, stand_of, IsIn, HasTurn, WillHand}, declared.state.{Phase.TheVariants.{Leave}, Want.{Want}}}
use Rattle.sh_core.specs.{Actors.{Actor, becomes, actor_turned}, Fits.{Fits}, Keeps.{KeepsActor}, Core.{Inv, Moves, IsLocal, HasSeen}}
use Rattle.sh_core_turns.proofs.{Turns.{turn_keeps}, LocalLaws.{local_keeps, look_keeps, take_keeps, part_keeps}}
use Rattle.sh_world.proofs.QueueLemmas.{compute_within, line_apart, line_within, minus_one, minus_small, line_drawn, line_left, line_turned, elsewhere_back, elsewhere_on, left_back, left_new}
use Rattle.sh_world.{proofs.{QueueLemmas.{left_mine, left_old, left_on, lines_one, lines_still, out_same, place_stand, place_ticket}, RunLemmas.{made_of_seat, settled_runs}}, specs.Lines.{IsLine}}
use Rattle.sh_world.specs.{Running.{IsRunning}, States.{Place, State, actor_of, line_at, HasActor, IsLeft}, declared.state.Line.{Line}}
use Rattle.sh_world.specs.Turning.{behind, called, calls_after, drawn, left_line, line_of, looked_client, looked_line, made, minus, or_free, place_after}
use Rattle.sh_client.specs.declared.state.Want.TheVariants as want

-- the state with another place at the seat
abbrev pub put_place : State → (seat : ℕ) → Place → State
put_place s i q = record s { seats = set s.seats i q }

module _ (s : State) (run : IsRunning s) (i : ℕ) (q : Place) (at : slice_get s.seats i ≡ Some q) where
  abbrev P : ConfigParts
  P = s.setting

  abbrev ok : IsSetting P
  ok = run.setting

  abbrev A : Actor
  A = actor_of s.calls i q

  abbrev Has : ℕ → Actor → Type 0
  Has = HasActor s.seats s.calls

  abbrev Out : ℕ → ℕ → ℕ → Type 0
  Out = IsLeft P s.lines

  k : KeepsActor P run.inv.scene i A
  k = run.inv.kept i A (record { place = q; here = at; actor_is = refl })

  h : Has i A
  h = record { place = q; here = at; actor_is = refl }

  seat_small : i < all_seats P
  seat_small = k.work.seated.within

  abbrev D : ℕ
  D = compute_of P i

  compute_small : D < P.computes
  compute_small = compute_within P ok i seat_small

  saw : HasSeen s.log s.log A
  saw = let e = ap length run.inv.log_is in let l = k.seen in record { rest = []; whole = sym (append-nil s.log); more = omega (arith, e, l) }

  no_more : (Now : ℕ → Actor → Type 0) (After : ℕ → ℕ → ℕ → Type 0) → Inv P s.words s.log Now After → Inv P s.words (s.log ++ []) Now After
  no_more Now After inv = subst (λ (es : List Entry). Inv P s.words es Now After) (sym (append-nil s.log)) inv

  none_made : (k : ℕ) (e : Entry) → slice_get {X = Entry} [] k ≡ Some e → e.seat < all_seats P
  none_made k e x = cc

  -- ---- events

  module _ (e : Event) (w : want_of q.client ≡ want.Event e) where
    abbrev M : Machine
    M = fed_by q.client (found_by s.words e)

    pub event_busy : is_resting q.client ≡ false
    event_busy = wants_busy q.client (want.Event e) w (λ x. cc)

    pub event_step : (Now : ℕ → Actor → Type 0) → Moves Has i (becomes i A s.log (makes q.client) M) Now → Inv P (apply s.words e) (s.log ++ makes q.client) Now Out
    event_step Now mv = turn_keeps P ok s.words s.log Has Now Out i A e run.inv h w mv

    event_stand : stand_of q.client ≡ stand_of (place_after q s.log (makes q.client) M).client
    event_stand = sym (place_stand q s.log (makes q.client) M ∙ fed_stands q.client (found_by s.words e) q.client.phase (subst IsEvent (sym w) tt))

    pub event_runs : IsRunning (made s i q e)
    event_runs = settled_runs s run i q at event_busy q.ticket (apply s.words e) s.lines (makes q.client) M (fed_keeps q.client (found_by s.words e)).2 event_step
        (lines_still P ok s.lines s.seats i q (place_after q s.log (makes q.client) M) at run.lines event_stand (inr (sym (place_ticket q s.log (makes q.client) M))))
        (λ k e x. let own = made_of_seat q.client q.client.phase k e x in let seat = (run.inv.kept i A h).work.seated.seat_is in omega (arith, own, seat, seat_small))

  -- ---- lines

  module _ (lock : ℕ) (lock_ok : lock < all_locks P) where
    abbrev X : Line
    X = line_of s i lock

    abbrev K : ℕ
    K = line_at P lock D

    pub at_line : slice_get s.lines K ≡ Some X
    at_line =
        let there = slice_get-get_or s.lines K X (omega (arith, line_within P ok lock D lock_ok compute_small, run.lines.count)) in
        let is : X ≡ get_or s.lines K X = ap or_free there in
        there ∙ ap Some (sym is)

    line_ok : IsLine P s.seats lock D X
    line_ok = run.lines.each lock D X lock_ok compute_small at_line

    -- the seat stands in this line or in none
    in_waits : (x : Stand) → x ≡ Waits lock → (l : ℕ) → IsIn l x → l ≡ lock
    in_waits x e l a = sym (subst (IsIn l) e a)

    in_served : (x : Stand) (b : Bool) → x ≡ Served lock b → (l : ℕ) → IsIn l x → l ≡ lock
    in_served x b e l a = sym (subst (IsIn l) e a)

    in_none : (x : Stand) → x ≡ Away → (l : ℕ) → IsIn l x → l ≡ lock
    in_none x e l a = absurd (subst (IsIn l) e a)

    -- a seat that has its turn here
    its_turn : (b : Bool) → stand_of q.client ≡ Served lock b → (q.ticket ≡ X.served) × (X.left ≡ None)
    its_turn b e = line_ok.turn i q (record { here = at; compute_is = refl; stands = subst (IsIn lock) (sym e) refl }) (subst (HasTurn lock) (sym e) refl)

    -- the line becomes this with the seat, which has this ticket then and becomes m
    module _ (new : Line) (t : ℕ) (m : Machine) where
      abbrev T : Place
      T = record q { ticket = t }

      abbrev Q : Place
      Q = place_after T s.log [] m

      abbrev L : List Line
      L = set s.lines K new

      -- a turn that leaves the rights where they are
      stays : (w : Want) → want_of q.client ≡ w → (Elsewhere w → ⊥) → IsLocal w → (word : ℕ) → m ≡ fed_by q.client word → new.left ≡ X.left → (Now : ℕ → Actor → Type 0) → Moves Has i (becomes i A s.log [] m) Now → Inv P s.words (s.log ++ []) Now (IsLeft P L)
      stays w wants line local word fed left Now mv =
          no_more Now (IsLeft P L) (out_same P s.words s.log Now Out (IsLeft P L) (left_on P ok s.lines lock D lock_ok compute_small X new at_line left) (left_back P ok s.lines lock D lock_ok compute_small X new at_line left)
          (local_keeps P ok s.words s.log s.log Has Now Out i word A run.inv h (subst IsLocal (sym wants) local) saw (subst (λ (es : List Entry). Moves Has i (becomes i A s.log es (fed_by q.client word)) Now) (sym (line_makes q.client w wants line)) (subst (λ (x : Machine). Moves Has i (becomes i A s.log [] x) Now) fed mv))))

      line_runs : is_resting q.client ≡ false → m.registers.call ≡ q.client.registers.call → ((l : ℕ) → IsIn l (stand_of q.client) → l ≡ lock) → ((l : ℕ) → IsIn l (stand_of Q.client) → l ≡ lock)
          → ((Now : ℕ → Actor → Type 0) → Moves Has i (becomes i A s.log [] m) Now → Inv P s.words (s.log ++ []) Now (IsLeft P L)) → IsLine P (set s.seats i Q) lock D new
          → IsRunning (record { setting = P; words = s.words; log = s.log ++ []; seats = set s.seats i Q; calls = calls_after s.calls q s.log m; lines = L })
      line_runs busy same before now step line = settled_runs s run i q at busy t s.words L [] m same step (lines_one P ok s.lines lock D lock_ok compute_small X new at_line s.seats i q Q at refl run.lines now before line) none_made

    -- a ticket is drawn
    pub draw_runs : want_of q.client ≡ want.Draw lock → IsRunning (called s i lock q X (want.Draw lock))
    draw_runs w =
        let m = fed_by q.client X.next in
        let is = draw_stands q.client X.next lock q.client.phase w in
        let now = place_stand (T (drawn X) X.next m) s.log [] m ∙ is.1 in
        line_runs (drawn X) X.next m (wants_busy q.client (want.Draw lock) w (λ x. cc)) (fed_keeps q.client X.next).2 (in_none _ is.0) (in_waits _ now)
        (stays (drawn X) X.next m (want.Draw lock) w (λ x. x) tt X.next refl refl) (line_drawn P ok s.seats i q (Q (drawn X) X.next m) at lock X line_ok is.0 now (place_ticket (T (drawn X) X.next m) s.log [] m) run.seats)

    -- the count
    module _ (w : want_of q.client ≡ want.Waiting lock) where
      abbrev N : ℕ
      N = behind X q.ticket

      abbrev CM : Machine
      CM = fed_by q.client N

      abbrev CQ : Place
      CQ = place_after q s.log [] CM

      count_was : stand_of q.client ≡ Served lock false
      count_was = (count_stands q.client N lock q.client.phase w).0

      count_now : MayHand lock N (stand_of CQ.client)
      count_now = subst (MayHand lock N) (sym (place_stand q s.log [] CM)) (count_stands q.client N lock q.client.phase w).1

      may_in : (n : ℕ) (x : Stand) → MayHand lock n x → (IsIn lock x) × ((l : ℕ) → IsIn l x → l ≡ lock)
      may_in zero x e = (subst (IsIn lock) (sym e) refl, in_served x false e)
      may_in (suc n) x e = elim e [ inl f ↦ (subst (IsIn lock) (sym f) refl, in_served x false f) | inr f ↦ (subst (IsIn lock) (sym f) refl, in_served x true f) ]

      may_will : (n : ℕ) (x : Stand) → MayHand lock n x → WillHand lock x → 1 ≤ n
      may_will zero x e will = let f = (subst (WillHand lock) e will).1 in cc
      may_will (suc n) x e will = omega arith

      two : 1 ≤ N → 2 ≤ minus X.next X.served
      two one =
          let o = line_ok.out i q (record { here = at; compute_is = refl; stands = subst (IsIn lock) (sym count_was) refl }) in
          let same : minus X.next q.ticket ≡ minus X.next X.served = ap (minus X.next) (its_turn false count_was).0 in
          let m = minus_one (minus X.next q.ticket) (omega (arith, o.1, same)) (minus_small X.next q.ticket) in
          omega (arith, m, one, same)

      pub count_runs : IsRunning (called s i lock q X (want.Waiting lock))
      count_runs =
          let in_line = may_in N (stand_of CQ.client) count_now in
          line_runs X q.ticket CM (wants_busy q.client (want.Waiting lock) w (λ x. cc)) (fed_keeps q.client N).2 (in_served _ false count_was) in_line.1 (stays X q.ticket CM (want.Waiting lock) w (λ x. x) tt N refl refl)
          (line_turned P ok s.seats i q CQ at lock X line_ok (subst (IsIn lock) (sym count_was) refl) in_line.0 (place_ticket q s.log [] CM) X.left (λ t. its_turn false count_was) (λ will. two (may_will N (stand_of CQ.client) count_now will)) (inl refl))

    -- a look
    module _ (w : want_of q.client ≡ want.Look lock) where
      look_busy : is_resting q.client ≡ false
      look_busy = wants_busy q.client (want.Look lock) w (λ x. cc)

      abbrev LM : Machine
      LM = looked_client q X

      abbrev LQ : Place
      LQ = place_after q s.log [] LM

      waits : stand_of q.client ≡ Waits lock
      waits = (look_stands q.client 0 lock None q.client.phase w).0

      -- the ticket isn't served yet
      wait_runs : (X.served == q.ticket) ≡ false → IsRunning (called s i lock q X (want.Look lock))
      wait_runs later =
          let fed : LM ≡ fed_by q.client X.served = ap (λ (b : Bool). if b then turned_by q.client X.left else fed_by q.client X.served) later in
          let still : LM ≡ q.client = fed ∙ (look_stands q.client X.served lock None q.client.phase w).1 in
          let line : looked_line q X ≡ X = ap (λ (b : Bool). if b then record X { left = None } else X) later in
          let now : stand_of LQ.client ≡ Waits lock = place_stand q s.log [] LM ∙ ap stand_of still ∙ waits in
          line_runs (looked_line q X) q.ticket LM look_busy (ap (λ (m : Machine). m.registers.call) still) (in_waits _ waits) (in_waits _ now) (stays (looked_line q X) q.ticket LM (want.Look lock) w (λ x. x) tt X.served fed (ap (λ (l : Line). l.left) line))
          (subst (IsLine P (set s.seats i LQ) lock D) (sym line) (line_turned P ok s.seats i q LQ at lock X line_ok (subst (IsIn lock) (sym waits) refl) (subst (IsIn lock) (sym now) refl) (place_ticket q s.log [] LM) X.left (λ t. absurd (subst (HasTurn lock) now t)) (λ t. absurd (subst (WillHand lock) now t)) (inl refl)))

      -- it is: what was left is taken
      module _ (yes_is : (X.served == q.ticket) ≡ true) where
        client_turned : LM ≡ turned_by q.client X.left
        client_turned = ap (λ (b : Bool). if b then turned_by q.client X.left else fed_by q.client X.served) yes_is

        abbrev taken : Line
        taken = record X { left = None }

        -- the right that lies in the line is the only one to its lock
        only : (l c d e : ℕ) → X.left ≡ Some d → l ≡ lock → IsLeft P s.lines l c e → line_at P l c ≡ K
        only l c d e left l_is o =
            let there = run.inv.out lock D d (record { line = X; lock_is = lock_ok; compute_is = compute_small; here = at_line; left = left }) in
            let here = run.inv.out l c e o in
            let same = right_is (sym here ∙ ap run.inv.scene.hold l_is ∙ there) in
            (λ z. line_at P (l_is z) (same z)) where
              right_is : {a b m n : ℕ} → Held (Grant a) m ≡ Held (Grant b) n → a ≡ b
              right_is x = cc

        turn_step : (o : Option ℕ) → X.left ≡ o → (Now : ℕ → Actor → Type 0) → Moves Has i (becomes i A s.log [] LM) Now → Inv P s.words (s.log ++ []) Now (IsLeft P (set s.lines K taken))
        turn_step None left Now mv =
            let l = looking q.client lock w in
            let mv1 : Moves Has i (actor_turned i A s.log None) Now = subst (λ (m : Machine). Moves Has i (becomes i A s.log [] m) Now) (client_turned ∙ ap (turned_by q.client) left) mv in
            no_more Now (IsLeft P (set s.lines K taken)) (out_same P s.words s.log Now Out (IsLeft P (set s.lines K taken)) (left_on P ok s.lines lock D lock_ok compute_small X taken at_line (sym left)) (left_back P ok s.lines lock D lock_ok compute_small X taken at_line (sym left))
            (look_keeps P ok s.words s.log s.log Has Now Out i A l.aim l.node run.inv h l.phase_is saw mv1))
        turn_step (Some d) left Now mv =
            let l = looking q.client lock w in
            let lock_is : lock_of P l.node ≡ lock = ap (λ (p : ConfigParts). lock_of p l.node) (sym k.work.seated.setting_is) ∙ l.lock_is in
            let mv1 : Moves Has i (actor_turned i A s.log (Some d)) Now = subst (λ (m : Machine). Moves Has i (becomes i A s.log [] m) Now) (client_turned ∙ ap (turned_by q.client) left) mv in
            no_more Now (IsLeft P (set s.lines K taken)) (take_keeps P ok s.words s.log s.log Has Now Out (IsLeft P (set s.lines K taken)) i A l.aim l.node d run.inv h l.phase_is saw
            (subst (λ (n : ℕ). IsLeft P s.lines n D d) (sym lock_is) (record { line = X; lock_is = lock_ok; compute_is = compute_small; here = at_line; left = left }))
            (λ n c e o. elim (cases_eq (line_at P n c) K) [
              | inl is ↦ absurd (none_some (left_new P ok s.lines lock D lock_ok compute_small X taken at_line n c e is o).0)
              | inr ne ↦ let b = elsewhere_back P ok s.lines lock D lock_ok compute_small X taken at_line n c e ne o in ((λ (q : n ≡ lock_of P l.node). ne (only n c d e left (q ∙ lock_is) b)), b)
            ])
            (λ n c e far o. elsewhere_on P ok s.lines lock D lock_ok compute_small X taken at_line n c e (λ is. far (sym ((line_apart P ok lock D n c compute_small o.compute_is (sym is)).0) ∙ sym lock_is)) o) mv1)

        turn_runs : IsRunning (called s i lock q X (want.Look lock))
        turn_runs =
            let now : stand_of LQ.client ≡ Served lock false = place_stand q s.log [] LM ∙ ap stand_of client_turned ∙ (look_stands q.client 0 lock X.left q.client.phase w).2 in
            let line : looked_line q X ≡ taken = ap (λ (b : Bool). if b then record X { left = None } else X) yes_is in
            let served : q.ticket ≡ X.served = sym (eqb-true X.served q.ticket yes_is) in
            subst (λ (x : Line). IsRunning (record { setting = P; words = s.words; log = s.log ++ []; seats = set s.seats i LQ; calls = calls_after s.calls q s.log LM; lines = set s.lines K x })) (sym line)
            (line_runs taken q.ticket LM look_busy (ap (λ (m : Machine). m.registers.call) client_turned ∙ (turned_keeps q.client X.left).2) (in_waits _ waits) (in_served _ false now) (turn_step X.left refl)
            (line_turned P ok s.seats i q LQ at lock X line_ok (subst (IsIn lock) (sym waits) refl) (subst (IsIn lock) (sym now) refl) (place_ticket q s.log [] LM) None (λ t. (served, refl)) (λ will. absurd (let f = (subst (WillHand lock) now will).1 in cc)) (inr refl)))

      look_by : (b : Bool) → (X.served == q.ticket) ≡ b → IsRunning (called s i lock q X (want.Look lock))
      look_by true e = turn_runs e
      look_by false e = wait_runs e

      pub look_runs : IsRunning (called s i lock q X (want.Look lock))
      look_runs = look_by (X.served == q.ticket) refl

    -- the line is left
    module _ (carry : Option ℕ) (w : want_of q.client ≡ want.Leave lock carry) where
      pub leave_busy : is_resting q.client ≡ false
      leave_busy = wants_busy q.client (want.Leave lock carry) w (λ x. cc)

      abbrev VM : Machine
      VM = fed_by q.client 0

      abbrev VQ : Place
      VQ = place_after q s.log [] VM

      abbrev VL : List Line
      VL = set s.lines K (left_line X carry)

      leave_was : stand_of q.client ≡ Served lock (is_some carry)
      leave_was = (leave_stands q.client 0 lock carry q.client.phase w).0

      carry_bound : (d : ℕ) → carry ≡ Some d → d ≤ P.bound
      carry_bound d e =
          let l = leaving q.client lock carry w in
          let f = subst (Fits P run.inv.scene i q.first q.point q.seen q.client.registers k.work.duty) (l.phase_is ∙ ap (λ (o : Option ℕ). Leave l.node o l.after) e) k.work.fits in
          f.leaving.carries.within

      pub leave_step : (o : Option ℕ) → carry ≡ o → (Now : ℕ → Actor → Type 0) → Moves Has i (becomes i A s.log [] VM) Now → Inv P s.words (s.log ++ []) Now (IsLeft P VL)
      leave_step None e Now mv = stays (left_line X carry) q.ticket VM (want.Leave lock None) (w ∙ ap (λ (o : Option ℕ). want.Leave lock o) e) (λ x. x) tt 0 refl (e ∙ sym (its_turn (is_some carry) leave_was).1) Now mv
      leave_step (Some d) e Now mv =
          let l = leaving q.client lock carry w in
          let lock_is : lock_of P l.node ≡ lock = ap (λ (p : ConfigParts). lock_of p l.node) (sym k.work.seated.setting_is) ∙ l.lock_is in
          no_more Now (IsLeft P VL) (part_keeps P ok s.words s.log s.log Has Now Out (IsLeft P VL) i 0 A l.node d l.after run.inv h (l.phase_is ∙ ap (λ (o : Option ℕ). Leave l.node o l.after) e) saw
          (subst (λ (n : ℕ). IsLeft P VL n D d) (sym lock_is) (left_mine P ok s.lines lock D lock_ok compute_small X (left_line X carry) at_line d e))
          (λ n c b o. elim (cases_eq (line_at P n c) K) [
            | inl is ↦ let x = left_new P ok s.lines lock D lock_ok compute_small X (left_line X carry) at_line n c b is o in inl (sym x.1 ∙ sym lock_is, sym x.2, some_is (sym x.0 ∙ e))
            | inr ne ↦ inr (elsewhere_back P ok s.lines lock D lock_ok compute_small X (left_line X carry) at_line n c b ne o)
          ])
          (λ n c b o. elim (cases_eq (line_at P n c) K) [
            | inl is ↦ let x = (left_old P ok s.lines lock D lock_ok compute_small X (left_line X carry) at_line n c b is o).0 in absurd (none_some (sym (its_turn (is_some carry) leave_was).1 ∙ x))
            | inr ne ↦ elsewhere_on P ok s.lines lock D lock_ok compute_small X (left_line X carry) at_line n c b ne o
          ])
          (subst (λ (es : List Entry). Moves Has i (becomes i A s.log es VM) Now) (sym (line_makes q.client (want.Leave lock carry) w (λ x. x))) mv))

      pub leave_runs : IsRunning (called s i lock q X (want.Leave lock carry))
      leave_runs =
          let now = place_stand q s.log [] VM ∙ (leave_stands q.client 0 lock carry q.client.phase w).1 in
          line_runs (left_line X carry) q.ticket VM leave_busy (fed_keeps q.client 0).2 (in_served _ (is_some carry) leave_was) (in_none _ now) (leave_step carry refl) (line_left P ok s.seats i q VQ at lock X line_ok carry leave_was now carry_bound)
