-- The turns that a compute server answers.
use Rattle.std.proofs.Common.{rules, ◌≡◌, ℕ, ◌+◌, ◌%◌, ◌^◌, Bool, true, false, Option, Some, None, List, [], ◌∷◌, ◌++◌, length, drop, refl, ap, sym, ◌∙◌, subst, arith, length-append}
use Rattle.std.proofs.Math.ListN.{drop_of_length-le}
use Rattle.sh_base.specs.{declared.config.ConfigParts.{ConfigParts}, Layout.{compute_of}}
use Rattle.sh_decide.specs.declared.state.Aim.{Aim}
use Rattle.sh_client.specs.declared.state.Want.TheVariants as want
use Rattle.sh_client.specs.{declared.state.Phase.{Phase, TheVariants.{Look}}, Machine.{Machine}, Feeds.{fed_by, fed_in, turned_by, turned_in}, Giving.{makes}}
use Rattle.sh_client.{specs.{InLine.{is_some, stand_of, MayHand, Served, Stand, Waits}, Rests.{is_resting}, Wants.{want_in, want_of}}, proofs.CachedLemmas.{fed_keeps, turned_keeps}}
use Rattle.sh_client.proofs.{InLineLemmas.{count_is, count_stands, draw_stands, leave_stands, load_is, look_stands, not_elsewhere}, Wanting.{leaving, looking}}
use Rattle.sh_core.specs.{Actors.{actor_stepped, actor_turned}, Core.{IsLocal}}
use Rattle.sh_local.specs.declared.view.{View.{View}, ChairCall.{ChairCall, TheVariants.{Drew, Waited, Turned, Counted, Left}}}
use Rattle.sh_local.{specs.{Calls.{counted, drew, gave, given, gone, held, taken, took, total, turned, waited}, Chairs.{HasTicketFor, Sitting}}, proofs.Sums.{total_snoc}}
use Rattle.sh_logic.proofs.Options.{some_none}
use Rattle.sh_pool_rule.specs.{declared.view.PassView.{PassView}, Views.{longer, view_seat}, Untold.{WordAnswered, StaysAnswered}, Rights.{depth_of, parted_view, taken_view}}
use Rattle.sh_pool_rule.proofs.{LifeLemmas.{becomes_client, turn_lives, word_lives}, Stayed.{stays_handed, stays_taken}}
use Rattle.sh_pool.specs.{Handed.{Handed}, Fitting.{cell_for}, Passes.{pass_actor, life_of, tale_of, untold_of, EndsLeft, IsBefore, IsPass, SitsWhere, Standing}, declared.right.Knower.{Knower}}
use Rattle.sh_pool.proofs.Steps.{answer_pass, answered_now, busy_at, count_not_begun, leave_not_begun, moved_pass, serve_pass, standing, stays_now, turn_calls, word_calls}

false_true : false ≡ true → ⊥
false_true e = cc

-- ---- a draw

-- a chair with no ticket may draw
pub draws : (p : Standing) (lock : ℕ) → IsPass p → want_of p.client ≡ want.Draw lock → p.chair.view.ticket ≡ None
draws p lock i wants = subst (SitsWhere p.client.setting (compute_of p.client.setting p.client.seat) p.chair.view) (draw_stands p.client 0 lock p.client.phase wants).0 i.sits

draws_to : (m : Machine) (word lock : ℕ) (ph : Phase) → want_in m ph ≡ want.Draw lock → IsBefore (fed_in m word ph).phase
draws_to m word lock ph e = search (rules, not_elsewhere, load_is, count_is)

pub draw_pass : (p : Standing) (c : Sitting Handed Knower) (lock n word : ℕ) → IsPass p → want_of p.client ≡ want.Draw lock → c.view ≡ drew p.chair.view (cell_for p.client.setting lock (compute_of p.client.setting p.client.seat)) n → word ≡ n % 2 ^ 64 → IsPass (standing p.table (fed_by p.client word) p.begun p.view c)
draw_pass p c lock n word i wants is word_is =
    let C : ℕ = compute_of p.client.setting p.client.seat in
    let cell : ℕ = cell_for p.client.setting lock C in
    answer_pass p c (Drew cell n) word i (subst IsLocal (sym wants) tt) (ap (λ (v : View Handed Knower). v.calls) is) (ap (λ (w : ℕ). WordAnswered w ∷ []) (sym word_is)) (λ b. refl)
    (subst (SitsWhere p.client.setting C c.view) (sym (draw_stands p.client word lock p.client.phase wants).1) (subst (λ (v : View Handed Knower). SitsWhere p.client.setting C v (Waits lock)) (sym is) (refl, refl, refl)))
    (λ b. draws_to p.client word lock p.client.phase wants) (λ t. absurd (some_none (sym (ap (λ (v : View Handed Knower). v.ticket) is) ∙ t))) refl refl

-- ---- a look

pub waits : (p : Standing) (lock : ℕ) → IsPass p → want_of p.client ≡ want.Look lock → SitsWhere p.client.setting (compute_of p.client.setting p.client.seat) p.chair.view (Waits lock)
waits p lock i wants = subst (SitsWhere p.client.setting (compute_of p.client.setting p.client.seat) p.chair.view) (look_stands p.client 0 lock None p.client.phase wants).0 i.sits

pub wait_pass : (p : Standing) (c : Sitting Handed Knower) (lock found : ℕ) → IsPass p → want_of p.client ≡ want.Look lock → c.view ≡ waited p.chair.view found → IsPass (standing p.table (fed_by p.client found) p.begun p.view c)
wait_pass p c lock found i wants is =
    let C : ℕ = compute_of p.client.setting p.client.seat in
    let l = look_stands p.client found lock None p.client.phase wants in
    let h = waits p lock i wants in
    answer_pass p c (Waited (held p.chair.view).cell (held p.chair.view).number found) found i (subst IsLocal (sym wants) tt) (ap (λ (v : View Handed Knower). v.calls) is) refl (λ b. refl)
    (subst (λ (m : Machine). SitsWhere p.client.setting C c.view (stand_of m)) (sym l.1) (subst (SitsWhere p.client.setting C c.view) (sym l.0) (subst (λ (v : View Handed Knower). SitsWhere p.client.setting C v (Waits lock)) (sym is) (refl, h.1, h.2))))
    (λ b. subst (λ (m : Machine). IsBefore m.phase) (sym l.1) (i.before b)) (λ t. absurd (some_none (sym (ap (λ (v : View Handed Knower). v.ticket) is) ∙ t))) refl refl

pub turns_to : (m : Machine) (aim : Aim) (node : ℕ) → m.phase ≡ Look aim node → IsBefore (turned_by m None).phase
turns_to m aim node e = subst (λ (ph : Phase). IsBefore (turned_in m None ph).phase) (sym e) tt

pub served_pass : (p : Standing) (c : Sitting Handed Knower) (lock : ℕ) → IsPass p → want_of p.client ≡ want.Look lock → c.view ≡ turned p.chair.view None → IsPass (standing p.table (turned_by p.client None) p.begun p.view c)
served_pass p c lock i wants is =
    let C : ℕ = compute_of p.client.setting p.client.seat in
    let l = look_stands p.client 0 lock None p.client.phase wants in
    let h = waits p lock i wants in
    let a = looking p.client lock wants in
    serve_pass p c (Turned (held p.chair.view).cell (held p.chair.view).number None) a.aim a.node i a.phase_is (ap (λ (v : View Handed Knower). v.calls) is) refl (λ b. refl)
    (subst (SitsWhere p.client.setting C c.view) (sym l.2) (subst (λ (v : View Handed Knower). SitsWhere p.client.setting C v (Served lock false)) (sym is) ((refl, h.1, refl), (λ q. absurd (false_true q)))))
    (λ b. turns_to p.client a.aim a.node a.phase_is) (λ t. absurd (some_none (sym (ap (λ (v : View Handed Knower). v.ticket) is) ∙ t))) refl refl

pub drop-all : (xs : List (ChairCall Handed)) (x : ChairCall Handed) → drop (length xs + 1) (xs ++ x ∷ []) ≡ []
drop-all xs x = drop_of_length-le (xs ++ x ∷ []) (omega (arith, length-append xs (x ∷ [])))

pub drop-at : (xs : List (ChairCall Handed)) (x : ChairCall Handed) → drop (length xs) (xs ++ x ∷ []) ≡ x ∷ []
drop-at [] x = refl
drop-at (y ∷ xs) x = drop-at xs x

-- a right is taken up
pub take_pass : (p : Standing) (c : Sitting Handed Knower) (lock : ℕ) (r : Handed) → IsPass p → want_of p.client ≡ want.Look lock → c.view ≡ turned p.chair.view (Some r) → depth_of r.view.right ≡ Some r.depth
    → IsPass (standing p.table (turned_by p.client (Some r.depth)) false (taken_view (pass_actor p) (tale_of p (length p.chair.view.calls + 1)) p.view r.view) c)
take_pass p c lock r i wants is depth =
    let C : ℕ = compute_of p.client.setting p.client.seat in
    let k : ℕ = view_seat p.view in
    let l = look_stands p.client 0 lock (Some r.depth) p.client.phase wants in
    let h = waits p lock i wants in
    let m : Machine = turned_by p.client (Some r.depth) in
    let old : List (ChairCall Handed) = p.chair.view.calls in
    let x : ChairCall Handed = Turned (held p.chair.view).cell (held p.chair.view).number (Some r) in
    let calls_are : c.view.calls ≡ old ++ x ∷ [] = ap (λ (v : View Handed Knower). v.calls) is in
    let none : drop (length old + 1) c.view.calls ≡ [] = ap (drop (length old + 1)) calls_are ∙ drop-all old x in
    let s = longer p.view.seen r.view.seen in
    let w : PassView = taken_view (pass_actor p) (tale_of p (length old + 1)) p.view r.view in
    let g : given c.view ≡ given p.chair.view + 0 = ap (total gave) calls_are ∙ total_snoc gave old x in
    let t : taken c.view ≡ taken p.chair.view + 1 = ap (total took) calls_are ∙ total_snoc took old x in
    let pg = i.gave in
    let pt = i.took in
    moved_pass p w c m (actor_turned k (pass_actor p) s (depth_of r.view.right)) i refl
    (becomes_client k (pass_actor p) s [] (turned_by (pass_actor p).client (depth_of r.view.right)) ∙ (λ z. turned_by (sym i.tied z) (depth z)))
    (ap untold_of none) (subst EndsLeft (sym none) tt) (omega (arith, ap length calls_are, length-append old (x ∷ []))) i.no_right i.alone (let a = looking p.client lock wants in turn_lives p.client.setting k (life_of p) (pass_actor p) s (depth_of r.view.right) a.aim a.node (ap (λ (x : Machine). x.phase) (sym i.tied) ∙ a.phase_is) i.lived)
    (turn_calls k (life_of p) (pass_actor p) s (depth_of r.view.right) i.calls (subst (λ (x : Machine). is_resting x ≡ false) i.tied (busy_at p.client p.client.phase (λ d. let q = sym wants ∙ d in absurd (cc)))))
    (let a = looking p.client lock wants in subst (λ (o : Option ℕ). StaysAnswered p.client.setting k s (actor_turned k (pass_actor p) s o)) (sym depth) (stays_taken p.client.setting k p.view.seen (drop (length p.view.seen) r.view.seen) (pass_actor p) a.aim a.node r.depth (answered_now p i) (ap (λ (x : Machine). x.phase) (sym i.tied) ∙ a.phase_is)))
    (turned_keeps p.client (Some r.depth)) (subst (SitsWhere p.client.setting C c.view) (sym l.2) (subst (λ (v : View Handed Knower). SitsWhere p.client.setting C v (Served lock false)) (sym is) ((refl, h.1, refl), (λ q. absurd (false_true q)))))
    (omega (arith, pg, g)) (omega (arith, pt, t))

-- ---- a count

pub has_turn : (p : Standing) (lock : ℕ) → IsPass p → want_of p.client ≡ want.Waiting lock → SitsWhere p.client.setting (compute_of p.client.setting p.client.seat) p.chair.view (Served lock false)
has_turn p lock i wants = subst (SitsWhere p.client.setting (compute_of p.client.setting p.client.seat) p.chair.view) (count_stands p.client 0 lock p.client.phase wants).0 i.sits

counts_sit : (p : ConfigParts) (C lock count : ℕ) (v : View Handed Knower) (k : Stand) → MayHand lock count k → HasTicketFor (cell_for p lock C) true v → SitsWhere p C (counted v count) k
counts_sit p h1 lock count v k is h = search (rules, false_true)

pub count_pass : (p : Standing) (c : Sitting Handed Knower) (lock count : ℕ) → IsPass p → want_of p.client ≡ want.Waiting lock → c.view ≡ counted p.chair.view count → IsPass (standing p.table (fed_by p.client count) p.begun p.view c)
count_pass p c lock count i wants is =
    let C : ℕ = compute_of p.client.setting p.client.seat in
    let l = count_stands p.client count lock p.client.phase wants in
    let h = has_turn p lock i wants in
    let none : p.begun ≡ true → ⊥ = λ b. false_true (sym (count_not_begun p lock i wants) ∙ b) in
    answer_pass p c (Counted (held p.chair.view).cell (held p.chair.view).number count) count i (subst IsLocal (sym wants) tt) (ap (λ (v : View Handed Knower). v.calls) is) refl (λ b. refl)
    (subst (λ (v : View Handed Knower). SitsWhere p.client.setting C v (stand_of (fed_by p.client count))) (sym is) (counts_sit p.client.setting C lock count p.chair.view (stand_of (fed_by p.client count)) l.1 h.0))
    (λ b. absurd (none b)) (λ t. absurd (some_none (sym (ap (λ (v : View Handed Knower). v.ticket) is) ∙ t))) refl refl

-- ---- the queue is left

pub has_left : (p : Standing) (lock : ℕ) (carry : Option ℕ) → IsPass p → want_of p.client ≡ want.Leave lock carry → SitsWhere p.client.setting (compute_of p.client.setting p.client.seat) p.chair.view (Served lock (is_some carry))
has_left p lock carry i wants = subst (SitsWhere p.client.setting (compute_of p.client.setting p.client.seat) p.chair.view) (leave_stands p.client 0 lock carry p.client.phase wants).0 i.sits

pub left_pass : (p : Standing) (c : Sitting Handed Knower) (lock : ℕ) → IsPass p → want_of p.client ≡ want.Leave lock None → c.view ≡ gone p.chair.view None → IsPass (standing p.table (fed_by p.client 0) p.begun p.view c)
left_pass p c lock i wants is =
    let C : ℕ = compute_of p.client.setting p.client.seat in
    let l = leave_stands p.client 0 lock None p.client.phase wants in
    let none : p.begun ≡ true → ⊥ = λ b. false_true (sym (leave_not_begun p lock None i wants) ∙ b) in
    answer_pass p c (Left (held p.chair.view).cell (held p.chair.view).number None) 0 i (subst IsLocal (sym wants) tt) (ap (λ (v : View Handed Knower). v.calls) is) refl (λ b. absurd (none b))
    (subst (SitsWhere p.client.setting C c.view) (sym l.1) (ap (λ (v : View Handed Knower). v.ticket) is))
    (λ b. absurd (none b)) (λ t. refl) refl refl

pub hand_pass : (p : Standing) (c : Sitting Handed Knower) (lock depth : ℕ) (r : Handed) → IsPass p → want_of p.client ≡ want.Leave lock (Some depth) → c.view ≡ gone p.chair.view (Some r)
    → IsPass (standing p.table (fed_by p.client 0) p.begun (parted_view (pass_actor p) (tale_of p (length p.chair.view.calls)) p.view) c)
hand_pass p c lock depth r i wants is =
    let C : ℕ = compute_of p.client.setting p.client.seat in
    let k : ℕ = view_seat p.view in
    let l = leave_stands p.client 0 lock (Some depth) p.client.phase wants in
    let m : Machine = fed_by p.client 0 in
    let old : List (ChairCall Handed) = p.chair.view.calls in
    let x : ChairCall Handed = Left (held p.chair.view).cell (held p.chair.view).number (Some r) in
    let calls_are : c.view.calls ≡ old ++ x ∷ [] = ap (λ (v : View Handed Knower). v.calls) is in
    let rest : drop (length old) c.view.calls ≡ x ∷ [] = ap (drop (length old)) calls_are ∙ drop-at old x in
    let w : PassView = parted_view (pass_actor p) (tale_of p (length old)) p.view in
    let g : given c.view ≡ given p.chair.view + 1 = ap (total gave) calls_are ∙ total_snoc gave old x in
    let t : taken c.view ≡ taken p.chair.view + 0 = ap (total took) calls_are ∙ total_snoc took old x in
    let pg = i.gave in
    let pt = i.took in
    subst (λ (b : Bool). IsPass (standing p.table m b w c)) (sym (leave_not_begun p lock (Some depth) i wants))
    (moved_pass p w c m (actor_stepped k (pass_actor p) p.view.seen 0) i refl
    (becomes_client k (pass_actor p) p.view.seen (makes (pass_actor p).client) (fed_by (pass_actor p).client 0) ∙ ap (λ (y : Machine). fed_by y 0) (sym i.tied))
    (ap untold_of rest) (subst EndsLeft (sym rest) refl) (omega (arith, ap length calls_are, length-append old (x ∷ []))) i.no_right i.alone (word_lives p.client.setting k (life_of p) (pass_actor p) p.view.seen 0 (subst (λ (x : Machine). is_resting x ≡ false) i.tied (busy_at p.client p.client.phase (λ d. let q = sym wants ∙ d in absurd (cc)))) i.lived)
    (word_calls k (life_of p) (pass_actor p) p.view.seen 0 i.calls (subst (λ (x : Machine). is_resting x ≡ false) i.tied (busy_at p.client p.client.phase (λ d. let q = sym wants ∙ d in absurd (cc)))))
    (let a = leaving p.client lock (Some depth) wants in stays_handed p.client.setting k p.view.seen (pass_actor p) (stays_now p i) record { node = a.node; depth = depth; behind = a.after; phase = ap (λ (x : Machine). x.phase) (sym i.tied) ∙ a.phase_is })
    (fed_keeps p.client 0) (subst (SitsWhere p.client.setting C c.view) (sym l.1) (ap (λ (v : View Handed Knower). v.ticket) is)) (omega (arith, pg, g)) (omega (arith, pt, t)))
