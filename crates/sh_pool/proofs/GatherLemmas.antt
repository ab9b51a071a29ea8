-- Passes that are taken in, from the last to the first; and what the rule says where all are.
use Rattle.std.proofs.Common.{rules, ◌≡◌, ◌≢◌, ℕ, zero, suc, ◌==◌, ◌+◌, ◌<◌, ◌≤◌, Bool, true, Option, None, Some, List, [], ◌∷◌, ◌++◌, length, map, drop, take, refl, ap, sym, ◌∙◌, subst, ⊎_elim, inl, inr, arith, length-append, eq-eqb, ne_eqb, append_assoc}
use Rattle.std.{specs.{Prelude.{if◌then◌else◌, Any}, List.{AllByRecursion}}, proofs.{Math.Nat.{div-lt_iff_lt-mul}, num.Products.{mul-le}, lemmas.{List.{length-drop}, Bool.{cases_eq, cases_lt}}}}
use mathlib.Core.Option.{some, some-injective, some-ne-none}
use lib.ListN.{get_elem?}
use Rattle.atomic_table.specs.Seated.{TableId}
use Rattle.sh_base.specs.{declared.config.ConfigParts.{ConfigParts}, Layout.{compute_of}, Setting.{all_seats, IsSetting}}
use Rattle.sh_map.specs.declared.log.Entry.{Entry}
use Rattle.sh_client.specs.{Machine.{Machine}, Rests.{is_resting}}
use Rattle.sh_core.specs.{Actors.{Actor}, Core.{AreSame}, Keeps.{skips_counted}}
use Rattle.sh_core_says.specs.Rest.{sum_below}
use Rattle.sh_logic.proofs.Lists.{all_weaker}
use Rattle.sh_local.{specs.{Calls.{given, taken, total}, Chairs.{AllFree, AreAll, CellTable, Sitting}}, proofs.Sums.{total_snoc}}
use Rattle.sh_pool_rule.specs.{declared.view.{PassView.{PassView}, Card.{Card}, Member.{Member}, Past.{Past}}, Notes.{IsCard, IsFront, IsPast, KnowsNotes}, Rights.{joined_view, lengths_of, past_of}, Rule.{KeepsPool}, Views.{member, view_seat, Begins, In}}
use Rattle.sh_pool_rule.proofs.{Changed.{begins_all}, JoinLemmas.{ends_so, in_back, in_either, in_front, EndsSo}, NoteLemmas.{front_more}}
use Rattle.sh_pool.proofs.Steps.{calls_ended, no_ticket}
use Rattle.sh_pool.specs.{Handed.{Handed}, Passes.{pass_actor, AreCellsOf, IsChairOf, IsPass, PoolTable, Standing}, Pools.{AreReady}, Cards.{HasItsNotes, HeardFrom}, Gathering.{chairs_in, gathered_view, member_of, seats_of, told_of, AreAllPasses, AreTakenIn, HasItsCalls, IsGatheredFrom, PassesHave}, declared.right.Knower.{Knower}}

abbrev Chair : Type 0
Chair = Sitting Handed Knower

-- ---- whose actors the view has

has_on : (qs : List Standing) (m : Member) → In m (map member_of qs) → In m (gathered_view qs).members
has_on [] m h = h
has_on (q ∷ qs) m (zero, e) = in_back m (gathered_view qs).members (member_of q ∷ []) (zero, e)
has_on (q ∷ qs) m (suc i, e) = in_front m (gathered_view qs).members (member_of q ∷ []) (has_on qs m (i, e))

has_back : (qs : List Standing) (m : Member) → In m (gathered_view qs).members → In m (map member_of qs)
has_back [] m h = h
has_back (q ∷ qs) m h = ⊎_elim (λ (t : In m (gathered_view qs).members). let r = has_back qs m t in (suc r.0, r.1)) (λ (t : In m (member_of q ∷ [])). here t) (in_either m (gathered_view qs).members (member_of q ∷ []) h)
  where
    here : In m (member_of q ∷ []) → In m (map member_of (q ∷ qs))
    here (zero, e) = (zero, e)
    here (suc i, e) = absurd (some-ne-none m (sym e))

has_seat : (qs : List Standing) (k i : ℕ) → get_elem? (seats_of qs) i ≡ some k → (a : Actor) × PassesHave qs k a
has_seat [] k i e = absurd (some-ne-none k (sym e))
has_seat (q ∷ qs) k zero e = (pass_actor q, (0, ap (λ (j : ℕ). some (member j (pass_actor q))) (some-injective (view_seat q.view) k e)))
has_seat (q ∷ qs) k (suc i) e = let r = has_seat qs k i e in (r.0, (suc r.1.0, r.1.1))

-- ---- sums over the passes

gave_is : (qs : List Standing) → AllByRecursion IsPass qs → (gathered_view qs).gave ≡ total (λ (c : Chair). given c.view) (chairs_in qs)
gave_is [] h = refl
gave_is (q ∷ qs) h = let r = gave_is qs h.1 in let e = h.0.gave in let t = total_snoc (λ (c : Chair). given c.view) (chairs_in qs) q.chair in omega (arith, r, e, t)

took_is : (qs : List Standing) → AllByRecursion IsPass qs → (gathered_view qs).took ≡ total (λ (c : Chair). taken c.view) (chairs_in qs)
took_is [] h = refl
took_is (q ∷ qs) h = let r = took_is qs h.1 in let e = h.0.took in let t = total_snoc (λ (c : Chair). taken c.view) (chairs_in qs) q.chair in omega (arith, r, e, t)

-- x where the two seats are one
abbrev if_same : (seat k x : ℕ) → ℕ
if_same seat k x = if seat == k then x else 0

-- the part of the sum that a seat has
abbrev part : (Standing → ℕ) → List Standing → ℕ → ℕ
part f [] k = 0
part f (q ∷ qs) k = if_same (view_seat q.view) k (f q) + part f qs k

same_is : (k x : ℕ) → if_same k k x ≡ x
same_is k x = ap (λ (b : Bool). if b then x else 0) (eq-eqb k k refl)

differ_is : (seat k x : ℕ) → seat ≢ k → if_same seat k x ≡ 0
differ_is seat k x ne = ap (λ (b : Bool). if b then x else 0) (ne_eqb seat k ne)

sum_none : (n : ℕ) → sum_below n (λ k. 0) ≡ 0
sum_none zero = refl
sum_none (suc n) = let r = sum_none n in omega (arith, r)

-- one term of the sum is greater by x
sum_else : (n seat x : ℕ) (f : ℕ → ℕ) → n ≤ seat → sum_below n (λ k. if_same seat k x + f k) ≡ sum_below n f
sum_else zero seat x f le = refl
sum_else (suc n) seat x f le = let r = sum_else n seat x f (omega (arith, le)) in let e = differ_is seat n x (λ q. absurd (omega (arith, le, q))) in omega (arith, r, e)

sum_term : (n seat x : ℕ) (f : ℕ → ℕ) → seat < n → sum_below n (λ k. if_same seat k x + f k) ≡ x + sum_below n f
sum_term zero seat x f lt = absurd (omega (arith, lt))
sum_term (suc n) seat x f lt = elim (cases_eq seat n) [
  | inl is ↦ let r = sum_else n seat x f (omega (arith, is)) in let e : if_same seat n x ≡ x = subst (λ (m : ℕ). if_same seat m x ≡ x) is (same_is seat x) in omega (arith, r, e)
  | inr ne ↦ let r = sum_term n seat x f (omega (arith, lt, ne)) in let e = differ_is seat n x ne in omega (arith, r, e)
]

parts_sum : (n : ℕ) (f : Standing → ℕ) (qs : List Standing) → AllByRecursion (λ (q : Standing). view_seat q.view < n) qs → sum_below n (part f qs) ≡ total f qs
parts_sum n f [] h = sum_none n
parts_sum n f (q ∷ qs) h = let e = sum_term n (view_seat q.view) (f q) (part f qs) h.0 in let r = parts_sum n f qs h.1 in omega (arith, e, r)

-- ---- each seat's pass stands there once

abbrev count : List Standing → ℕ → ℕ
count = part (λ q. 1)

sum_least : (n : ℕ) (g : ℕ → ℕ) → ((k : ℕ) → k < n → 1 ≤ g k) → n ≤ sum_below n g
sum_least zero g h = omega arith
sum_least (suc n) g h = let r = sum_least n g (λ k lt. h k (omega (arith, lt))) in let e = h n (omega arith) in omega (arith, r, e)

one_each : (n : ℕ) (g : ℕ → ℕ) → ((k : ℕ) → k < n → 1 ≤ g k) → sum_below n g ≡ n → (k : ℕ) → k < n → g k ≡ 1
one_each zero g h e k lt = absurd (omega (arith, lt))
one_each (suc n) g h e k lt =
    let below : (j : ℕ) → j < n → 1 ≤ g j = λ j l. h j (omega (arith, l)) in
    let r = sum_least n g below in
    let t = h n (omega arith) in
    elim (cases_eq k n) [
      | inl is ↦ subst (λ (j : ℕ). g j ≡ 1) (sym is) (omega (arith, r, t, e))
      | inr ne ↦ one_each n g below (omega (arith, r, t, e)) k (omega (arith, lt, ne))
    ]

seat_at : (q : Standing) (k : ℕ) (a : Actor) → some (member_of q) ≡ some (member k a) → (view_seat q.view ≡ k) × (pass_actor q ≡ a)
seat_at q k a e = let m : member_of q ≡ member k a = some-injective (member_of q) (member k a) e in (ap (λ (x : Member). x.seat) m, ap (λ (x : Member). x.actor) m)

count_some : (qs : List Standing) (k : ℕ) (a : Actor) (i : ℕ) → get_elem? (map member_of qs) i ≡ some (member k a) → 1 ≤ count qs k
count_some [] k a i e = absurd (some-ne-none (member k a) (sym e))
count_some (q ∷ qs) k a zero e = let s : if_same (view_seat q.view) k 1 ≡ 1 = subst (λ (j : ℕ). if_same j k 1 ≡ 1) (sym (seat_at q k a e).0) (same_is k 1) in omega (arith, s)
count_some (q ∷ qs) k a (suc i) e = let r = count_some qs k a i e in omega (arith, r)

part_none : (f : Standing → ℕ) (qs : List Standing) (k : ℕ) → count qs k ≡ 0 → part f qs k ≡ 0
part_none f [] k e = refl
part_none f (q ∷ qs) k e = elim (cases_eq (view_seat q.view) k) [
  | inl is ↦ let s : if_same (view_seat q.view) k 1 ≡ 1 = subst (λ (j : ℕ). if_same j k 1 ≡ 1) (sym is) (same_is k 1) in absurd (omega (arith, e, s))
  | inr ne ↦ let s = differ_is (view_seat q.view) k (f q) ne in let r = part_none f qs k (omega (arith, e)) in omega (arith, s, r)
]

abbrev skips : Standing → ℕ
skips q = skips_counted q.client.registers.tally

part_alone : (qs : List Standing) (k : ℕ) (a : Actor) (i : ℕ) → AllByRecursion IsPass qs → count qs k ≡ 1 → get_elem? (map member_of qs) i ≡ some (member k a) → skips_counted a.client.registers.tally ≡ part skips qs k
part_alone [] k a i h one e = absurd (some-ne-none (member k a) (sym e))
part_alone (q ∷ qs) k a zero h one e =
    let at = seat_at q k a e in
    let s : if_same (view_seat q.view) k 1 ≡ 1 = subst (λ (j : ℕ). if_same j k 1 ≡ 1) (sym at.0) (same_is k 1) in
    let t : if_same (view_seat q.view) k (skips q) ≡ skips q = subst (λ (j : ℕ). if_same j k (skips q) ≡ skips q) (sym at.0) (same_is k (skips q)) in
    let r = part_none skips qs k (omega (arith, one, s)) in
    let is : skips q ≡ skips_counted a.client.registers.tally = ap (λ (m : Machine). skips_counted m.registers.tally) (h.0.tied ∙ ap (λ (x : Actor). x.client) at.1) in
    omega (arith, t, r, is)
part_alone (q ∷ qs) k a (suc i) h one e = elim (cases_eq (view_seat q.view) k) [
  | inl is ↦ let s : if_same (view_seat q.view) k 1 ≡ 1 = subst (λ (j : ℕ). if_same j k 1 ≡ 1) (sym is) (same_is k 1) in let r = count_some qs k a i e in absurd (omega (arith, one, s, r))
  | inr ne ↦ let s = differ_is (view_seat q.view) k (skips q) ne in let u = differ_is (view_seat q.view) k 1 ne in let r = part_alone qs k a i h.1 (omega (arith, one, u)) e in omega (arith, s, r)
]

ones : (qs : List Standing) → total (λ (q : Standing). 1) qs ≡ length qs
ones [] = refl
ones (q ∷ qs) = let r = ones qs in omega (arith, r)

-- ---- what was seen

all_parts : {X : Type 0} (P : X → Type 0) (xs ys : List X) → AllByRecursion P (xs ++ ys) → AllByRecursion P xs × AllByRecursion P ys
all_parts P [] ys h = (tt, h)
all_parts P (x ∷ xs) ys h = let r = all_parts P xs ys h.1 in ((h.0, r.0), r.1)

pasts_of : (Q : Past → Type 0) (qs : List Standing) → AllByRecursion Q (gathered_view qs).pasts → AllByRecursion (λ (q : Standing). Q (past_of (told_of q))) qs
pasts_of Q [] h = tt
pasts_of Q (q ∷ qs) h = let s = all_parts Q (gathered_view qs).pasts (past_of (told_of q) ∷ []) h in (s.1.0, pasts_of Q qs s.0)

-- ---- what was noted

heard_from : (noted : ℕ → Card) (v : PassView) (seen : List Entry) (c : Card) (rs : List Standing) → KnowsNotes noted v → IsCard noted seen c → ((m : Member) → In m (map member_of rs) → In m v.members) → AllByRecursion (λ (r : Standing). IsPast noted v.members (past_of (told_of r))) rs → HeardFrom rs c
heard_from noted v seen c [] h i has pasts = tt
heard_from noted v seen c (r ∷ rs) h i has pasts = (
  (λ e. let k : ℕ = view_seat r.view in let there : In (member k (pass_actor r)) v.members = has (member_of r) (0, refl) in record {
    dones = front_more c.dones (noted c.seat).dones (pass_actor r).dones i.dones (subst (λ (j : ℕ). IsFront (noted j).dones (pass_actor r).dones) e (h.dones k (pass_actor r) there));
    learnt = front_more c.learnt (noted c.seat).learnt (lengths_of r.view.cards) i.learnt (subst (λ (j : ℕ). IsFront (noted j).learnt (lengths_of r.view.cards)) e pasts.0.own);
    holds = i.holds;
  }),
  heard_from noted v seen c rs h i (λ m t. has m (suc t.0, t.1)) pasts.1,
)

notes_of : (noted : ℕ → Card) (qs : List Standing) → KnowsNotes noted (gathered_view qs) → AllByRecursion (HasItsNotes qs) qs
notes_of noted qs h =
    let v : PassView = gathered_view qs in
    let pasts = pasts_of (IsPast noted v.members) qs h.pasts in
    all_weaker (λ (q : Standing). IsPast noted v.members (past_of (told_of q))) (HasItsNotes qs) qs
    (λ q g. all_weaker (IsCard noted q.view.seen) (HeardFrom qs) q.view.cards (λ c i. heard_from noted v q.view.seen c qs h i (has_on qs) pasts) g.cards) pasts

longest_in : (log : List Entry) (q : Standing) (qs : List Standing) → AllByRecursion (λ (x : Standing). Begins x.view.seen log) (q ∷ qs) → length log ≤ length (gathered_view (q ∷ qs)).seen → Any (λ (x : Standing). x.view.seen ≡ log) (q ∷ qs)
longest_in log q [] h le = (0, q, omega arith, refl, begins_all q.view.seen log h.0 le)
longest_in log q (r ∷ rs) h le =
    let xs : List Entry = (gathered_view (r ∷ rs)).seen in
    let ys : List Entry = q.view.seen in
    let l = length-append xs (drop (length xs) ys) in
    let d = length-drop (length xs) ys in
    elim (cases_lt (length xs) (length ys)) [
      | inl lt ↦ (0, q, omega arith, refl, begins_all ys log h.0 (omega (arith, le, l, d, lt)))
      | inr ge ↦ let t = longest_in log r rs h.1 (omega (arith, le, l, d, ge)) in (suc t.0, t.1, (let lt = t.2 in omega (arith, lt)), t.3, t.4)
    ]

longest_of : (log : List Entry) (qs : List Standing) → AllByRecursion (λ (x : Standing). Begins x.view.seen log) qs → 1 ≤ length qs → length log ≤ length (gathered_view qs).seen → Any (λ (x : Standing). x.view.seen ≡ log) qs
longest_of log [] h some_ le = absurd (omega (arith, some_))
longest_of log (q ∷ qs) h some_ le = longest_in log q qs h le

-- ---- all passes

module _ (t : PoolTable) where
  abbrev P : ConfigParts
  P = t.setting

  seats_within : IsSetting P → (qs : List Standing) → AllByRecursion IsPass qs → AreReady P (Some t) qs → AllByRecursion (λ (q : Standing). view_seat q.view < all_seats P) qs
  unfolding compute_of
  seats_within ok [] h r = tt
  seats_within ok (q ∷ qs) h r = (
    subst (λ (k : ℕ). k < all_seats P) (sym h.0.seat_is) ((div-lt_iff_lt-mul (omega (arith, ok.ranged.seats))).0 (subst (λ (p : ConfigParts). compute_of p q.client.seat < p.computes) r.0.2 h.0.within)),
    seats_within ok qs h.1 r.1,
  )

  rests_at : (qs : List Standing) (k : ℕ) (a : Actor) → AllByRecursion IsPass qs → AreReady P (Some t) qs → PassesHave qs k a → is_resting a.client ≡ true
  rests_at [] k a h r (i, e) = absurd (some-ne-none (member k a) (sym e))
  rests_at (q ∷ qs) k a h r (zero, e) = subst (λ (m : Machine). is_resting m ≡ true) (h.0.tied ∙ ap (λ (x : Actor). x.client) (seat_at q k a e).1) r.0.1
  rests_at (q ∷ qs) k a h r (suc i, e) = rests_at qs k a h.1 r.1 (i, e)

  calls_of : (qs : List Standing) → AllByRecursion IsPass qs → AreReady P (Some t) qs → AllByRecursion HasItsCalls qs
  calls_of [] h r = tt
  calls_of (q ∷ qs) h r = (record { lived = h.0.lived; begun = calls_ended q h.0 r.0.1 }, calls_of qs h.1 r.1)

  -- ---- the chairs: they are those of the pool's cells, and none has a ticket

  free_snoc : (z : TableId) (ss : List Chair) (s : Chair) → AllFree z ss → s.table ≡ z → s.view.ticket ≡ None → AllFree z (ss ++ s ∷ [])
  free_snoc z [] s h table none = (table, none, tt)
  free_snoc z (x ∷ ss) s h table none = (h.0, h.1, free_snoc z ss s h.2 table none)

  chairs_long : (qs : List Standing) → length (chairs_in qs) ≡ length qs
  chairs_long [] = refl
  chairs_long (q ∷ qs) = let r = chairs_long qs in let l = length-append (chairs_in qs) (q.chair ∷ []) in omega (arith, r, l)

  chairs_free : (r : CellTable Knower) → t.cells ≡ Some r → (qs : List Standing) → AllByRecursion IsPass qs → AreReady P (Some t) qs → AllFree r.table (chairs_in qs)
  chairs_free r is [] h ready = tt
  chairs_free r is (q ∷ qs) h ready = free_snoc r.table (chairs_in qs) q.chair (chairs_free r is qs h.1 ready.1) (subst (λ (o : Option (CellTable Knower)). IsChairOf o q.chair) is ready.0.0.chair).0 (no_ticket q h.0 ready.0.1)

  pub chairs_all : (o : Option (CellTable Knower)) → t.cells ≡ o → AreCellsOf t.table P o → (qs : List Standing) → AreAllPasses t qs → AllByRecursion IsPass qs → AreAll o (chairs_in qs)
  chairs_all None is are qs all h = absurd are
  chairs_all (Some r) is are qs all h = (chairs_long qs ∙ all.long ∙ sym are.3, chairs_free r is qs h all.ready)

  -- what the rule says of the view that has taken them all in
  module _ (words : List ℕ) (qs : List Standing) (all : AreAllPasses t qs) (passes : AllByRecursion IsPass qs) where
    abbrev v : PassView
    v = gathered_view qs

    seat_has : (k : ℕ) → k < all_seats P → (a : Actor) × PassesHave qs k a
    seat_has k lt = let s = all.seats k lt in has_seat qs k s.0 s.1

    seats_in : (k : ℕ) → k < all_seats P → (a : Actor) × In (member k a) v.members
    seats_in k lt = let s = seat_has k lt in (s.0, has_on qs (member k s.0) s.1)

    they_have : AreSame (λ k a. In (member k a) v.members) (PassesHave qs)
    they_have = record { on = λ k a m. has_back qs (member k a) m; back = λ k a h. has_on qs (member k a) h }

    all_rest : (k : ℕ) (a : Actor) → PassesHave qs k a → is_resting a.client ≡ true
    all_rest k a h = rests_at qs k a passes all.ready h

    is_even : total (λ (c : Chair). given c.view) (chairs_in qs) ≡ total (λ (c : Chair). taken c.view) (chairs_in qs) → v.gave ≡ v.took
    is_even e = gave_is qs passes ∙ e ∙ sym (took_is qs passes)

    gathered_from : EndsSo P words v (PassesHave qs) → IsGatheredFrom P qs words
    gathered_from e =
        let rest = e.rest in
        let within = seats_within e.ok qs passes all.ready in
        let once : (k : ℕ) → k < all_seats P → count qs k ≡ 1 = one_each (all_seats P) (count qs) (λ k lt. let s = seat_has k lt in count_some qs k s.0 s.1.0 s.1.1) (parts_sum (all_seats P) (λ q. 1) qs within ∙ ones qs ∙ all.long) in
        let fronts = pasts_of (λ (g : Past). Begins g.seen v.seen) qs e.pasts in
        let some_ = mul-le 1 1 P.computes P.seats e.ok.ranged.computes.0 e.ok.ranged.seats.0 in
        record {
          log = v.seen;
          fronts = fronts;
          longest = longest_of v.seen qs fronts (let l = all.long in omega (arith, some_, l)) (omega arith);
          long = e.long;
          own_word = e.own_word;
          rest = rest;
          causes = e.causes;
          skipped = rest.unposted (part skips qs) (λ k lt. let s = seat_has k lt in inl (s.0, s.1, part_alone qs k s.0 s.1.0 passes (once k lt) s.1.1)) ∙ parts_sum (all_seats P) skips qs within;
          calls = calls_of qs passes all.ready;
          notes = notes_of e.noted qs e.notes;
        }

    pub closes : (views : List PassView) (r : KeepsPool P words views) (id : ℕ) (u : PassView) → get_elem? views id ≡ some u → u ≡ v → total (λ (c : Chair). given c.view) (chairs_in qs) ≡ total (λ (c : Chair). taken c.view) (chairs_in qs) → IsGatheredFrom P qs words
    closes views r id u at is e = gathered_from (ends_so P words views r id v (PassesHave qs) (at ∙ ap some is) seats_in (is_even e) they_have all_rest)

-- ---- a pass more is taken in

pub taken_more : (qs rest ps : List Standing) (q : Standing) (v w : PassView) (cs ds : List Chair) → AreTakenIn qs rest v cs → rest ≡ ps ++ q ∷ [] → w ≡ joined_view v (told_of q) → ds ≡ cs ++ q.chair ∷ [] → IsPass q → AreTakenIn qs ps w ds
taken_more qs rest ps q v w cs ds t is view chairs i = search (rules, append_assoc)

pub taken_all : (qs rest : List Standing) (v : PassView) (cs : List Chair) → AreTakenIn qs rest v cs → rest ≡ [] → (v ≡ gathered_view qs) × (cs ≡ chairs_in qs) × AllByRecursion IsPass qs
taken_all qs rest v cs t none = search rules

-- a word more of the table
take_more : (xs : List ℕ) (i x : ℕ) → get_elem? xs i ≡ some x → take i xs ++ x ∷ [] ≡ take (suc i) xs
take_more [] i x e = absurd (some-ne-none x (sym e))
take_more (y ∷ xs) zero x e = ap (λ (z : ℕ). z ∷ []) (sym (some-injective y x e))
take_more (y ∷ xs) (suc i) x e = ap (λ (zs : List ℕ). y ∷ zs) (take_more xs i x e)

pub read_more : (xs ws vs : List ℕ) (i x : ℕ) → ws ≡ take i xs → get_elem? xs i ≡ some x → vs ≡ ws ++ x ∷ [] → vs ≡ take (i + 1) xs
read_more xs ws vs i x is e more = more ∙ ap (λ (zs : List ℕ). zs ++ x ∷ []) is ∙ take_more xs i x e ∙ (let q : suc i ≡ i + 1 = omega arith in ap (λ (n : ℕ). take n xs) q)
