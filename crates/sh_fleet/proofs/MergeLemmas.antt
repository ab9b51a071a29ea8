-- The finished calls of a run: those of the seats, merged in the sheet's order, are a lawful book.
use Rattle.std.proofs.Common.{rules, ◌≡◌, ◌≢◌, ◌⊎◌, ◌<◌, ◌≤◌, ◌+◌, ℕ, zero, suc, Bool, true, false, List, [], ◌∷◌, map, length, take, drop, Option, Some, None, refl, sym, ap, subst, ◌∙◌, ap₂, inl, inr, arith, eq-eqb, ne_eqb}
use Rattle.std.{specs.{Prelude.{All, AllPairs, Any, filter, if◌then◌else◌, ◌==◌, slice_get}, List.{sum_by, AllByRecursion}, FinMap.{empty, entries, len-empty, len-entries, len-insert, len-remove}, Ordering.{nat_cmp}, Cmp.{nat_cmp_total}}, proofs.{Math.Seq.{take-append_seam, take-length}, lemmas.{Bool.{cases_lt, eqb-true}, Option.{slice_get-get_or}, Simd.{map-map}, List.{length-map, map-id, nil_from_length, Elements.{All-cons, All-filter, All-head, All-tail}, Kept.{AllPairs-cons}, Sums.{sum_by-cons}}}}}
use mathlib.Core.Option as maybe
use lib.ListN.{get_elem?}
use Rattle.sh_logic.proofs.{Options.{some_is}, Pigeons.{at_most}, Lists.{all_weaker}}
use Rattle.sh_base.specs.{declared.config.ConfigParts.{ConfigParts}, Setting.{all_seats}}
use Rattle.sh_map.specs.{declared.{call.Call.{Call}, log.{Change.{Change}, Entry.{Entry}}, book.{Done.{Done}, Row.{Row}}}, Book.{made, IsClosed, IsLawful, IsOwn}, Map.{Map, row_pair, size}, Log.{changed, map_from, map_of}}
use Rattle.sh_map.specs.declared.log.Change.TheVariants as change
use Rattle.sh_sheet.specs.{declared.item.Item.{Item, TheVariants.{Ask, Mark, After, Turn}}, Sheet.{done_item, is_call, item_calls, item_seat, AreFew, IsLawfulItem}}
use Rattle.sh_tree.specs.Tree.{map_in, IsTree}
use Rattle.sh_core.specs.Actors.{Actor}
use Rattle.sh_core_says.specs.Books.{calls_by, numbered, IsBookOf}
use Rattle.sh_pool_rule.specs.{declared.view.Member.{Member}, Views.{member, view_seat}, declared.view.Card.{Card}, Rights.{lengths_of}}
use Rattle.sh_pool.specs.{Passes.{pass_actor, PoolTable, Standing}, Pools.{AreLaidFor, AreReady, PoolState}, Gathering.{member_of, seats_of, AreAllOf, AreAllPasses, HasGatheredAll, IsGatheredFrom, PassesHave}, Cards.{HasItsNotes, HeardFrom}}
use Rattle.sh_fleet.specs.{declared.{answers.Answers.{Answers}, work.{Place.{Place}, Work.{Work}}}, Served.{row_of, AreFinished, AreNumbered, HasItsRows, HasServed, MarksKept}, Sharing.{items_of, told_by, told_of, AreDone, ArePlaces, HasLearned, IsDone}, Boards.{AreHeard, IsCardFor}, Wants.{counted, heeds_from, heeds_of, is_after, no_tally, Heed, Tally}}
use Rattle.sh_fleet.proofs.{HeardLemmas.{none_more as passed_long}, KeptLemmas.{after_long, calls_ordered, same_drop, same_take, stops_kept, take_none, AreKept, IsKept, Short, Under}}

-- each seat's finished calls are those of its items, in their order
pub record AreCalls (items : List Item) (of : ℕ → List Done) : Type 0 where
  pub each : (k : ℕ) → map done_item (of k) ≡ filter is_call (items_of k items)

-- the seats' calls in the items' order, numbered from n on
pub record Merge (n : ℕ) (items : List Item) (of : ℕ → List Done) : Type 0 where
  pub dones : List Done
  pub calls : map done_item dones ≡ filter is_call items
  pub numbers : AreNumbered n dones
  pub own : (k : ℕ) → map (numbered 0) (calls_by k dones) ≡ map (numbered 0) (of k)

-- the calls of each seat, without the first one of this seat
abbrev behind_call : (seat : ℕ) → (ℕ → List Done) → (k : ℕ) → List Done
behind_call seat of k = if seat == k then drop 1 (of k) else of k

behind_at : (b : Bool) (seat : ℕ) (call : Call) (mine : List Item) (ds : List Done) → map done_item ds ≡ filter is_call (if b then Ask seat call ∷ mine else mine) → map done_item (if b then drop 1 ds else ds) ≡ filter is_call mine
behind_at b seat call mine ds h = search rules

first_of : (b : Bool) (seat : ℕ) (call : Call) (mine : List Item) (ds : List Done) → b ≡ true → map done_item ds ≡ filter is_call (if b then Ask seat call ∷ mine else mine) → (d : Done) × (done_item d ≡ Ask seat call) × (ds ≡ d ∷ drop 1 ds)
first_of true seat call mine [] is h = absurd (cc)
first_of true seat call mine (d ∷ ds) is h = (d, cc, refl)
first_of false seat call mine ds is h = absurd (cc)

passed : (b : Bool) (x : Item) (mine : List Item) → is_call x ≡ false → filter is_call (if b then x ∷ mine else mine) ≡ filter is_call mine
passed b x mine e = search rules

own_at : (b : Bool) (n : ℕ) (d : Done) (more ds : List Done) → (b ≡ true → ds ≡ d ∷ drop 1 ds) → map (numbered 0) more ≡ map (numbered 0) (if b then drop 1 ds else ds) → map (numbered 0) (if b then numbered n d ∷ more else more) ≡ map (numbered 0) ds
own_at b n d more ds first h = search rules

-- an item that isn't a call is passed over
merge_past : (n : ℕ) (x : Item) (items : List Item) (of : ℕ → List Done) → is_call x ≡ false → AreCalls (x ∷ items) of → (AreCalls items of → Merge n items of) → Merge n (x ∷ items) of
merge_past n x items of e have rest =
    let m = rest (record { each = λ k. have.each k ∙ passed (item_seat x == k) x (items_of k items) e }) in
    record { dones = m.dones; calls = m.calls ∙ sym (passed true x items e); numbers = m.numbers; own = m.own }

-- a call takes the next one of its seat's
merge_call : (n seat : ℕ) (call : Call) (items : List Item) (of : ℕ → List Done) (d : Done) → done_item d ≡ Ask seat call → of seat ≡ d ∷ drop 1 (of seat) → Merge (suc n) items (behind_call seat of) → Merge n (Ask seat call ∷ items) of
merge_call n seat call items of d is first m = record {
  dones = numbered n d ∷ m.dones;
  calls = ap₂ (λ x l. x ∷ l) is m.calls;
  numbers = (refl, m.numbers);
  own = λ k. subst (λ (s : ℕ). map (numbered 0) (if s == k then numbered n d ∷ calls_by k m.dones else calls_by k m.dones) ≡ map (numbered 0) (of k)) (sym (ap item_seat is))
      (own_at (seat == k) n d (calls_by k m.dones) (of k) (λ e. subst (λ (j : ℕ). of j ≡ d ∷ drop 1 (of j)) (eqb-true seat k e) first) (m.own k));
}

pub merge : (n : ℕ) (items : List Item) (of : ℕ → List Done) → AreCalls items of → Merge n items of
merge n [] of have = record { dones = []; calls = refl; numbers = tt; own = λ k. ap (map (numbered 0)) (sym (nil_from_length (of k) (omega (arith, sym (length-map (of k) done_item), ap length (have.each k))))) }
merge n (Ask seat call ∷ items) of have =
    let next = first_of (seat == seat) seat call (items_of seat items) (of seat) (eq-eqb seat seat refl) (have.each seat) in
    merge_call n seat call items of next.0 next.1 next.2 (merge (suc n) items (behind_call seat of) (record { each = λ k. behind_at (seat == k) seat call (items_of k items) (of k) (have.each k) }))
merge n (Mark seat number ∷ items) of have = merge_past n (Mark seat number) items of refl have (merge n items of)
merge n (After seat number ∷ items) of have = merge_past n (After seat number) items of refl have (merge n items of)
merge n (Turn seat count ∷ items) of have = merge_past n (Turn seat count) items of refl have (merge n items of)

-- they are told what each seat's calls were told
pub merged_told : (n : ℕ) (items : List Item) (of : ℕ → List Done) (m : Merge n items of) (k : ℕ) → map told_of (calls_by k m.dones) ≡ map told_of (of k)
merged_told n items of m k = sym (map-map told_of (numbered 0) (calls_by k m.dones)) ∙ (ap (map told_of) (m.own k) ∙ map-map told_of (numbered 0) (of k))

-- they are as many as the items' calls
calls_counted : (items : List Item) → length (filter is_call items) ≡ sum_by item_calls items
calls_counted [] = refl
calls_counted (x ∷ items) = let h = sum_by-cons item_calls x items in let more = calls_counted items in search (rules, arith, h, more)

pub calls_long : (items : List Item) (dones : List Done) → map done_item dones ≡ filter is_call items → length dones ≡ sum_by item_calls items
calls_long items dones h = omega (arith, sym (length-map dones done_item), ap length h, calls_counted items)

-- ---- the numbers

numbers_above : (n m : ℕ) (dones : List Done) → n < m → AreNumbered m dones → All (λ (d : Done). n < d.n) dones
numbers_above n m [] lt h = λ k d below. absurd (omega (arith, below))
numbers_above n m (d ∷ dones) lt h = All-cons (λ (x : Done). n < x.n) d dones (omega (arith, lt, h.0)) (numbers_above n (suc m) dones (omega (arith, lt)) h.1)

pub rising : (n : ℕ) (dones : List Done) → AreNumbered n dones → AllPairs (λ (d e : Done). d.n < e.n) dones
rising n [] h = λ i j d lt below. absurd (omega (arith, below))
rising n (d ∷ dones) h = AllPairs-cons (λ (x y : Done). x.n < y.n) d dones (numbers_above d.n (suc n) dones (omega (arith, h.0)) h.1) (rising (suc n) dones h.1)

-- ---- the book

item_below : (p : ConfigParts) (x : Item) → IsLawfulItem p x → item_seat x < all_seats p
item_below p x h = search rules

seats_below : (p : ConfigParts) (dones : List Done) → All (IsLawfulItem p) (map done_item dones) → AllByRecursion (λ (d : Done). d.seat < all_seats p) dones
seats_below p [] can = tt
seats_below p (d ∷ dones) can = (item_below p (done_item d) (All-head (IsLawfulItem p) (done_item d) (map done_item dones) can), seats_below p dones (All-tail (IsLawfulItem p) (done_item d) (map done_item dones) can))

-- the passes of all seats have just these calls
pub record HaveCalls (p : ConfigParts) (qs : List Standing) (of : ℕ → List Done) : Type 0 where
  pub each : (k : ℕ) (a : Actor) → PassesHave qs k a → a.dones ≡ of k
  pub all : (k : ℕ) → k < all_seats p → (a : Actor) × PassesHave qs k a

module _ (p : ConfigParts) (items : List Item) (of : ℕ → List Done) (qs : List Standing) (can : All (IsLawfulItem p) items) (has : HaveCalls p qs of) where
  pub merged_book : (n : ℕ) (m : Merge n items of) → IsBookOf (PassesHave qs) m.dones
  merged_book n m = record {
    seats = all_weaker (λ (d : Done). d.seat < all_seats p) (λ (d : Done). (a : Actor) × PassesHave qs d.seat a) m.dones (λ d lt. has.all d.seat lt) (seats_below p m.dones (subst (All (IsLawfulItem p)) (sym m.calls) (All-filter is_call (IsLawfulItem p) items can)));
    own = λ k a h. m.own k ∙ ap (map (numbered 0)) (sym (has.each k a h));
    numbers = rising n m.dones m.numbers;
  }

  pub merged_finished : (words : List ℕ) (g : IsGatheredFrom p qs words) (m : Merge 1 items of) → (IsLawful g.log m.dones → MarksKept items m.dones) → AreFinished p items qs words g m.dones
  merged_finished words g m marks =
      let book = merged_book 1 m in
      let both = g.rest.books m.dones book in
      record { calls = m.calls; numbers = m.numbers; book = book; lawful = both.0; closed = both.1; causes = g.causes m.dones book; marks = marks both.0 }

-- ---- the rows of the words' map

module _ (count : ℕ) (dones : List Done) (closed : (i : ℕ) → i < count → Any (IsOwn i) dones) where
  -- one more than the place of the call that owns the entry at i, where there is one
  abbrev owner : (i : ℕ) → (i < count) ⊎ (count ≤ i) → ℕ
  owner i (inl lt) = suc (closed i lt).0
  owner i (inr past) = 0

  record Owns (i n : ℕ) : Type 0 where
    k : ℕ
    d : Done
    is : n ≡ suc k
    within : k < length dones
    there : slice_get dones k ≡ Some d
    point : d.point ≡ i

  owns : (i : ℕ) (o : (i < count) ⊎ (count ≤ i)) → i < count → Owns i (owner i o)
  owns i (inl lt) below = let a = closed i lt in record { k = a.0; d = a.1; is = refl; within = a.2; there = slice_get-get_or dones a.0 a.1 a.2 ∙ ap (λ d. Some d) a.3; point = a.4.1 }
  owns i (inr past) below = absurd (omega (arith, past, below))

  -- a closed book's log has no more entries than there are calls
  closed_few : count ≤ length dones
  closed_few = at_most count (length dones) (λ i. owner i (cases_lt i count)) (λ i lt. let a = owns i (cases_lt i count) lt in (omega (arith, a.is), omega (arith, a.is, a.within))) (λ i j before below same.
      let a = owns i (cases_lt i count) (omega (arith, before, below)) in
      let b = owns j (cases_lt j count) below in
      let one : a.k ≡ b.k = omega (arith, a.is, b.is, same) in
      omega (arith, before, ap (λ (d : Done). d.point) (some_is (sym a.there ∙ (ap (slice_get dones) one ∙ b.there))), a.point, b.point))

changed_size : (m : Map) (c : Change) → size (changed m c) ≤ size m + 1
changed_size m (change.Put key value) = let h = len-insert nat_cmp_total m key value in search (rules, arith, h)
changed_size m (change.Del key) = let h = len-remove nat_cmp_total m key in search (rules, arith, h)

-- a map has no more keys than its log has entries
map_size : (log : List Entry) (m : Map) → size (map_from m log) ≤ size m + length log
map_size [] m = omega arith
map_size (e ∷ log) m = omega (arith, changed_size m e.change, map_size log (changed m e.change))

pub few_rows : (log : List Entry) (dones : List Done) (m : Map) (rows : List Row) → IsClosed log dones → m ≡ map_of log → length dones ≤ 1000000 → rows ≡ map row_of (entries m) → length rows ≤ 4294967296
few_rows log dones m rows closed is few rows_are =
    omega (arith, ap length rows_are, length-map (entries m) row_of, sym (len-entries m), ap size is, map_size log empty, len-empty nat_cmp (List ℕ), closed_few (length log) dones closed, few)

-- ---- the works of all seats

abbrev pub passes_of : List Work → List Standing
passes_of ws = map (λ (w : Work). w.pass) ws

abbrev pub answers_by : List Work → List Answers
answers_by ws = map (λ (w : Work). w.answers) ws

-- the finished calls of each seat's pass
abbrev pub calls_in : List Work → (seat : ℕ) → List Done
calls_in [] k = []
calls_in (w ∷ ws) zero = (pass_actor w.pass).dones
calls_in (w ∷ ws) (suc k) = calls_in ws k

calls_past : (ws : List Work) (k : ℕ) → length ws ≤ k → calls_in ws k ≡ []
calls_past [] k h = refl
calls_past (w ∷ ws) zero h = absurd (omega (arith, h))
calls_past (w ∷ ws) (suc k) h = calls_past ws k (omega (arith, h))

-- what each seat's pass had seen after each note that it has learnt
abbrev pub lengths_in : List Work → (seat : ℕ) → List ℕ
lengths_in [] k = []
lengths_in (w ∷ ws) zero = lengths_of w.pass.view.cards
lengths_in (w ∷ ws) (suc k) = lengths_in ws k

-- a seat that isn't one of the setting's has no items
items_past : (p : ConfigParts) (items : List Item) (k : ℕ) → All (IsLawfulItem p) items → all_seats p ≤ k → items_of k items ≡ []
items_past p [] k can past = refl
items_past p (x ∷ items) k can past =
    let differ : item_seat x ≢ k = λ e. absurd (omega (arith, e, item_below p x (All-head (IsLawfulItem p) x items can), past)) in
    rw (ne_eqb (item_seat x) k differ) (items_past p items k (All-tail (IsLawfulItem p) x items can) past)

all_of : (p : ConfigParts) (o : Option PoolTable) (new qs : List Standing) → AreLaidFor p o new → AreReady p o qs → length qs ≡ all_seats p → ((k : ℕ) → k < all_seats p → (i : ℕ) × (get_elem? (seats_of qs) i ≡ maybe.some k)) → AreAllOf o qs
all_of p None new qs is ready long seats = absurd is
all_of p (Some t) new qs is ready long seats = subst (λ (x : ConfigParts). AreReady x (Some t) qs → length qs ≡ all_seats x → ((k : ℕ) → k < all_seats x → (i : ℕ) × (get_elem? (seats_of qs) i ≡ maybe.some k)) → AreAllPasses t qs) is.0 (λ r l h. record { ready = r; long = l; seats = h }) ready long seats

module _ (p : ConfigParts) (laid : Option PoolTable) (items : List Item) where
  done_one : (seat : ℕ) (w : Work) → IsDone p laid items seat w → map done_item (pass_actor w.pass).dones ≡ filter is_call (items_of seat items)
  done_one seat w h =
      let mine = items_of seat items in
      let long : w.next ≡ length mine = omega (arith, h.all, sym (length-map w.places.items (λ (a : Place). slice_get items a.at)), ap length h.work.places, length-map mine (λ (x : Item). Some x)) in
      h.work.calls ∙ (ap (λ n. filter is_call (take n mine)) long ∙ ap (filter is_call) (take-length mine))

  -- the work of a seat
  record AtSeat (ws : List Work) (k seat : ℕ) : Type 0 where
    work : Work
    is : IsDone p laid items seat work
    calls : calls_in ws k ≡ (pass_actor work.pass).dones
    has : get_elem? (map member_of (passes_of ws)) k ≡ maybe.some (member_of work.pass)
    there : get_elem? (seats_of (passes_of ws)) k ≡ maybe.some (view_seat work.pass.view)

  at_seat : (s : ℕ) (ws : List Work) (k seat : ℕ) → AreDone p laid items s ws → s + k ≡ seat → k < length ws → AtSeat ws k seat
  at_seat s [] k seat h e lt = absurd (omega (arith, lt))
  at_seat s (w ∷ ws) zero seat h e lt = let same : s ≡ seat = omega (arith, e) in record { work = w; is = subst (λ (n : ℕ). IsDone p laid items n w) same h.0; calls = refl; has = refl; there = refl }
  at_seat s (w ∷ ws) (suc k) seat h e lt = let r = at_seat (suc s) ws k seat h.1 (omega (arith, e)) (omega (arith, lt)) in record { work = r.work; is = r.is; calls = r.calls; has = r.has; there = r.there }

  done_told : (s : ℕ) (ws : List Work) (k : ℕ) → AreDone p laid items s ws → told_by (answers_by ws) k ≡ map told_of (calls_in ws k)
  done_told s [] k h = refl
  done_told s (w ∷ ws) zero h = sym h.0.work.told
  done_told s (w ∷ ws) (suc k) h = done_told (suc s) ws k h.1

  done_counted : (s : ℕ) (ws : List Work) → AreDone p laid items s ws → All HasItsRows (answers_by ws)
  done_counted s [] h = λ k d lt. absurd (omega (arith, lt))
  done_counted s (w ∷ ws) h = All-cons HasItsRows w.answers (answers_by ws) h.0.work.counted (done_counted (suc s) ws h.1)

  done_ready : (s : ℕ) (ws : List Work) → AreDone p laid items s ws → AreReady p laid (passes_of ws)
  done_ready s [] h = tt
  done_ready s (w ∷ ws) h = (h.0.work.ready, done_ready (suc s) ws h.1)

  done_each : (s : ℕ) (ws : List Work) (k i : ℕ) (a : Actor) → AreDone p laid items s ws → get_elem? (map member_of (passes_of ws)) i ≡ maybe.some (member k a) → (k ≡ s + i) × (a.dones ≡ calls_in ws i)
  done_each s [] k i a h e = absurd (maybe.some-ne-none (member k a) (sym e))
  done_each s (w ∷ ws) k zero a h e =
      let is : member_of w.pass ≡ member k a = maybe.some-injective (member_of w.pass) (member k a) e in
      (omega (arith, ap (λ (m : Member). m.seat) is, h.0.work.seat_is), sym (ap (λ (m : Member). m.actor.dones) is))
  done_each s (w ∷ ws) k (suc i) a h e = let r = done_each (suc s) ws k i a h.1 e in (omega (arith, r.0), r.1)

  module _ (ws : List Work) (done : AreDone p laid items 0 ws) (long : length ws ≡ all_seats p) where
    one_seat : (k : ℕ) → k < all_seats p → AtSeat ws k k
    one_seat k lt = at_seat 0 ws k k done (omega arith) (omega (arith, lt, long))

    pub done_calls : All (IsLawfulItem p) items → AreCalls items (calls_in ws)
    done_calls can = record {
      each = λ k. elim (cases_lt k (all_seats p)) [
        | inl lt ↦ let at = one_seat k lt in ap (map done_item) at.calls ∙ done_one k at.work at.is
        | inr past ↦ ap (map done_item) (calls_past ws k (omega (arith, past, long))) ∙ ap (filter is_call) (sym (items_past p items k can past))
      ];
    }

    pub done_have : HaveCalls p (passes_of ws) (calls_in ws)
    done_have = record {
      each = λ k a h. let r = done_each 0 ws k h.0 a done h.1 in r.1 ∙ ap (calls_in ws) (omega (arith, r.0));
      all = λ k lt. let at = one_seat k lt in (pass_actor at.work.pass, (k, at.has ∙ ap (λ (j : ℕ). maybe.some (member j (pass_actor at.work.pass))) at.is.work.seat_is));
    }

    -- the passes are all of the pool that was laid
    pub done_passes : (new qs : List Standing) → AreLaidFor p laid new → qs ≡ passes_of ws → AreAllOf laid qs
    done_passes new qs is same = subst (AreAllOf laid) (sym same) (all_of p laid new (passes_of ws) is (done_ready 0 ws done) (length-map ws (λ (w : Work). w.pass) ∙ long) (λ k lt. let at = one_seat k lt in (k, at.there ∙ ap (λ (j : ℕ). maybe.some j) at.is.work.seat_is)))

-- ---- the notes that the seats have learnt

heeds_long : (seat : ℕ) (t : Tally) (items : List Item) → length (heeds_from seat t items) ≡ length (filter is_after (items_of seat items))
heeds_long seat t [] = refl
heeds_long seat t (Ask k call ∷ items) = heeds_long seat (counted t (Ask k call)) items ∙ passed_long is_after (Ask k call) (items_of seat items) (k == seat) refl
heeds_long seat t (Mark k n ∷ items) = heeds_long seat (counted t (Mark k n)) items ∙ passed_long is_after (Mark k n) (items_of seat items) (k == seat) refl
heeds_long seat t (After k n ∷ items) = after_long (k == seat) k n (record { want = t.marks n; behind = t.calls k }) (heeds_from seat (counted t (After k n)) items) (items_of seat items) (heeds_long seat (counted t (After k n)) items)
heeds_long seat t (Turn k n ∷ items) = heeds_long seat t items ∙ passed_long is_after (Turn k n) (items_of seat items) (k == seat) refl

-- of a card and the pass that made its note, wherever it stands among the passes
card_kept : (p : ConfigParts) (laid : Option PoolTable) (items : List Item) (c : Card) (s k seat : ℕ) (ws : List Work) → AreDone p laid items s ws → s + k ≡ seat → c.seat ≡ seat → HeardFrom (passes_of ws) c → Under c.seen (take (length c.dones) (calls_in ws k)) × Short c.seen (take (length c.learnt) (lengths_in ws k))
card_kept p laid items c s k seat [] h e own from = (take_none (λ (d : Done). d.point + made d.call d.reply ≤ c.seen) (length c.dones), take_none (λ (l : ℕ). l ≤ c.seen) (length c.learnt))
card_kept p laid items c s zero seat (w ∷ ws) h e own from =
    let heard = from.0 (omega (arith, h.0.work.seat_is, e, own)) in (
      subst (λ (ds : List Done). Under c.seen ds) (sym (ap (take (length c.dones)) heard.dones.1 ∙ take-append_seam c.dones heard.dones.0)) heard.holds.points,
      subst (λ (ls : List ℕ). Short c.seen ls) (sym (ap (take (length c.learnt)) heard.learnt.1 ∙ take-append_seam c.learnt heard.learnt.0)) heard.holds.lengths,
    )
card_kept p laid items c s (suc k) seat (w ∷ ws) h e own from = card_kept p laid items c (suc s) k seat ws h.1 (omega (arith, e)) own from.1

module _ (p : ConfigParts) (laid : Option PoolTable) (items : List Item) (all : List Work) (done : AreDone p laid items 0 all) (dones : List Done) (own : (k : ℕ) → map (numbered 0) (calls_by k dones) ≡ map (numbered 0) (calls_in all k)) where
  heed_kept : (seat : ℕ) (h : Heed) (c : Card) (mine : List Done) → map (numbered 0) mine ≡ map (numbered 0) (calls_by seat dones) → IsCardFor h.want c → AllByRecursion (λ (d : Done). c.seen ≤ d.first) (drop h.behind mine) → HeardFrom (passes_of all) c → IsKept (λ k. calls_by k dones) (lengths_in all) seat h c.seen
  heed_kept seat h c mine same for behind from =
      let none : 0 + h.want.seat ≡ h.want.seat = omega arith in
      let both = card_kept p laid items c 0 h.want.seat h.want.seat all done none for.seat from in
      record {
        within = record {
          calls = same_take (λ (d : Done). d.point + made d.call d.reply ≤ c.seen) (λ d x. x) (λ d x. x) h.want.calls (calls_in all h.want.seat) (calls_by h.want.seat dones) (sym (own h.want.seat)) (subst (λ (n : ℕ). Under c.seen (take n (calls_in all h.want.seat))) for.calls both.0);
          learnt = subst (λ (n : ℕ). Short c.seen (take n (lengths_in all h.want.seat))) for.learnt both.1;
        };
        behind = same_drop (λ (d : Done). c.seen ≤ d.first) (λ d x. x) (λ d x. x) h.behind mine (calls_by seat dones) same behind;
      }

  heeds_kept : (seat : ℕ) (hs : List Heed) (cs : List Card) (mine : List Done) → map (numbered 0) mine ≡ map (numbered 0) (calls_by seat dones) → length cs ≡ length hs → AreHeard hs cs mine → AllByRecursion (HeardFrom (passes_of all)) cs → AreKept (λ k. calls_by k dones) (lengths_in all) seat hs (lengths_of cs)
  heeds_kept seat [] [] mine same long h from = tt
  heeds_kept seat (x ∷ hs) [] mine same long h from = absurd (omega (arith, long))
  heeds_kept seat [] (c ∷ cs) mine same long h from = absurd h
  heeds_kept seat (x ∷ hs) (c ∷ cs) mine same long h from = (heed_kept seat x c mine same h.0 h.1 from.0, heeds_kept seat hs cs mine same (omega (arith, long)) h.2 from.1)

  seat_kept : (s k seat : ℕ) (ws : List Work) → AreDone p laid items s ws → s + k ≡ seat → k < length ws → AllByRecursion (HasItsNotes (passes_of all)) (passes_of ws) → map (numbered 0) (calls_in ws k) ≡ map (numbered 0) (calls_by seat dones) → AreKept (λ j. calls_by j dones) (lengths_in all) seat (heeds_of seat items) (lengths_in ws k)
  seat_kept s k seat [] h e lt notes same = absurd (omega (arith, lt))
  seat_kept s zero seat (w ∷ ws) h e lt notes same =
      let is : s ≡ seat = omega (arith, e) in
      let heard = subst (λ (n : ℕ). HasLearned items n w.next w.pass) is h.0.work.heard in
      let mine = items_of seat items in
      let placed = subst (λ (n : ℕ). ArePlaces items (items_of n items) w.places.items) is h.0.work.places in
      let long : w.next ≡ length mine = omega (arith, h.0.all, sym (length-map w.places.items (λ (a : Place). slice_get items a.at)), ap length placed, length-map mine (λ (x : Item). Some x)) in
      let count : length w.pass.view.cards ≡ length (heeds_of seat items) = heard.count ∙ (ap (λ n. length (filter is_after (take n mine))) long ∙ (ap (λ xs. length (filter is_after xs)) (take-length mine) ∙ sym (heeds_long seat no_tally items))) in
      heeds_kept seat (heeds_of seat items) w.pass.view.cards (pass_actor w.pass).dones same count heard.heard notes.0
  seat_kept s (suc k) seat (w ∷ ws) h e lt notes same = seat_kept (suc s) k seat ws h.1 (omega (arith, e)) (omega (arith, lt)) notes.1 same

lengths_past : (ws : List Work) (k : ℕ) → length ws ≤ k → lengths_in ws k ≡ []
lengths_past [] k h = refl
lengths_past (w ∷ ws) zero h = absurd (omega (arith, h))
lengths_past (w ∷ ws) (suc k) h = lengths_past ws k (omega (arith, h))

done_kept : (p : ConfigParts) (laid : Option PoolTable) (items : List Item) (ws : List Work) → All (IsLawfulItem p) items → AreDone p laid items 0 ws → length ws ≡ all_seats p → (k : ℕ) (dones : List Done) → ((j : ℕ) → map (numbered 0) (calls_by j dones) ≡ map (numbered 0) (calls_in ws j)) → AllByRecursion (HasItsNotes (passes_of ws)) (passes_of ws)
    → AreKept (λ j. calls_by j dones) (lengths_in ws) k (heeds_of k items) (lengths_in ws k)
done_kept p laid items ws can done long k dones own notes = elim (cases_lt k (all_seats p)) [
  | inl lt ↦ let none : 0 + k ≡ k = omega arith in seat_kept p laid items ws done dones own 0 k k ws done none (omega (arith, lt, long)) notes (sym (own k))
  | inr past ↦
      let no_heeds : heeds_of k items ≡ [] = nil_from_length (heeds_of k items) (omega (arith, heeds_long k no_tally items, ap (λ xs. length (filter is_after xs)) (items_past p items k can past))) in
      subst (λ (hs : List Heed). AreKept (λ j. calls_by j dones) (lengths_in ws) k hs (lengths_in ws k)) (sym no_heeds) (subst (λ (ls : List ℕ). AreKept (λ j. calls_by j dones) (lengths_in ws) k [] ls) (sym (lengths_past ws k (omega (arith, past, long)))) tt)
]

-- ---- the sheet was served

gathered_at : (p : ConfigParts) (o : Option PoolTable) (new qs : List Standing) (s : PoolState) → AreLaidFor p o new → HasGatheredAll o qs s → (s.laid ≡ None) × IsGatheredFrom p qs s.words
gathered_at p None new qs s is h = absurd is
gathered_at p (Some t) new qs s is h = (h.0, subst (λ (x : ConfigParts). IsGatheredFrom x qs s.words) is.0 h.1)

-- the works of all seats are done, and the passes are gathered
module _ (p : ConfigParts) (laid : Option PoolTable) (items : List Item) (ws : List Work) (can : All (IsLawfulItem p) items) (few : AreFew p items) (done : AreDone p laid items 0 ws) (long : length ws ≡ all_seats p) (s : PoolState) where
  served_from : (g : (s.laid ≡ None) × IsGatheredFrom p (passes_of ws) s.words) (rows : List Row) → ((levels : List (List ℕ)) → IsTree p s.words levels → map row_pair rows ≡ entries (map_in p s.words levels)) → HasServed p items s (answers_by ws) rows
  served_from g rows holds =
      let m = merge 1 items (calls_in ws) (done_calls p laid items ws done long can) in
      let kept = λ (lawful : IsLawful g.1.log m.dones). stops_kept (λ k. calls_by k m.dones) (lengths_in ws) (calls_ordered m.dones lawful.order) items (λ k. done_kept p laid items ws can done long k m.dones (λ j. m.own j) g.1.notes) in
      let finished = merged_finished p items (calls_in ws) (passes_of ws) can (done_have p laid items ws done long) s.words g.1 m kept in
      let calls : length m.dones ≤ 1000000 = omega (arith, calls_long items m.dones m.calls, few.calls) in
      let levels = g.1.rest.levels in
      let rows_are = sym (map-map row_of row_pair rows ∙ map-id rows) ∙ ap (map row_of) (holds levels g.1.rest.tree) in
      record {
        passes = passes_of ws;
        closed = g.0;
        gathered = g.1;
        dones = m.dones;
        finished = finished;
        seats = length-map ws (λ (w : Work). w.answers) ∙ long;
        told = λ k. done_told p laid items 0 ws k done ∙ sym (merged_told 1 items (calls_in ws) m k);
        counted = done_counted p laid items 0 ws done;
        rows_are = rows_are;
        few_rows = few_rows g.1.log m.dones (map_in p s.words levels) rows finished.closed g.1.rest.map calls rows_are;
        few_calls = calls;
      }

  pub served : (new qs : List Standing) (answers : List Answers) (words : List ℕ) (rows : List Row) → AreLaidFor p laid new → qs ≡ passes_of ws → answers ≡ answers_by ws → HasGatheredAll laid qs s → words ≡ s.words → ((levels : List (List ℕ)) → IsTree p words levels → map row_pair rows ≡ entries (map_in p words levels)) → HasServed p items s answers rows
  served new qs answers words rows is passes_are answers_are g words_are holds =
      subst (λ (xs : List Answers). HasServed p items s xs rows) (sym answers_are) (served_from (gathered_at p laid new (passes_of ws) s is (subst (λ (xs : List Standing). HasGatheredAll laid xs s) passes_are g)) rows
      (subst (λ (xs : List ℕ). (levels : List (List ℕ)) → IsTree p xs levels → map row_pair rows ≡ entries (map_in p xs levels)) words_are holds))
