-- Afters that hold a seat back.
use Rattle.std.proofs.Common.{rules, ◌≡◌, ◌⊎◌, ◌<◌, ◌≤◌, ℕ, zero, suc, ◌+◌, Bool, true, false, List, [], ◌∷◌, length, get_or, Some, refl, sym, ap, subst, ◌∙◌, inl, inr, arith}
use Rattle.std.{specs.{Prelude.{◌==◌, ◌&&◌, ◌||◌, replicate, nat_le, if◌then◌else◌, not, slice_get}, List.{fold, list_all, list_any, range_with_len}}, proofs.lemmas.{Bool.{and_parts, cases_eq, cases_lt, Decides.{nat_tests}}, Option.{slice_get_within, slice_get-get_or, get_or_from_slice_get}, List.{FromFn.{get_or-range_with_len, length-range_with_len}, Folds.{list_all_at, list_any_at, list_any_none}}}}
use Rattle.sh_logic.proofs.{Options.{some_is}, Tests.{above_test, at_most_test, differ_test, same_test, true_and}}
use Rattle.sh_map.specs.declared.call.Call.{Call}
use Rattle.sh_sheet.specs.declared.item.Item.{Item, TheVariants.{Ask, Mark, After, Turn}}
use Rattle.sh_replay.{specs.{declared.marks.AfterRow.{AfterRow}, Clocks.{Agrees, AreRows}, Standing.{stop_of, IsStand}}, proofs.ClockLemmas.{at_all, greater_most}}
use Rattle.sh_sheet.specs.Marks.{at_place, behind, greater, is_held, is_passed, nothing, stops_at, stops_from, stops_of, Before, Stop}

-- what holds of a changed function at a place, by whether it is the changed one
at_cases : {A : Type 0} (f : ℕ → A) (p : ℕ) (a : A) (x : ℕ) (P : ℕ → A → Type 0) → P p a → P x (f x) → P x (at_place f p a x)
at_cases {A} f p a x P here else_ = elim (cases_eq x p) [
  | inl same ↦ subst (λ (y : ℕ). P y (at_place f p a y)) (sym same) (by_test (p == p) (same_test p p refl))
  | inr ne ↦ by_other (x == p) (differ_test x p ne)
] where
  by_test : (t : Bool) → t ≡ true → P p (if t then a else f p)
  by_test true e = here
  by_test false e = absurd (cc)

  by_other : (t : Bool) → t ≡ false → P x (if t then a else f x)
  by_other true e = absurd (cc)
  by_other false e = else_

-- ---- counts only rise along the items

abbrev pub own : Before → (seat : ℕ) → ℕ
own b seat = b.seats seat seat

at_rises : (f : ℕ → ℕ → ℕ) (p : ℕ) (g : ℕ → ℕ) → f p p ≤ g p → (x : ℕ) → f x x ≤ at_place f p g x x
at_rises f p g le x = at_cases f p g x (λ y h. f y y ≤ h y) le (omega arith)

greater_least : (a b : ℕ) → a ≤ greater a b
greater_least a b = search rules

pub rises : (b : Before) (item : Item) (seat : ℕ) → own b seat ≤ own (behind b item) seat
rises b item seat = search (rules, at_rises, greater_least)

pub at_own : {A : Type 0} (f : ℕ → A) (p : ℕ) (a : A) → at_place f p a p ≡ a
at_own f p a = search (rules, same_test)

-- a later after has at least as many calls of its seat before it
low : (b : Before) (items : List Item) (j : ℕ) (y : Stop) → slice_get (stops_from b items) j ≡ Some y → own b y.seat ≤ y.counts y.seat
low b [] j y here = absurd (cc)
low b (Ask t call ∷ items) j y here = omega (arith, rises b (Ask t call) y.seat, low (behind b (Ask t call)) items j y here)
low b (Mark t n ∷ items) j y here = omega (arith, low (behind b (Mark t n)) items j y here)
low b (Turn t count ∷ items) j y here = low b items j y here
low b (After t n ∷ items) zero y here = subst (λ (x : Stop). own b x.seat ≤ x.counts x.seat) (some_is here) (rises b (After t n) t)
low b (After t n ∷ items) (suc j) y here = omega (arith, rises b (After t n) y.seat, low (behind b (After t n)) items j y here)

rising : (b : Before) (items : List Item) (i j : ℕ) (x y : Stop) → slice_get (stops_from b items) i ≡ Some x → slice_get (stops_from b items) j ≡ Some y → i ≤ j → y.seat ≡ x.seat → x.counts x.seat ≤ y.counts x.seat
rising b [] i j x y here there le same = absurd (cc)
rising b (Ask t call ∷ items) i j x y here there le same = rising (behind b (Ask t call)) items i j x y here there le same
rising b (Mark t n ∷ items) i j x y here there le same = rising (behind b (Mark t n)) items i j x y here there le same
rising b (Turn t count ∷ items) i j x y here there le same = rising b items i j x y here there le same
rising b (After t n ∷ items) zero zero x y here there le same = subst (λ (z : Stop). x.counts x.seat ≤ z.counts x.seat) (some_is (sym here ∙ there)) (omega arith)
rising b (After t n ∷ items) zero (suc j) x y here there le same =
    let at = low (behind b (After t n)) items j y there in
    let is : own (behind b (After t n)) x.seat ≡ x.counts x.seat = subst (λ (z : Stop). own (behind b (After t n)) z.seat ≡ z.counts z.seat) (some_is here) refl in
    omega (arith, is, subst (λ s. own (behind b (After t n)) s ≤ y.counts s) same at)
rising b (After t n ∷ items) (suc i) zero x y here there le same = absurd (omega (arith, le))
rising b (After t n ∷ items) (suc i) (suc j) x y here there le same = rising (behind b (After t n)) items i j x y here there (omega (arith, le)) same

-- ---- rows and the afters that they are

row_at : (rows : List AfterRow) (stops : List Stop) (i : ℕ) (r : AfterRow) → AreRows rows stops → slice_get rows i ≡ Some r → (x : Stop) × (slice_get stops i ≡ Some x) × (r.seat ≡ x.seat) × Agrees r.clock x.counts
row_at [] stops i r h here = absurd (cc)
row_at (y ∷ rows) [] i r h here = absurd h
row_at (y ∷ rows) (x ∷ stops) zero r h here = subst (λ (z : AfterRow). (x' : Stop) × (Some x ≡ Some x') × (z.seat ≡ x'.seat) × Agrees z.clock x'.counts) (some_is here) (x, refl, h.0, h.1)
row_at (y ∷ rows) (x ∷ stops) (suc i) r h here = row_at rows stops i r h.2 here

all_alike : (ended f g : ℕ → ℕ) (a n : ℕ) → ((of : ℕ) → of < a + n → f of ≡ g of) → list_all (λ of. nat_le (f of) (ended of)) (range_with_len a n) ≡ list_all (λ of. nat_le (g of) (ended of)) (range_with_len a n)
all_alike ended f g a zero same = refl
all_alike ended f g a (suc n) same = ap (λ x. nat_le x (ended a) && list_all (λ of. nat_le (f of) (ended of)) (range_with_len (a + 1) n)) (same a (omega arith)) ∙ ap (λ t. nat_le (g a) (ended a) && t) (all_alike ended f g (a + 1) n (λ of below. same of (omega (arith, below))))

pub all_grow : (old new f : ℕ → ℕ) (xs : List ℕ) → ((of : ℕ) → old of ≤ new of) → list_all (λ of. nat_le (f of) (old of)) xs ≡ true → list_all (λ of. nat_le (f of) (new of)) xs ≡ true
all_grow old new f [] more h = refl
all_grow old new f (x ∷ xs) more h =
    let parts = and_parts (nat_le (f x) (old x)) (list_all (λ of. nat_le (f of) (old of)) xs) h in
    true_and (nat_le (f x) (new x)) _ (wider (f x) (old x) (new x) (more x) parts.0) (all_grow old new f xs more parts.1) where
      wider : (a b c : ℕ) → b ≤ c → nat_le a b ≡ true → nat_le a c ≡ true
      wider a b c le t = grind (arith, nat_tests)

module _ (ended : ℕ → ℕ) (seats : ℕ) (few : seats ≤ 64) (seat : ℕ) (below : seat < 64) where
  alike : (r : AfterRow) (x : Stop) → r.seat ≡ x.seat → Agrees r.clock x.counts → stops_at ended seats seat (stop_of r) ≡ stops_at ended seats seat x
  alike r x same agrees =
      ap (λ s. (s == seat) && nat_le (get_or r.clock.counts seat 0) (ended seat) && not (is_passed ended seats (stop_of r))) same
      ∙ ap (λ n. (x.seat == seat) && nat_le n (ended seat) && not (is_passed ended seats (stop_of r))) (agrees seat below)
      ∙ ap (λ t. (x.seat == seat) && nat_le (x.counts seat) (ended seat) && not t) (all_alike ended (λ of. get_or r.clock.counts of 0) x.counts 0 seats (λ of lt. agrees of (omega (arith, lt, few))))

  rows_any : (rows : List AfterRow) (stops : List Stop) → AreRows rows stops → list_any (λ (r : AfterRow). stops_at ended seats seat (stop_of r)) rows ≡ list_any (stops_at ended seats seat) stops
  rows_any [] stops h = ap (list_any (stops_at ended seats seat)) (sym h)
  rows_any (r ∷ rows) [] h = absurd h
  rows_any (r ∷ rows) (x ∷ stops) h = ap (λ t. t || list_any (λ (y : AfterRow). stops_at ended seats seat (stop_of y)) rows) (alike r x h.0 h.1) ∙ ap (λ t. stops_at ended seats seat x || t) (rows_any rows stops h.2)

falls : (a b c : Bool) → (a ≡ false) ⊎ ((b ≡ false) ⊎ (c ≡ true)) → (a && b && not c) ≡ false
falls a b c h = search rules

holds_all : (a b c : Bool) → a ≡ true → b ≡ true → c ≡ false → (a && b && not c) ≡ true
holds_all a b c x y z = search rules

module _ (items : List Item) (ended : ℕ → ℕ) (seats seat : ℕ) (few : seats ≤ 64) (below : seat < 64) (rows : List AfterRow) (are : AreRows rows (stops_of items)) (at : ℕ)
    (past : (i : ℕ) (r : AfterRow) → i < at → slice_get rows i ≡ Some r → r.seat ≡ seat → is_passed ended seats (stop_of r) ≡ true) where
  held_here : (r : AfterRow) → slice_get rows at ≡ Some r → r.seat ≡ seat → get_or r.clock.counts seat 0 ≤ ended seat → is_passed ended seats (stop_of r) ≡ false → is_held items ended seats seat ≡ true
  held_here r here same reached open_one =
      sym (rows_any ended seats few seat below rows (stops_of items) are)
      ∙ list_any_at (λ (y : AfterRow). stops_at ended seats seat (stop_of y)) rows at r (slice_get_within rows at r here)
      (ap (λ (y : AfterRow). stops_at ended seats seat (stop_of y)) (get_or_from_slice_get rows at r r here) ∙ holds_all (r.seat == seat) _ _ (same_test r.seat seat same) (at_most_test _ _ reached) open_one)

  free_of : ((r : AfterRow) → slice_get rows at ≡ Some r → (r.seat ≡ seat) × (ended seat < get_or r.clock.counts seat 0)) → (i : ℕ) (r : AfterRow) → slice_get rows i ≡ Some r → stops_at ended seats seat (stop_of r) ≡ false
  free_of free i r here = elim (cases_eq r.seat seat) [
    | inr ne ↦ falls (r.seat == seat) _ _ (inl (differ_test r.seat seat ne))
    | inl same ↦ elim (cases_lt i at) [
      | inl before ↦ falls (r.seat == seat) _ _ (inr (inr (past i r before here same)))
      | inr later ↦
          let inside : at < length rows = omega (arith, later, slice_get_within rows i r here) in
          let first = slice_get-get_or rows at r inside in
          let f = free (get_or rows at r) first in
          let x = row_at rows (stops_of items) at (get_or rows at r) are first in
          let y = row_at rows (stops_of items) i r are here in
          let same_seat : y.0.seat ≡ x.0.seat = sym y.2 ∙ same ∙ sym f.0 ∙ x.2 in
          let up = rising nothing items at i x.0 y.0 x.1 y.1 (omega (arith, later)) same_seat in
          let is : x.0.seat ≡ seat = sym x.2 ∙ f.0 in
          let up2 : x.0.counts seat ≤ y.0.counts seat = subst (λ s. x.0.counts s ≤ y.0.counts s) is up in
          falls (r.seat == seat) _ _ (inr (inl (above_test (get_or r.clock.counts seat 0) (ended seat) (omega (arith, f.1, x.3 seat below, y.3 seat below, up2)))))
    ]
  ]

  held_not : ((r : AfterRow) → slice_get rows at ≡ Some r → (r.seat ≡ seat) × (ended seat < get_or r.clock.counts seat 0)) → is_held items ended seats seat ≡ false
  held_not free =
      sym (rows_any ended seats few seat below rows (stops_of items) are)
      ∙ list_any_none (λ (y : AfterRow). stops_at ended seats seat (stop_of y)) rows (λ i d lt. free_of free i (get_or rows i d) (slice_get-get_or rows i d lt))

  pub held_is : (from : ℕ) (held : Bool) → IsStand ended seats seat rows from at held → held ≡ is_held items ended seats seat
  held_is from true h = let r = h.here refl in sym (held_here r.0 r.1 r.2 r.3 r.4)
  held_is from false h = sym (held_not (h.free refl))

-- ---- a seat that isn't held back

-- nothing that comes before hasn't ended
abbrev pub IsWithin : Before → (ℕ → ℕ) → Type 0
IsWithin b ended = ((seat of : ℕ) → b.seats seat of ≤ ended of) × ((mark of : ℕ) → b.marks mark of ≤ ended of)

pub within_next : (b : Before) (ended : ℕ → ℕ) (item : Item) → IsWithin b ended → ((t : ℕ) (call : Call) → item ≡ Ask t call → own b t + 1 ≤ ended t) → IsWithin (behind b item) ended
within_next b ended (Ask t call) h few = (
  at_all (λ (f : ℕ → ℕ). (of : ℕ) → f of ≤ ended of) b.seats t (at_place (b.seats t) t (b.seats t t + 1)) (λ of. at_cases (b.seats t) t (b.seats t t + 1) of (λ y n. n ≤ ended y) (few t call refl) (h.0 t of)) (λ s. h.0 s),
  h.1,
)
within_next b ended (Mark t n) h few = (h.0, at_all (λ (f : ℕ → ℕ). (of : ℕ) → f of ≤ ended of) b.marks n (b.seats t) (h.0 t) (λ m. h.1 m))
within_next b ended (After t n) h few = (at_all (λ (f : ℕ → ℕ). (of : ℕ) → f of ≤ ended of) b.seats t (λ of. greater (b.seats t of) (b.marks n of)) (λ of. greater_most (b.seats t of) (b.marks n of) (ended of) (h.0 t of) (h.1 n of)) (λ s. h.0 s), h.1)
within_next b ended (Turn t count) h few = h

all_below : (ended f : ℕ → ℕ) (xs : List ℕ) → ((of : ℕ) → f of ≤ ended of) → list_all (λ of. nat_le (f of) (ended of)) xs ≡ true
all_below ended f [] h = refl
all_below ended f (x ∷ xs) h = true_and (nat_le (f x) (ended x)) _ (at_most_test (f x) (ended x) (h x)) (all_below ended f xs h)

-- Where fewer of a seat's calls have ended than the items have, there is such a seat that isn't held back.
abbrev pub GoesOn : Before → List Item → (ended : ℕ → ℕ) → (seats : ℕ) → Type 0
GoesOn b items ended seats = ((seat : ℕ) → own (fold behind b items) seat ≤ ended seat) ⊎ ((seat : ℕ) × (ended seat < own (fold behind b items) seat) × (list_any (stops_at ended seats seat) (stops_from b items) ≡ false))

own_later : (b : Before) (items : List Item) (seat : ℕ) → own b seat ≤ own (fold behind b items) seat
own_later b [] seat = omega arith
own_later b (i ∷ is) seat = omega (arith, rises b i seat, own_later (behind b i) is seat)

none_reached : (ended : ℕ → ℕ) (seats seat : ℕ) (b : Before) (items : List Item) → ended seat < own b seat → list_any (stops_at ended seats seat) (stops_from b items) ≡ false
none_reached ended seats seat b items less = search (rules, list_any_none, slice_get-get_or, falls, differ_test, above_test, low)

pub ask_seat : (t s : ℕ) (call other : Call) → Ask t call ≡ Ask s other → t ≡ s
ask_seat t s call other e = cc

pub seat_goes_on : (b : Before) (items : List Item) (ended : ℕ → ℕ) (seats : ℕ) → IsWithin b ended → GoesOn b items ended seats
seat_goes_on b [] ended seats h = inl (λ seat. h.0 seat seat)
seat_goes_on b (Ask t call ∷ items) ended seats h =
    let c = behind b (Ask t call) in
    let more : own c t ≡ own b t + 1 = ap (λ (f : ℕ → ℕ). f t) (at_own b.seats t (at_place (b.seats t) t (b.seats t t + 1))) ∙ at_own (b.seats t) t (b.seats t t + 1) in
    elim (cases_lt (ended t) (own b t + 1)) [
      | inl less ↦ inr (t, omega (arith, less, more, own_later c items t), none_reached ended seats t c items (omega (arith, less, more)))
      | inr all ↦ seat_goes_on c items ended seats (within_next b ended (Ask t call) h (λ s c e. subst (λ x. own b x + 1 ≤ ended x) (ask_seat t s call c e) all))
    ]
seat_goes_on b (Mark t n ∷ items) ended seats h = seat_goes_on (behind b (Mark t n)) items ended seats (within_next b ended (Mark t n) h (λ s c e. absurd (cc)))
seat_goes_on b (Turn t count ∷ items) ended seats h = seat_goes_on b items ended seats h
seat_goes_on b (After t n ∷ items) ended seats h =
    let c = behind b (After t n) in
    let within = within_next b ended (After t n) h (λ s x e. absurd (cc)) in
    let x : Stop = record { seat = t; counts = c.seats t } in
    elim (seat_goes_on c items ended seats within) [
      | inl all ↦ inl all
      | inr found ↦ inr (found.0, found.1, ap (λ s. s || list_any (stops_at ended seats found.0) (stops_from c items)) (falls (t == found.0) _ _ (inr (inr (all_below ended (c.seats t) (range_with_len 0 seats) (λ of. within.0 t of))))) ∙ found.2)
    ]

-- ---- tests of the counts, one after another

pub all_snoc : (p : ℕ → Bool) (a n : ℕ) → list_all p (range_with_len a n) ≡ true → p (a + n) ≡ true → list_all p (range_with_len a (n + 1)) ≡ true
all_snoc p a n h here = let more : n + 1 ≡ suc n = omega arith in ap (λ k. list_all p (range_with_len a k)) more ∙ go a n h here where
  go : (a n : ℕ) → list_all p (range_with_len a n) ≡ true → p (a + n) ≡ true → list_all p (range_with_len a (suc n)) ≡ true
  go a zero h here = let same : a ≡ a + 0 = omega arith in true_and (p a) true (ap p same ∙ here) refl
  go a (suc n) h here =
      let parts = and_parts (p a) (list_all p (range_with_len (a + 1) n)) h in
      let same : a + 1 + n ≡ a + suc n = omega arith in
      true_and (p a) _ parts.0 (go (a + 1) n parts.1 (ap p same ∙ here))

pub all_fails : (p : ℕ → Bool) (n i : ℕ) → i < n → p i ≡ false → list_all p (range_with_len 0 n) ≡ false
all_fails p n i below fails = list_all_at p (range_with_len 0 n) i 0 (omega (arith, below, length-range_with_len 0 n)) (let same : 0 + i ≡ i = omega arith in ap p (get_or-range_with_len 0 n i 0 below ∙ same) ∙ fails)

abbrev pub zeros : ℕ → List ℕ
zeros n = replicate n 0

pub zero_at : (n i : ℕ) → get_or (zeros n) i 0 ≡ 0
zero_at zero i = refl
zero_at (suc n) zero = refl
zero_at (suc n) (suc i) = zero_at n i

-- behind all rows a seat isn't held back
pub stand_past : (ended : ℕ → ℕ) (seats seat : ℕ) (rows : List AfterRow) (at : ℕ) → length rows ≤ at → IsStand ended seats seat rows at at false
stand_past ended seats seat rows at past = search (rules, slice_get_within)

pub past_both : (ended : ℕ → ℕ) (seats seat : ℕ) (rows : List AfterRow) (from at : ℕ) (held : Bool) → ((i : ℕ) (r : AfterRow) → i < from → slice_get rows i ≡ Some r → r.seat ≡ seat → is_passed ended seats (stop_of r) ≡ true) → IsStand ended seats seat rows from at held
    → (i : ℕ) (r : AfterRow) → i < at → slice_get rows i ≡ Some r → r.seat ≡ seat → is_passed ended seats (stop_of r) ≡ true
past_both ended seats seat rows from at held past h i r before here same = search rules
