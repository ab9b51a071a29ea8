-- The clocks that are made of a sheet's rows, one row after another.
use Rattle.std.proofs.Common.{rules, ◌≡◌, ◌≢◌, ◌<◌, ◌≤◌, ℕ, ◌+◌, Bool, true, false, List, [], ◌∷◌, ◌++◌, length, set, get_or, Option, Some, None, append-nil, refl, sym, ap, subst, ◌∙◌, inl, inr, arith, replicate, take}
use Rattle.std.{specs.{Prelude.{◌==◌, if◌then◌else◌, All}, List.{fold, sum_by}, Ordering.{nat_cmp}, BTreeMap.{BTreeMap, Updates}}, proofs.lemmas.{Bool.{cases_eq}, List.{get_or-set_same, get_or-set_other, length-set, length-replicate, get_or-replicate, take_more}}}
use Rattle.std.proofs.lemmas.List.Sums.{fold_push, sum_by-cons, sum_by-take-le, sum_by_more}
use Rattle.std.specs.BTreeMap as tree
use Rattle.std.proofs.lemmas.Option.{get_or_from_slice_get, slice_get-get_or}
use Rattle.sh_map.proofs.MapLemmas.{apart_test}
use Rattle.sh_sheet.specs.{declared.item.Item.{Item, TheVariants.{Ask, Mark, After, Turn}}, Sheet.{item_calls}}
use Rattle.sh_map.specs.declared.call.Call.{Call}
use Rattle.sh_replay.specs.{declared.marks.{Clock.{Clock}, AfterRow.{AfterRow}, Found.{Found}}, Clocks.{before, no_clock, Agrees, AgreesAt, AreRows, IsFound}}
use Rattle.sh_sheet.specs.{Marks.{at_place, behind, greater, nothing, stops_from, stops_of, Before, Stop}, Sheet.{item_seat}}

-- ---- functions that were changed at one place

at_same : {A : Type 0} (f : ℕ → A) (p : ℕ) (a : A) → at_place f p a p ≡ a
at_same f p a = search rules

at_other : {A : Type 0} (f : ℕ → A) (p : ℕ) (a : A) (x : ℕ) → x ≢ p → at_place f p a x ≡ f x
at_other f p a x ne = search rules

at_alike : (f g : ℕ → ℕ) (p a b x : ℕ) → f x ≡ g x → a ≡ b → at_place f p a x ≡ at_place g p b x
at_alike f g p a b x same here = search rules

-- ---- one item more

stops_append : (xs ys : List Item) (b : Before) → stops_from b (xs ++ ys) ≡ stops_from b xs ++ stops_from (fold behind b xs) ys
stops_append [] ys b = refl
stops_append (Ask seat call ∷ xs) ys b = stops_append xs ys (behind b (Ask seat call))
stops_append (Mark seat n ∷ xs) ys b = stops_append xs ys (behind b (Mark seat n))
stops_append (After seat n ∷ xs) ys b = ap (λ (l : List Stop). record { seat = seat; counts = (behind b (After seat n)).seats seat } ∷ l) (stops_append xs ys (behind b (After seat n)))
stops_append (Turn seat count ∷ xs) ys b = stops_append xs ys b

rows_append : (rows more : List AfterRow) (stops others : List Stop) → AreRows rows stops → AreRows more others → AreRows (rows ++ more) (stops ++ others)
rows_append [] more stops others h k = subst (λ (l : List Stop). AreRows more (l ++ others)) (sym h) k
rows_append (r ∷ rows) more [] others h k = absurd h
rows_append (r ∷ rows) more (x ∷ stops) others h k = (h.0, h.1, rows_append rows more stops others h.2 k)

module _ (items : List Item) (rows : List AfterRow) (seats : List Clock) (marks : BTreeMap ℕ Clock) (h : IsFound items rows seats marks) where
  clocks_set : (seat : ℕ) (clock : Clock) (counts : ℕ → ℕ) → seat < 64 → Agrees clock counts → (x : ℕ) → x < 64 → Agrees (get_or (set seats seat clock) x no_clock) (at_place (before items).seats seat counts x)
  clocks_set seat clock counts below agrees x within of few = search (rules, get_or-set_same, at_same, get_or-set_other, at_other)

  next : (item : Item) → before (items ++ item ∷ []) ≡ behind (before items) item
  next item = fold_push behind nothing items item

  stops_next : (item : Item) → stops_of (items ++ item ∷ []) ≡ stops_of items ++ stops_from (before items) (item ∷ [])
  stops_next item = stops_append items (item ∷ []) nothing

  -- all that one item more leaves
  found_next : (item : Item) (more : List AfterRow) (seats' : List Clock) (marks' : BTreeMap ℕ Clock) → length seats' ≡ 64
      → ((x : ℕ) → x < 64 → Agrees (get_or seats' x no_clock) ((behind (before items) item).seats x)) → ((n : ℕ) → AgreesAt (tree.get nat_cmp marks' n) ((behind (before items) item).marks n))
      → AreRows more (stops_from (before items) (item ∷ [])) → IsFound (items ++ item ∷ []) (rows ++ more) seats' marks'
  found_next item more seats' marks' long clocks marked same = search (rules, next, stops_next, rows_append)

  clock_of : (seat : ℕ) (clock : Clock) → seat < 64 → clock ≡ get_or seats seat clock → Agrees clock ((before items).seats seat)
  clock_of seat clock below is of few = search (rules, get_or_from_slice_get, slice_get-get_or)

  pub found_ask : (seat : ℕ) (call : Call) (clock new : Clock) → seat < 64 → clock ≡ get_or seats seat clock → ((of : ℕ) → get_or new.counts of 0 ≡ at_place (λ x. get_or clock.counts x 0) seat (get_or clock.counts seat 0 + 1) of) → IsFound (items ++ Ask seat call ∷ []) rows (set seats seat new) marks
  found_ask seat call clock new below is counted =
      let old = clock_of seat clock below is in
      subst (λ (l : List AfterRow). IsFound (items ++ Ask seat call ∷ []) l (set seats seat new) marks) (append-nil rows)
      (found_next (Ask seat call) [] (set seats seat new) marks (length-set seats seat new ∙ h.long)
      (clocks_set seat new (at_place ((before items).seats seat) seat ((before items).seats seat seat + 1)) below (λ of few. counted of ∙ at_alike (λ x. get_or clock.counts x 0) ((before items).seats seat) seat _ _ of (old of few) (ap (λ n. n + 1) (old seat below))))
      h.marks_are refl)

  pub found_mark : (seat n : ℕ) (clock : Clock) (marks' : BTreeMap ℕ Clock) → seat < 64 → clock ≡ get_or seats seat clock → Updates nat_cmp marks marks' n (Some clock) → IsFound (items ++ Mark seat n ∷ []) rows seats marks'
  found_mark seat n clock marks' below is updates =
      subst (λ (l : List AfterRow). IsFound (items ++ Mark seat n ∷ []) l seats marks') (append-nil rows)
      (found_next (Mark seat n) [] seats marks' h.long h.clocks marked refl) where
        marked : (m : ℕ) → AgreesAt (tree.get nat_cmp marks' m) (at_place (before items).marks n ((before items).seats seat) m)
        marked m = elim (cases_eq m n) [
          | inl same ↦ subst (λ (f : ℕ → ℕ). AgreesAt (tree.get nat_cmp marks' m) f) (sym (ap (at_place (before items).marks n ((before items).seats seat)) same ∙ at_same (before items).marks n ((before items).seats seat)))
              (subst (λ (o : Option Clock). AgreesAt o ((before items).seats seat)) (sym (ap (tree.get nat_cmp marks') same ∙ updates.1)) (clock_of seat clock below is))
          | inr ne ↦ subst (λ (f : ℕ → ℕ). AgreesAt (tree.get nat_cmp marks' m) f) (sym (at_other (before items).marks n ((before items).seats seat) m ne))
              (subst (λ (o : Option Clock). AgreesAt o ((before items).marks m)) (sym (updates.2 m (apart_test n m (λ e. ne (sym e))))) (h.marks_are m))
        ]

  pub found_after : (seat n : ℕ) (new : Clock) (rows' : List AfterRow) → seat < 64 → ((of : ℕ) → of < 64 → get_or new.counts of 0 ≡ greater ((before items).seats seat of) ((before items).marks n of)) → rows' ≡ rows ++ record { seat = seat; clock = new } ∷ [] → IsFound (items ++ After seat n ∷ []) rows' (set seats seat new) marks
  found_after seat n new rows' below counted pushed = subst (λ (l : List AfterRow). IsFound (items ++ After seat n ∷ []) l (set seats seat new) marks) (sym pushed)
      (found_next (After seat n) (record { seat = seat; clock = new } ∷ []) (set seats seat new) marks (length-set seats seat new ∙ h.long)
      (clocks_set seat new (λ of. greater ((before items).seats seat of) ((before items).marks n of)) below counted)
      h.marks_are (refl, (λ of few. counted of few ∙ sym (ap (λ (f : ℕ → ℕ). f of) (at_same (before items).seats seat (λ x. greater ((before items).seats seat x) ((before items).marks n x))))), refl))

  pub found_turn : (seat count : ℕ) → IsFound (items ++ Turn seat count ∷ []) rows seats marks
  found_turn seat count = subst (λ (l : List AfterRow). IsFound (items ++ Turn seat count ∷ []) l seats marks) (append-nil rows) (found_next (Turn seat count) [] seats marks h.long h.clocks h.marks_are refl)

-- ---- how many calls come before

pub greater_most : (a b k : ℕ) → a ≤ k → b ≤ k → greater a b ≤ k
greater_most a b k x y = search rules

pub at_all : {A : Type 0} (P : A → Type 0) (f : ℕ → A) (p : ℕ) (a : A) → P a → ((x : ℕ) → P (f x)) → (x : ℕ) → P (at_place f p a x)
at_all {A} P f p a here all x = by_test (x == p) where
  by_test : (t : Bool) → P (if t then a else f x)
  by_test true = here
  by_test false = all x

abbrev IsMost : Before → ℕ → Type 0
IsMost b k = ((seat of : ℕ) → b.seats seat of ≤ k) × ((mark of : ℕ) → b.marks mark of ≤ k)

one_most : (b : Before) (k : ℕ) (item : Item) → IsMost b k → IsMost (behind b item) (k + item_calls item)
one_most b k (Ask seat call) h = (at_all (λ f. (of : ℕ) → f of ≤ k + 1) b.seats seat (at_place (b.seats seat) seat (b.seats seat seat + 1)) (at_all (λ n. n ≤ k + 1) (b.seats seat) seat (b.seats seat seat + 1) (omega (arith, h.0 seat seat)) (λ x. omega (arith, h.0 seat x))) (λ s of. omega (arith, h.0 s of)), λ m of. omega (arith, h.1 m of))
one_most b k (Mark seat n) h = (λ s of. omega (arith, h.0 s of), at_all (λ f. (of : ℕ) → f of ≤ k + 0) b.marks n (b.seats seat) (λ of. omega (arith, h.0 seat of)) (λ m of. omega (arith, h.1 m of)))
one_most b k (After seat n) h = (at_all (λ f. (of : ℕ) → f of ≤ k + 0) b.seats seat (λ of. greater (b.seats seat of) (b.marks n of)) (λ of. greater_most (b.seats seat of) (b.marks n of) (k + 0) (omega (arith, h.0 seat of)) (omega (arith, h.1 n of))) (λ s of. omega (arith, h.0 s of)), λ m of. omega (arith, h.1 m of))
one_most b k (Turn seat count) h = (λ s of. omega (arith, h.0 s of), λ m of. omega (arith, h.1 m of))

all_most : (items : List Item) (b : Before) (k : ℕ) → IsMost b k → IsMost (fold behind b items) (k + sum_by item_calls items)
all_most [] b k h = (λ s of. omega (arith, h.0 s of), λ m of. omega (arith, h.1 m of))
all_most (i ∷ is) b k h =
    let rest = all_most is (behind b i) (k + item_calls i) (one_most b k i h) in
    (λ s of. omega (arith, rest.0 s of, sum_by-cons item_calls i is), λ m of. omega (arith, rest.1 m of, sum_by-cons item_calls i is))

pub few_before : (items : List Item) (seat of : ℕ) → (before items).seats seat of ≤ sum_by item_calls items
few_before items seat of = omega (arith, (all_most items nothing 0 ((λ s o. omega arith), (λ m o. omega arith))).0 seat of)

-- ---- the beginning, and the next item

no_entry : (marks : BTreeMap ℕ Clock) → marks.entries ≡ [] → (n : ℕ) → tree.get nat_cmp marks n ≡ None
no_entry marks empty n = rw empty refl

pub found_none : (rows : List AfterRow) (seats : List Clock) (marks : BTreeMap ℕ Clock) → rows ≡ [] → seats ≡ replicate 64 no_clock → marks.entries ≡ [] → IsFound [] rows seats marks
found_none rows seats marks none zeros empty = record {
  long = ap length zeros ∙ length-replicate 64 no_clock;
  clocks = λ seat below of few. ap (λ (l : List Clock). get_or (get_or l seat no_clock).counts of 0) zeros ∙ ap (λ (c : Clock). get_or c.counts of 0) (get_or-replicate 64 seat no_clock no_clock below) ∙ get_or-replicate 64 of 0 0 few;
  marks_are = λ n. subst (λ (o : Option Clock). AgreesAt o (λ x. 0)) (sym (no_entry marks empty n)) (λ of few. refl);
  rows_are = subst (λ (l : List AfterRow). AreRows l []) (sym none) refl;
}

pub found_more : (items : List Item) (i : ℕ) (item other : Item) (found new : Found) → i < length items → item ≡ get_or items i item → item ≡ other → found ≡ new → IsFound (take i items ++ other ∷ []) new.rows.items new.seats.items new.marks → IsFound (take (i + 1) items) found.rows.items found.seats.items found.marks
found_more items i item other found new below is same so h = search (rules, take_more)

pub few_counted : (items : List Item) (i seat : ℕ) (item : Item) (call : Call) (rows : List AfterRow) (seats : List Clock) (marks : BTreeMap ℕ Clock) → IsFound (take i items) rows seats marks → seat < 64 → i < length items → item ≡ get_or items i item → item ≡ Ask seat call → sum_by item_calls items < 4294967296 → get_or (get_or seats seat no_clock).counts seat 0 < 4294967295
few_counted items i seat item call rows seats marks h below lt is same few =
    omega (arith, h.clocks seat below seat below, few_before (take i items) seat seat, sum_by_more item_calls items i item lt, ap item_calls (sym is ∙ same), sum_by-take-le item_calls items (i + 1), few)

pub in_reach : (items : List Item) (i : ℕ) (item other : Item) → i < length items → item ≡ get_or items i item → item ≡ other → All (λ (x : Item). item_seat x < 64) items → item_seat other < 64
in_reach items i item other below is same all = omega (arith, all i item below, ap item_seat (sym is ∙ same))
