-- How the items are shared out, one by one.
use Rattle.std.proofs.Common.{◌≡◌, ◌≢◌, ◌≤◌, ◌<◌, ◌+◌, ℕ, zero, suc, List, [], ◌∷◌, ◌++◌, map, length, take, refl, sym, ap, ap₂, subst, append-nil, inl, inr, ◌∙◌, arith, slice_index_or, slice_set, eq-eqb, ne_eqb}
use Rattle.std.{specs.{Prelude.{Bool, true, false, ◌==◌, Some, filter, slice_get, if◌then◌else◌}, List.{sum_by, AllByRecursion}}, proofs.{Math.Seq.{take-length}, lemmas.{Option.{slice_get_read}, List.{length-map, map-append, take-append-le, take_more, Elements.{filter-append}, Sums.{sum_by-append, sum_by-cons}}}}}
use Rattle.sh_logic.proofs.Options.{some_none}
use Rattle.sh_base.specs.declared.config.ConfigParts.{ConfigParts}
use Rattle.sh_sheet.specs.{declared.item.Item.{Item}, Sheet.{item_calls, item_seat, rows_of, AreFew}}
use Rattle.sh_fleet.specs.{declared.{sharing.Share.{Share}, work.Place.{Place}}, Sharing.{items_of, AreOrdered, ArePlaces, AreShares, IsGiven, IsNoShare, IsShare}}
use Rattle.sh_fleet.proofs.HeardLemmas.{place_more, place_within}

filtered_one : (p : Item → Bool) (it : Item) (b : Bool) → p it ≡ b → filter p (it ∷ []) ≡ (if b then it ∷ [] else [])
filtered_one p it b h = rw h refl

own_more : (seat : ℕ) (front : List Item) (it : Item) → item_seat it ≡ seat → items_of seat (front ++ it ∷ []) ≡ items_of seat front ++ it ∷ []
own_more seat front it is =
    let one : items_of seat (it ∷ []) ≡ it ∷ [] = filtered_one (λ (x : Item). item_seat x == seat) it true (eq-eqb (item_seat it) seat is) in
    filter-append (λ (x : Item). item_seat x == seat) front (it ∷ []) ∙ ap (λ xs. items_of seat front ++ xs) one

same_for : (seat : ℕ) (front : List Item) (it : Item) → item_seat it ≢ seat → items_of seat (front ++ it ∷ []) ≡ items_of seat front
same_for seat front it ne =
    let none : items_of seat (it ∷ []) ≡ [] = filtered_one (λ (x : Item). item_seat x == seat) it false (ne_eqb (item_seat it) seat ne) in
    filter-append (λ (x : Item). item_seat x == seat) front (it ∷ []) ∙ (ap (λ xs. items_of seat front ++ xs) none ∙ append-nil (items_of seat front))

summed : (f : Item → ℕ) (mine : List Item) (it : Item) → sum_by f (mine ++ it ∷ []) ≡ sum_by f mine + f it
summed f mine it = omega (arith, sum_by-append f mine (it ∷ []), sum_by-cons f it [])

-- a place more, with all items before it shared out
order_more : (items mine : List Item) (seat : ℕ) (it : Item) (places : List Place) (a : Place) → length places ≡ length mine → items_of seat (take a.at items) ≡ mine → AreOrdered items seat mine places → AreOrdered items seat (mine ++ it ∷ []) (places ++ a ∷ [])
order_more items mine seat it places a long here h i b at = elim (place_more places a i b at) [
  | inl old ↦ h i b old ∙ sym (take-append-le i mine (it ∷ []) (omega (arith, place_within places i b old, long)))
  | inr new ↦ ap (λ (x : Place). items_of seat (take x.at items)) (sym new.1) ∙ (here ∙ (sym (take-length mine) ∙ (sym (take-append-le (length mine) mine (it ∷ []) (omega arith)) ∙ ap (λ (n : ℕ). take n (mine ++ it ∷ [])) (sym long ∙ sym new.0))))
]

places_long : (items mine : List Item) (places : List Place) → ArePlaces items mine places → length places ≡ length mine
places_long items mine places h = sym (length-map places (λ (a : Place). slice_get items a.at)) ∙ (ap length h ∙ length-map mine (λ (x : Item). Some x))

given_own : (p : ConfigParts) (items front : List Item) (seat at n : ℕ) (it : Item) (s t : Share) → front ≡ take at items → slice_get items at ≡ Some it → item_seat it ≡ seat → IsShare p items front seat s → IsGiven p at n it s t → IsShare p items (front ++ it ∷ []) seat t
given_own p items front seat at n it s t front_is here is h g =
    let mine = items_of seat front in
    let more = own_more seat front it is in
    let a : Place = record { at = at; n = n } in
    record {
      places = ap (map (λ (x : Place). slice_get items x.at)) g.places ∙ (map-append (λ (x : Place). slice_get items x.at) s.places.items (a ∷ []) ∙ (ap₂ (λ xs x. xs ++ x ∷ []) h.places here ∙ (sym (map-append (λ (x : Item). Some x) mine (it ∷ [])) ∙ ap (map (λ (x : Item). Some x)) (sym more))));
      order = subst (λ (ps : List Place). AreOrdered items seat (items_of seat (front ++ it ∷ [])) ps) (sym g.places) (subst (λ (xs : List Item). AreOrdered items seat xs (s.places.items ++ a ∷ [])) (sym more) (order_more items mine seat it s.places.items a (places_long items mine s.places.items h.places) (ap (items_of seat) (sym front_is)) h.order));
      calls = g.calls ∙ (ap (λ k. k + item_calls it) h.calls ∙ (sym (summed item_calls mine it) ∙ ap (sum_by item_calls) (sym more)));
      rows = g.rows ∙ (ap (λ k. k + rows_of p it) h.rows ∙ (sym (summed (rows_of p) mine it) ∙ ap (sum_by (rows_of p)) (sym more)));
    }

given_else : (p : ConfigParts) (items front : List Item) (seat : ℕ) (it : Item) (s : Share) → item_seat it ≢ seat → IsShare p items front seat s → IsShare p items (front ++ it ∷ []) seat s
given_else p items front seat it s ne h =
    let same = same_for seat front it ne in
    record {
      places = h.places ∙ ap (map (λ (x : Item). Some x)) (sym same);
      order = subst (λ (xs : List Item). AreOrdered items seat xs s.places.items) (sym same) h.order;
      calls = h.calls ∙ ap (sum_by item_calls) (sym same);
      rows = h.rows ∙ ap (sum_by (rows_of p)) (sym same);
    }

given_before : (p : ConfigParts) (items front : List Item) (k : ℕ) (it : Item) (ss : List Share) → item_seat it < k → AreShares p items front k ss → AreShares p items (front ++ it ∷ []) k ss
given_before p items front k it [] lt h = tt
given_before p items front k it (s ∷ ss) lt h = (given_else p items front k it s (λ e. absurd (omega (arith, lt, e))) h.0, given_before p items front (suc k) it ss (omega (arith, lt)) h.1)

given_from : (p : ConfigParts) (items front : List Item) (k : ℕ) (it : Item) (ss : List Share) (i : ℕ) (t : Share) → item_seat it ≡ k + i → AreShares p items front k ss → IsShare p items (front ++ it ∷ []) (k + i) t → AreShares p items (front ++ it ∷ []) k (slice_set ss i t)
given_from p items front k it [] i t is h g = tt
given_from p items front k it (s ∷ ss) zero t is h g =
    let here : k + 0 ≡ k = omega arith in
    (subst (λ (j : ℕ). IsShare p items (front ++ it ∷ []) j t) here g, given_before p items front (suc k) it ss (omega (arith, is)) h.1)
given_from p items front k it (s ∷ ss) (suc i) t is h g =
    let next : k + suc i ≡ suc k + i = omega arith in
    (given_else p items front k it s (λ e. absurd (omega (arith, is, e))) h.0, given_from p items front (suc k) it ss i t (is ∙ next) h.1 (subst (λ (j : ℕ). IsShare p items (front ++ it ∷ []) j t) next g))

share_from : (p : ConfigParts) (items front : List Item) (k : ℕ) (ss : List Share) (i : ℕ) (d : Share) → i < length ss → AreShares p items front k ss → IsShare p items front (k + i) (slice_index_or ss i d)
share_from p items front k [] i d lt h = absurd (omega (arith, lt))
share_from p items front k (s ∷ ss) zero d lt h = let here : k ≡ k + 0 = omega arith in subst (λ (j : ℕ). IsShare p items front j s) here h.0
share_from p items front k (s ∷ ss) (suc i) d lt h = let next : suc k + i ≡ k + suc i = omega arith in subst (λ (j : ℕ). IsShare p items front j (slice_index_or ss i d)) next (share_from p items front (suc k) ss i d (omega (arith, lt)) h.1)

-- the share of a seat
pub share_at : (p : ConfigParts) (items front : List Item) (ss : List Share) (i : ℕ) (d : Share) → i < length ss → AreShares p items front 0 ss → IsShare p items front i (slice_index_or ss i d)
share_at p items front ss i d lt h = let none : 0 + i ≡ i = omega arith in subst (λ (j : ℕ). IsShare p items front j (slice_index_or ss i d)) none (share_from p items front 0 ss i d lt h)

-- the shares with one item more
pub given_all : (p : ConfigParts) (items front : List Item) (at n : ℕ) (it : Item) (ss : List Share) (s t : Share) → front ≡ take at items → slice_get items at ≡ Some it → IsShare p items front (item_seat it) s → AreShares p items front 0 ss → IsGiven p at n it s t → AreShares p items (front ++ it ∷ []) 0 (slice_set ss (item_seat it) t)
given_all p items front at n it ss s t front_is here own h g =
    let none : 0 + item_seat it ≡ item_seat it = omega arith in
    given_from p items front 0 it ss (item_seat it) t (sym none) h (subst (λ (j : ℕ). IsShare p items (front ++ it ∷ []) j t) (sym none) (given_own p items front (item_seat it) at n it s t front_is here refl own g))

pub none_shared : (p : ConfigParts) (items : List Item) (k : ℕ) (ss : List Share) → AllByRecursion IsNoShare ss → AreShares p items [] k ss
none_shared p items k [] h = tt
none_shared p items k (s ∷ ss) h = (record { places = ap (map (λ (x : Place). slice_get items x.at)) h.0.places; order = λ i a at. absurd (some_none (sym at ∙ ap (λ (ps : List Place). slice_get ps i) h.0.places)); calls = h.0.calls; rows = h.0.rows }, none_shared p items (suc k) ss h.1)

part_by : (f : Item → ℕ) (seat : ℕ) (x : Item) (xs : List Item) (b : Bool) → (item_seat x == seat) ≡ b → sum_by f (items_of seat xs) ≤ sum_by f xs → sum_by f (if b then x ∷ items_of seat xs else items_of seat xs) ≤ f x + sum_by f xs
part_by f seat x xs true is h = omega (arith, h, sum_by-cons f x (items_of seat xs))
part_by f seat x xs false is h = omega (arith, h)

-- a seat's items have no more calls than all
pub part_few : (f : Item → ℕ) (seat : ℕ) (xs : List Item) → sum_by f (items_of seat xs) ≤ sum_by f xs
part_few f seat [] = omega arith
part_few f seat (x ∷ xs) = omega (arith, sum_by-cons f x xs, part_by f seat x xs (item_seat x == seat) refl (part_few f seat xs))

pub front_few : (f : Item → ℕ) (i : ℕ) (xs : List Item) → sum_by f (take i xs) ≤ sum_by f xs
front_few f zero xs = omega arith
front_few f (suc i) [] = omega arith
front_few f (suc i) (x ∷ xs) = omega (arith, sum_by-cons f x xs, sum_by-cons f x (take i xs), front_few f i xs)

pub share_few : (p : ConfigParts) (items : List Item) (i seat : ℕ) (ss : List Share) (s : Share) → AreFew p items → AreShares p items (take i items) 0 ss → seat < length ss → s ≡ slice_index_or ss seat s → (s.calls ≤ 1000000) × (s.rows ≤ 4194304) × IsShare p items (take i items) seat s
share_few p items i seat ss s few h lt is =
    let own : IsShare p items (take i items) seat s = subst (λ (x : Share). IsShare p items (take i items) seat x) (sym is) (share_at p items (take i items) ss seat s lt h) in
    (omega (arith, own.calls, part_few item_calls seat (take i items), front_few item_calls i items, few.calls), omega (arith, own.rows, part_few (rows_of p) seat (take i items), front_few (rows_of p) i items, few.rows), own)

pub next_front : (items : List Item) (i : ℕ) (it : Item) → i < length items → it ≡ slice_index_or items i it → take (i + 1) items ≡ take i items ++ it ∷ []
next_front items i it lt is = take_more items i it lt ∙ ap (λ (x : Item). take i items ++ x ∷ []) (sym is)

pub divided : (p : ConfigParts) (items : List Item) (i n seat : ℕ) (it : Item) (ss : List Share) (s t : Share) → i < length items → it ≡ slice_index_or items i it → seat ≡ item_seat it → AreShares p items (take i items) 0 ss → IsShare p items (take i items) seat s → IsGiven p i n it s t → AreShares p items (take (i + 1) items) 0 (slice_set ss seat t)
divided p items i n seat it ss s t lt is own h share g =
    let all = given_all p items (take i items) i n it ss s t refl (slice_get_read items (length items) i it refl lt is) (subst (λ (k : ℕ). IsShare p items (take i items) k s) own share) h g in
    let placed : AreShares p items (take i items ++ it ∷ []) 0 (slice_set ss seat t) = subst (λ (k : ℕ). AreShares p items (take i items ++ it ∷ []) 0 (slice_set ss k t)) (sym own) all in
    subst (λ (xs : List Item). AreShares p items xs 0 (slice_set ss seat t)) (sym (next_front items i it lt is)) placed

pub counted : (items : List Item) (i : ℕ) (it : Item) → i < length items → it ≡ slice_index_or items i it → sum_by item_calls (take (i + 1) items) ≡ sum_by item_calls (take i items) + item_calls it
counted items i it lt is = ap (sum_by item_calls) (next_front items i it lt is) ∙ summed item_calls (take i items) it
