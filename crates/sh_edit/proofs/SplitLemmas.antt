-- The halves of a split hold the put, each key on its side of the separator, and meet the rules.
use Rattle.std.proofs.Common.{◌≡◌, ◌≢◌, ℕ, zero, suc, ◌+◌, ◌-◌, ◌<◌, ◌≤◌, true, cond, List, [], ◌∷◌, ◌++◌, length, take, drop, map, replicate, None, inl, inr, refl, sym, ap, subst, ◌∙◌, get_or, Less, Equal, Greater, arith}
use Rattle.std.specs.{Prelude.{T, is_some}, List.{AllByRecursion}, Ordering.{nat_cmp, eq_by_cmp}, Cmp.{nat_cmp_total}}
use Rattle.std.specs.FinMap.{find, entries, from_entries, get-entries, get-from_entries, is_sorted, entries_sorted, len-entries, len-insert, len-empty, entries-insert}
use Rattle.std.{specs.FinMap.Entries.{below_all, by_order, put as put_pair}, proofs.lemmas.{Cmp.{ranked}, Bool.{cases_eq, eq-eqb}, List.{take-append-drop}}}
use Rattle.sh_logic.proofs.{Lists.{all_take, all_drop, all_weaker}, Options.{some_none}, Lookups.{find_past, find_before}, Tests.{differ_test, first, second}}
use Rattle.sh_map.{specs.Map.{Map, get, put, size}, proofs.{MapLemmas.{same_by_keys, same_test, apart_test, get-put_other}, RowsLemmas.{less}}}
use Rattle.sh_image.specs.{declared.leaf.LeafEntry.{LeafEntry}, Leaf.{Leaf}}
use Rattle.sh_edit.specs.{Held.{pairs_of, map_of_entries, HasKeysOnce}, Placing.{LacksKey}}
use Rattle.sh_edit.{specs.Splitting.{empty_like, entry_with, entries_from, pairs_after, left_count, separator_of, left_half, right_half}, proofs.HeldLemmas.{get-zero, get-map_of_entries, held_none}}
use Rattle.sh_edit.proofs.RoomLemmas.{size_is_pairs}

-- no pair has the key 0
abbrev pub AreKeys : List (ℕ × List ℕ) → Type 0
AreKeys pairs = AllByRecursion (λ x. x.0 ≢ 0) pairs

-- a map that has nothing at 0 has no pair with the key 0
keys_from_none : (pairs : List (ℕ × List ℕ)) → find nat_cmp 0 pairs ≡ None → AreKeys pairs
keys_from_none [] h = tt
keys_from_none (x ∷ pairs) h = elim (cases_eq x.0 0) [
  | inl z ↦ let here : eq_by_cmp nat_cmp 0 x.0 ≡ true = ap (eq_by_cmp nat_cmp 0) z ∙ same_test 0 in absurd (some_none (rw here at h))
  | inr nz ↦ (nz, keys_from_none pairs (rw (apart_test 0 x.0 (λ e. nz (sym e))) at h))
]

-- pairs are read back from the entries that they make
pub pairs_of-entries : (empty : LeafEntry) (pairs : List (ℕ × List ℕ)) (n : ℕ) → empty.key ≡ 0 → AreKeys pairs → pairs_of (map entry_with pairs ++ replicate n empty) ≡ pairs
pairs_of-entries empty [] zero z h = refl
pairs_of-entries empty [] (suc n) z h = ap (λ b. cond b (pairs_of (replicate n empty)) ((empty.key, empty.value) ∷ pairs_of (replicate n empty))) (eq-eqb empty.key 0 z) ∙ pairs_of-entries empty [] n z h
pairs_of-entries empty (x ∷ pairs) n z h =
    let more = map entry_with pairs ++ replicate n empty in
    ap (λ b. cond b (pairs_of more) ((x.0, x.1) ∷ pairs_of more)) (differ_test x.0 0 h.0) ∙ ap (λ l. (x.0, x.1) ∷ l) (pairs_of-entries empty pairs n z h.1)

pub pairs_of-entries_from : (count : ℕ) (value : List ℕ) (pairs : List (ℕ × List ℕ)) → AreKeys pairs → pairs_of (entries_from count (empty_like value) pairs) ≡ pairs
pairs_of-entries_from count value pairs h = pairs_of-entries (empty_like value) pairs (count - length pairs) refl h

-- the map of a map's pairs
from_entries-entries : (m : Map) → from_entries (entries m) ≡ m
from_entries-entries m = same_by_keys _ _ (λ q. get-from_entries nat_cmp_total (entries m) q ∙ sym (get-entries m q))

find_apart : (xs : List (ℕ × List ℕ)) (q : ℕ) → AllByRecursion (λ x. x.0 ≢ q) xs → find nat_cmp q xs ≡ None
find_apart [] q h = refl
find_apart (x ∷ xs) q h = rw (apart_test q x.0 (λ e. h.0 (sym e))) (find_apart xs q h.1)

-- ---- the separator parts the rising pairs
pub above_all : (x : ℕ) (ps : List (ℕ × List ℕ)) → T (below_all nat_cmp x ps) → AllByRecursion (λ y. x ≤ y.0) ps
above_all x [] h = tt
above_all x (y ∷ ps) h = (omega (arith, less x y.0 (first _ _ h)), above_all x ps (second _ _ h))

pub pair_above : (x : ℕ) (ps : List (ℕ × List ℕ)) (n : ℕ) → T (below_all nat_cmp x ps) → n < length ps → x < (get_or ps n (0, [])).0
pair_above x [] n h lt = absurd (omega arith)
pair_above x (y ∷ ps) zero h lt = less x y.0 (first _ _ h)
pair_above x (y ∷ ps) (suc n) h lt = pair_above x ps n (second _ _ h) (omega arith)

take_below : (ps : List (ℕ × List ℕ)) (n : ℕ) → T (is_sorted nat_cmp ps) → n < length ps → AllByRecursion (λ y. y.0 < (get_or ps n (0, [])).0) (take n ps)
take_below [] n h lt = absurd (omega arith)
take_below (x ∷ ps) zero h lt = tt
take_below (x ∷ ps) (suc n) h lt = (pair_above x.0 ps n (first _ _ h) (omega arith), take_below ps n (second _ _ h) (omega arith))

drop_above : (ps : List (ℕ × List ℕ)) (n : ℕ) → T (is_sorted nat_cmp ps) → n < length ps → AllByRecursion (λ y. (get_or ps n (0, [])).0 ≤ y.0) (drop n ps)
drop_above [] n h lt = absurd (omega arith)
drop_above (x ∷ ps) zero h lt = (omega arith, above_all x.0 ps (first _ _ h))
drop_above (x ∷ ps) (suc n) h lt = drop_above ps n (second _ _ h) (omega arith)

module _ (es : List LeafEntry) (key : ℕ) (value : List ℕ) (nz : key ≢ 0) where
  pub are_keys : AreKeys (pairs_after es key value)
  are_keys = keys_from_none (pairs_after es key value) (sym (get-entries (put (map_of_entries es) key value) 0) ∙ get-put_other (map_of_entries es) key 0 value (λ e. nz (sym e)) ∙ get-zero es)

module _ (a : Leaf) (key : ℕ) (value : List ℕ) (right : ℕ) (nz : key ≢ 0) where
  left_pairs : pairs_of (left_half a key value right).entries ≡ take (left_count a.entries) (pairs_after a.entries key value)
  left_pairs = pairs_of-entries_from (length a.entries) value _ (all_take (λ x. x.0 ≢ 0) (left_count a.entries) _ (are_keys a.entries key value nz))

  right_pairs : pairs_of (right_half a key value).entries ≡ drop (left_count a.entries) (pairs_after a.entries key value)
  right_pairs = pairs_of-entries_from (length a.entries) value _ (all_drop (λ x. x.0 ≢ 0) (left_count a.entries) _ (are_keys a.entries key value nz))

  -- the pairs of the two halves, one behind the other, are those of the put
  pub halves_are_put : from_entries (pairs_of (left_half a key value right).entries ++ pairs_of (right_half a key value).entries) ≡ put (map_of_entries a.entries) key value
  halves_are_put = ap from_entries ((λ t. left_pairs t ++ right_pairs t) ∙ take-append-drop (left_count a.entries) (pairs_after a.entries key value)) ∙ from_entries-entries (put (map_of_entries a.entries) key value)

-- ---- how many pairs there are after a put that has no room
full_pairs : (es : List LeafEntry) → LacksKey es 0 → length (pairs_of es) ≡ length es
full_pairs [] h = refl
full_pairs (e ∷ es) h = rw (differ_test e.key 0 (h 0 (omega arith))) (ap suc (full_pairs es (λ j lt. h (suc j) (omega arith))))

module _ (es : List LeafEntry) (key : ℕ) (value : List ℕ) (nz : key ≢ 0) (none : LacksKey es key) (full : LacksKey es 0) (once : HasKeysOnce es) where
  pub length-pairs_after : length (pairs_after es key value) ≡ length es + 1
  length-pairs_after =
      let absent : get (map_of_entries es) key ≡ None = get-map_of_entries es key nz ∙ held_none es key none in
      sym (len-entries (put (map_of_entries es) key value)) ∙ len-insert nat_cmp_total (map_of_entries es) key value
      ∙ ap (λ had. cond (is_some had) (size (map_of_entries es)) (size (map_of_entries es) + 1)) absent
      ∙ ap (λ n. n + 1) (size_is_pairs es once ∙ full_pairs es full)

  pub right_is_some : 1 ≤ length es → left_count es < length (pairs_after es key value)
  right_is_some some = omega (arith, length-pairs_after)

  rising : T (is_sorted nat_cmp (pairs_after es key value))
  rising = entries_sorted (put (map_of_entries es) key value)

-- ---- what all pairs have
module _ (P : ℕ × List ℕ → Type 0) where
  all_put : (key : ℕ) (value : List ℕ) (ps : List (ℕ × List ℕ)) → P (key, value) → AllByRecursion P ps → AllByRecursion P (put_pair nat_cmp key value ps)
  all_put key value [] p h = (p, tt)
  all_put key value (x ∷ ps) p h = elim (nat_cmp key x.0) as (λ r. r ≡ nat_cmp key x.0 → AllByRecursion P (by_order r ((key, value) ∷ x ∷ ps) ((x.0, value) ∷ ps) (x ∷ put_pair nat_cmp key value ps))) [
    | Less ↦ λ e. (p, h)
    | Equal ↦ λ e. (subst (λ k. P (k, value)) (ranked key x.0 Equal e) p, h.1)
    | Greater ↦ λ e. (h.0, all_put key value ps p h.1)
  ] refl

  nothing : (ps : List (ℕ × List ℕ)) → length ps ≡ 0 → AllByRecursion P ps
  nothing [] h = tt
  nothing (x ∷ ps) h = absurd (omega arith)

  all_from : (ps : List (ℕ × List ℕ)) → AllByRecursion P ps → AllByRecursion P (entries (from_entries {R = nat_cmp} ps))
  all_from [] h = nothing (entries (from_entries {R = nat_cmp} [])) (sym (len-entries (from_entries {R = nat_cmp} [])) ∙ len-empty nat_cmp (List ℕ))
  all_from (x ∷ ps) h = subst (AllByRecursion P) (sym (entries-insert nat_cmp_total (from_entries {R = nat_cmp} ps) x.0 x.1)) (all_put x.0 x.1 (entries (from_entries {R = nat_cmp} ps)) h.0 (all_from ps h.1))

  pub all_after : (es : List LeafEntry) (key : ℕ) (value : List ℕ) → P (key, value) → AllByRecursion P (pairs_of es) → AllByRecursion P (pairs_after es key value)
  all_after es key value p h = subst (AllByRecursion P) (sym (entries-insert nat_cmp_total (map_of_entries es) key value)) (all_put key value (entries (map_of_entries es)) p (all_from (pairs_of es) h))

  pub all_at : (ps : List (ℕ × List ℕ)) (n : ℕ) (d : ℕ × List ℕ) → n < length ps → AllByRecursion P ps → P (get_or ps n d)
  all_at [] n d lt h = absurd (omega arith)
  all_at (x ∷ ps) zero d lt h = h.0
  all_at (x ∷ ps) (suc n) d lt h = all_at ps n d (omega arith) h.1

-- ---- each key is in just one half
module _ (a : Leaf) (key : ℕ) (value : List ℕ) (right : ℕ) (some : 1 ≤ length a.entries) (nz : key ≢ 0) (none : LacksKey a.entries key) (full : LacksKey a.entries 0) (once : HasKeysOnce a.entries) where
  pub some_right : left_count a.entries < length (pairs_after a.entries key value)
  some_right = right_is_some a.entries key value nz none full once some

  pub left_below : AllByRecursion (λ y. y.0 < separator_of a.entries key value) (take (left_count a.entries) (pairs_after a.entries key value))
  left_below = take_below (pairs_after a.entries key value) (left_count a.entries) (entries_sorted (put (map_of_entries a.entries) key value)) some_right

  pub right_from : AllByRecursion (λ y. separator_of a.entries key value ≤ y.0) (drop (left_count a.entries) (pairs_after a.entries key value))
  right_from = drop_above (pairs_after a.entries key value) (left_count a.entries) (entries_sorted (put (map_of_entries a.entries) key value)) some_right

  parts : (q : ℕ) → find nat_cmp q (take (left_count a.entries) (pairs_after a.entries key value) ++ drop (left_count a.entries) (pairs_after a.entries key value)) ≡ get (put (map_of_entries a.entries) key value) q
  parts q = ap (find nat_cmp q) (take-append-drop (left_count a.entries) (pairs_after a.entries key value)) ∙ sym (get-entries (put (map_of_entries a.entries) key value) q)

  left_lacks : (q : ℕ) → separator_of a.entries key value ≤ q → find nat_cmp q (take (left_count a.entries) (pairs_after a.entries key value)) ≡ None
  left_lacks q h = find_apart (take (left_count a.entries) (pairs_after a.entries key value)) q (all_weaker _ _ _ (λ x lt e. omega (arith, lt, h, e)) left_below)

  right_lacks : (q : ℕ) → q < separator_of a.entries key value → find nat_cmp q (drop (left_count a.entries) (pairs_after a.entries key value)) ≡ None
  right_lacks q h = find_apart (drop (left_count a.entries) (pairs_after a.entries key value)) q (all_weaker _ _ _ (λ x le e. omega (arith, le, h, e)) right_from)

  left_get : (q : ℕ) → get (map_of_entries (left_half a key value right).entries) q ≡ find nat_cmp q (take (left_count a.entries) (pairs_after a.entries key value))
  left_get q = get-from_entries nat_cmp_total (pairs_of (left_half a key value right).entries) q ∙ ap (find nat_cmp q) (left_pairs a key value right nz)

  right_get : (q : ℕ) → get (map_of_entries (right_half a key value).entries) q ≡ find nat_cmp q (drop (left_count a.entries) (pairs_after a.entries key value))
  right_get q = get-from_entries nat_cmp_total (pairs_of (right_half a key value).entries) q ∙ ap (find nat_cmp q) (right_pairs a key value right nz)

  pub sides : (q : ℕ) → (q < separator_of a.entries key value → (get (map_of_entries (left_half a key value right).entries) q ≡ get (put (map_of_entries a.entries) key value) q) × (get (map_of_entries (right_half a key value).entries) q ≡ None)) × (separator_of a.entries key value ≤ q → (get (map_of_entries (left_half a key value right).entries) q ≡ None) × (get (map_of_entries (right_half a key value).entries) q ≡ get (put (map_of_entries a.entries) key value) q))
  sides q = (
    λ below. (left_get q ∙ sym (find_before _ _ q (right_lacks q below)) ∙ parts q, right_get q ∙ right_lacks q below),
    λ from. (left_get q ∙ left_lacks q from, right_get q ∙ sym (find_past _ _ q (left_lacks q from)) ∙ parts q),
  )
