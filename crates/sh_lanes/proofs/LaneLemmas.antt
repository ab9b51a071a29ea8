-- From the lanes of a block of four words to the words.
use Rattle.std.proofs.Common.{rules, ℕ, ◌≡◌, ◌≢◌, ◌<◌, ◌≤◌, ◌==◌, ◌+◌, ◌-◌, ◌^◌, ◌%◌, Bool, true, false, cond, List, [], ◌∷◌, ◌++◌, length, get_or, drop, map, refl, sym, ap, ◌∙◌, inl, inr, not, arith, w64}
use Rattle.std.specs.List.{prefix_len, count_by}
use lib.Count.{count_trailing_zeros}
use lib.Lanes.{chunk, zip2, mask_l, top}
use Rattle.std.proofs.lemmas.{Bool.{cases_lt, eqb-false, eqb-true, Decides.{nat_tests}}, List.{take_all, same_lists, get_or_default, Sums.{sum_by-cons}}}
use Rattle.std.proofs.lemmas.Simd.{run_in_chunk_fails, run_in_chunk_stops, length-chunk, get_or-chunk, length-zip2, get_or-zip2, chunk-drop, tops_compared, mask_l-mod, leading_from_mask_l, trailing_mask_l}
use Rattle.sh_lanes.specs.Scans.{count_empty, IsFirst, IsFirstDiffering}

-- ---- a word
module _ (keys : List ℕ) (key at r : ℕ) (room : at + 4 ≤ length keys) (before : (i : ℕ) → i < at → get_or keys i 0 ≢ key) (counted : r ≡ prefix_len (λ k. not (k == key)) (chunk at 4 keys)) where
  lacks : (i : ℕ) → i < at + r → get_or keys i 0 ≢ key
  lacks i below = elim (cases_lt i at) [
    | inl less ↦ before i less
    | inr from ↦ eqb-false _ _ (run_in_chunk_fails (λ x. x == key) keys at 4 r 0 room counted i from below)
  ]

  pub equal_found : r < 4 → IsFirst keys key (at + r)
  equal_found few = record { in_range = omega arith; here = eqb-true _ _ (run_in_chunk_stops (λ x. x == key) keys at 4 r 0 room counted few); before = lacks }

  pub equal_none : 4 ≤ r → (i : ℕ) → i < at + 4 → get_or keys i 0 ≢ key
  equal_none many i below = lacks i (omega arith)

-- ---- two slices
module _ (a b : List ℕ) (at r : ℕ) (room : at + 4 ≤ length a) (room_b : at + 4 ≤ length b) (before : (i : ℕ) → i < at → get_or a i 0 ≡ get_or b i 0) (counted : r ≡ prefix_len (λ d. not d) (zip2 (λ x y. not (x == y)) (chunk at 4 a) (chunk at 4 b))) where
  four : length (zip2 (λ x y. not (x == y)) (chunk at 4 a) (chunk at 4 b)) ≡ 4
  four = length-zip2 (λ x y. not (x == y)) (chunk at 4 a) (chunk at 4 b) (length-chunk at 4 a room ∙ sym (length-chunk at 4 b room_b)) ∙ length-chunk at 4 a room

  whole : chunk 0 4 (zip2 (λ x y. not (x == y)) (chunk at 4 a) (chunk at 4 b)) ≡ zip2 (λ x y. not (x == y)) (chunk at 4 a) (chunk at 4 b)
  whole = take_all 4 (zip2 (λ x y. not (x == y)) (chunk at 4 a) (chunk at 4 b)) (omega (arith, four))

  lane : (k : ℕ) → k < 4 → get_or (zip2 (λ x y. not (x == y)) (chunk at 4 a) (chunk at 4 b)) k false ≡ not (get_or a (at + k) 0 == get_or b (at + k) 0)
  lane k below =
      get_or-zip2 (λ x y. not (x == y)) (chunk at 4 a) (chunk at 4 b) k 0 0 false (omega (arith, length-chunk at 4 a room)) (omega (arith, length-chunk at 4 b room_b))
      ∙ (λ t. not (get_or-chunk at 4 a k 0 below t == get_or-chunk at 4 b k 0 below t))

  counted_whole : r ≡ prefix_len (λ d. not d) (chunk 0 4 (zip2 (λ x y. not (x == y)) (chunk at 4 a) (chunk at 4 b)))
  counted_whole = counted ∙ ap (prefix_len (λ d. not d)) (sym whole)

  agree : (i : ℕ) → i < at + r → i < at + 4 → get_or a i 0 ≡ get_or b i 0
  agree i below within = elim (cases_lt i at) [
    | inl less ↦ before i less
    | inr from ↦
        let k : ℕ = i - at in
        let is : at + k ≡ i = omega arith in
        let off : get_or (zip2 (λ x y. not (x == y)) (chunk at 4 a) (chunk at 4 b)) k false ≡ false = run_in_chunk_fails (λ d. d) (zip2 (λ x y. not (x == y)) (chunk at 4 a) (chunk at 4 b)) 0 4 r false (omega (arith, four)) counted_whole k (omega arith) (omega arith) in
        let same : get_or a (at + k) 0 ≡ get_or b (at + k) 0 = eqb-true _ _ (not_false _ (sym (lane k (omega arith)) ∙ off)) in
        sym (ap (λ n. get_or a n 0) is) ∙ same ∙ ap (λ n. get_or b n 0) is
  ]
    where
      not_false : (c : Bool) → not c ≡ false → c ≡ true
      not_false true e = refl
      not_false false e = sym e

  pub differing_found : r < 4 → IsFirstDiffering a b (at + r)
  differing_found few = record {
    in_range = omega arith;
    differ =
        let ms = zip2 (λ x y. not (x == y)) (chunk at 4 a) (chunk at 4 b) in
        let zero : 0 + r ≡ r = omega arith in
        let on : get_or ms r false ≡ true = ap (λ n. get_or ms n false) (sym zero) ∙ run_in_chunk_stops (λ d. d) ms 0 4 r false (omega (arith, four)) counted_whole few in
        eqb-false _ _ (not_true _ (sym (lane r few) ∙ on));
    before = λ k below. agree k below (omega arith);
  }
    where
      not_true : (c : Bool) → not c ≡ true → c ≡ false
      not_true true e = sym e
      not_true false e = refl

  pub differing_none : 4 ≤ r → (i : ℕ) → i < at + 4 → get_or a i 0 ≡ get_or b i 0
  differing_none many i below = agree i (omega arith) below

-- slices that agree at each place
pub agree_all : (a b : List ℕ) (n : ℕ) → length a ≡ length b → length a ≤ n → ((i : ℕ) → i < n → get_or a i 0 ≡ get_or b i 0) → a ≡ b
agree_all a b n long past same = same_lists a b long (λ k d h. get_or_default a k d 0 h ∙ same k (omega arith) ∙ get_or_default b k 0 d (omega arith))

map_id : (ms : List Bool) → map (λ d. d) ms ≡ ms
map_id [] = refl
map_id (m ∷ ms) = ap (λ l. m ∷ l) (map_id ms)

-- the mask of the lanes that differ
module _ (xs ys : List ℕ) (long : length xs ≡ 4) (long_b : length ys ≡ 4) where
  four_lanes : length (zip2 (λ x y. not (x == y)) xs ys) ≡ 4
  four_lanes = length-zip2 (λ x y. not (x == y)) xs ys (long ∙ sym long_b) ∙ long

  mask_is : mask_l (map (top 63) (zip2 (λ a b. cond (not (a == b)) (2 ^ 64 - 1) 0) xs ys)) % 2 ^ 64 ≡ mask_l (map (λ d. d) (zip2 (λ x y. not (x == y)) xs ys))
  mask_is = ap (λ ms. mask_l ms % 2 ^ 64) (tops_compared w64 (λ x y. not (x == y)) xs ys) ∙ mask_l-mod (zip2 (λ x y. not (x == y)) xs ys) 64 (omega (arith, four_lanes)) ∙ ap mask_l (sym (map_id (zip2 (λ x y. not (x == y)) xs ys)))

  pub none_differ : mask_l (map (top 63) (zip2 (λ a b. cond (not (a == b)) (2 ^ 64 - 1) 0) xs ys)) % 2 ^ 64 ≡ 0 → 4 ≡ prefix_len (λ d. not d) (zip2 (λ x y. not (x == y)) xs ys)
  none_differ zero = sym (leading_from_mask_l (λ d. d) (zip2 (λ x y. not (x == y)) xs ys) (sym mask_is ∙ zero) ∙ four_lanes)

  pub first_differs : mask_l (map (top 63) (zip2 (λ a b. cond (not (a == b)) (2 ^ 64 - 1) 0) xs ys)) % 2 ^ 64 ≢ 0 → count_trailing_zeros 64 (mask_l (map (top 63) (zip2 (λ a b. cond (not (a == b)) (2 ^ 64 - 1) 0) xs ys)) % 2 ^ 64) ≡ prefix_len (λ d. not d) (zip2 (λ x y. not (x == y)) xs ys)
  first_differs some = search (rules, mask_is, trailing_mask_l, four_lanes)

-- ---- empty words
pub empty_counted : (ws : List ℕ) → count_by (λ x. x == 0) ws ≡ count_empty ws
empty_counted [] = refl
empty_counted (w ∷ ws) = sum_by-cons (λ x. cond (x == 0) 1 0) w ws ∙ ap (λ n. cond (w == 0) 1 0 + n) (empty_counted ws)

count-append : (xs ys : List ℕ) → count_empty (xs ++ ys) ≡ count_empty xs + count_empty ys
count-append [] ys = omega arith
count-append (x ∷ xs) ys = omega (arith, count-append xs ys)

few : (ws : List ℕ) → count_empty ws ≤ length ws
few [] = omega arith
few (w ∷ ws) = grind (arith, nat_tests, few ws)

pub empty_more : (ws : List ℕ) (at empty r : ℕ) → at + 4 ≤ length ws → count_empty ws ≡ empty + count_empty (drop at ws) → empty ≤ at → r ≡ count_empty (chunk at 4 ws) → (count_empty ws ≡ empty + r + count_empty (drop (at + 4) ws)) × (empty + r ≤ at + 4)
empty_more ws at empty r room before within is =
    let parts : count_empty (drop at ws) ≡ count_empty (chunk at 4 ws) + count_empty (drop (at + 4) ws) = ap count_empty (chunk-drop at 4 ws) ∙ count-append (chunk at 4 ws) (drop (at + 4) ws) in
    (omega (arith, before, parts, is), omega (arith, within, is, few (chunk at 4 ws), length-chunk at 4 ws room))
