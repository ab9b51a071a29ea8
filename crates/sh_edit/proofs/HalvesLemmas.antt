-- The halves of a lawful leaf are lawful, and keep their keys apart.
use Rattle.std.proofs.Common.{rules, ◌≡◌, ◌≢◌, ◌⊎◌, ℕ, zero, suc, ◌+◌, ◌-◌, ◌<◌, ◌≤◌, ◌^◌, List, [], ◌∷◌, ◌++◌, length, take, drop, map, replicate, inl, inr, refl, sym, ap, ◌∙◌, get_or, arith}
use Rattle.std.{specs.{Prelude.{T}, List.{AllByRecursion}, Ordering.{nat_cmp}, FinMap.{is_sorted, entries_sorted, Entries.{below_all}}}, proofs.lemmas.Bool.{cases_eq, eq-eqb}}
use Rattle.std.proofs.lemmas.List.{length-map, length-replicate, length-take-le, length-drop, length-append}
use Rattle.sh_logic.proofs.{Lists.{all_take, all_drop, all_weaker}, Tests.{differ_test, first, second}}
use Rattle.sh_base.specs.{declared.config.ConfigParts.{ConfigParts}, Setting.{nodes, last_version}}
use Rattle.sh_map.{specs.Map.{put}, proofs.RowsLemmas.{less}}
use Rattle.sh_image.specs.{declared.leaf.LeafEntry.{LeafEntry}, Leaf.{Leaf, IsEntry, IsLeaf}}
use Rattle.sh_edit.specs.{Held.{pairs_of, map_of_entries, HasKeysOnce}, Placing.{LacksKey}}
use Rattle.sh_edit.specs.Splitting.{empty_like, entry_with, entries_from, pairs_after, left_count, separator_of, left_half, right_half}
use Rattle.sh_edit.proofs.SplitLemmas.{all_after, all_at, pair_above, are_keys, length-pairs_after, left_below, right_from, some_right}

-- a pair that may stand in a leaf
abbrev pub IsPair : ConfigParts → ℕ → ℕ → ℕ × List ℕ → Type 0
IsPair p low high x = IsEntry p low high (entry_with x)

module _ (p : ConfigParts) where
  pairs_lawful : (low high : ℕ) (es : List LeafEntry) → AllByRecursion (IsEntry p low high) es → AllByRecursion (IsPair p low high) (pairs_of es)
  pairs_lawful low high [] h = tt
  pairs_lawful low high (e ∷ es) h = elim (cases_eq e.key 0) [
    | inl z ↦ rw (eq-eqb e.key 0 z) (pairs_lawful low high es h.1)
    | inr nz ↦ rw (differ_test e.key 0 nz) (record { value = h.0.value; version = omega arith; within = h.0.within }, pairs_lawful low high es h.1)
  ]

  -- fences that are drawn in
  drawn_in : (low high from below : ℕ) (xs : List (ℕ × List ℕ)) → AllByRecursion (IsPair p low high) xs → AllByRecursion (λ x. x.0 ≢ 0) xs → AllByRecursion (λ x. (from ≤ x.0) × (x.0 < below)) xs → AllByRecursion (IsPair p from below) xs
  drawn_in low high from below [] h k w = tt
  drawn_in low high from below (x ∷ xs) h k w = (record { value = h.0.value; version = h.0.version; within = inr (w.0.0, omega (arith, k.0), w.0.1) }, drawn_in low high from below xs h.1 k.1 w.1)

  pub filled_lawful : (low high n : ℕ) (value : List ℕ) (xs : List (ℕ × List ℕ)) → length value ≡ p.value_words → AllByRecursion (IsPair p low high) xs → AllByRecursion (IsEntry p low high) (map entry_with xs ++ replicate n (empty_like value))
  filled_lawful low high zero value [] words h = tt
  filled_lawful low high (suc n) value [] words h = (record { value = length-replicate (length value) 0 ∙ words; version = omega arith; within = inl (refl, ap (λ k. replicate k 0) words) }, filled_lawful low high n value [] words h)
  filled_lawful low high n value (x ∷ xs) words h = (h.0, filled_lawful low high n value xs words h.1)

all_both : (P Q : ℕ × List ℕ → Type 0) (xs : List (ℕ × List ℕ)) → AllByRecursion P xs → AllByRecursion Q xs → AllByRecursion (λ x. P x × Q x) xs
all_both P Q [] h k = tt
all_both P Q (x ∷ xs) h k = ((h.0, k.0), all_both P Q xs h.1 k.1)

pub length-entries_from : (count : ℕ) (empty : LeafEntry) (xs : List (ℕ × List ℕ)) → length xs ≤ count → length (entries_from count empty xs) ≡ count
length-entries_from count empty xs room = omega (arith, length-append (map entry_with xs) (replicate (count - length xs) empty), length-map xs entry_with, length-replicate (count - length xs) empty)

-- the separator lies above the first pair
above_first : (ps : List (ℕ × List ℕ)) (n : ℕ) → T (is_sorted nat_cmp ps) → 1 ≤ n → n < length ps → (get_or ps 0 (0, [])).0 < (get_or ps n (0, [])).0
above_first [] n h some lt = absurd (omega arith)
above_first (x ∷ ps) zero h some lt = absurd (omega arith)
above_first (x ∷ ps) (suc n) h some lt = pair_above x.0 ps n (first _ _ h) (omega arith)

-- ---- keys apart
once_cons : (e : LeafEntry) (es : List LeafEntry) → (e.key ≡ 0) ⊎ LacksKey es e.key → HasKeysOnce es → HasKeysOnce (e ∷ es)
once_cons e es head once h4 h5 less below same = search rules

none_above : (empty : LeafEntry) (q : ℕ) (xs : List (ℕ × List ℕ)) (n : ℕ) → empty.key ≡ 0 → q ≢ 0 → AllByRecursion (λ y. q < y.0) xs → LacksKey (map entry_with xs ++ replicate n empty) q
none_above empty q [] zero z nz h j below is = absurd (omega arith)
none_above empty q [] (suc n) z nz h zero below is = nz (sym is ∙ z)
none_above empty q [] (suc n) z nz h (suc j) below is = none_above empty q [] n z nz h j (omega arith) is
none_above empty q (x ∷ xs) n z nz h zero below is = absurd (omega (arith, h.0, is))
none_above empty q (x ∷ xs) n z nz h (suc j) below is = none_above empty q xs n z nz h.1 j (omega arith) is

-- pairs whose keys rise
abbrev pub RiseFrom : List (ℕ × List ℕ) → Type 0
RiseFrom [] = Unit {0}
RiseFrom (x ∷ xs) = AllByRecursion (λ y. x.0 < y.0) xs × RiseFrom xs

rise_above : (x : ℕ) (ps : List (ℕ × List ℕ)) → T (below_all nat_cmp x ps) → AllByRecursion (λ y. x < y.0) ps
rise_above x [] h = tt
rise_above x (y ∷ ps) h = (less x y.0 (first _ _ h), rise_above x ps (second _ _ h))

pub rise_sorted : (ps : List (ℕ × List ℕ)) → T (is_sorted nat_cmp ps) → RiseFrom ps
rise_sorted [] h = tt
rise_sorted (x ∷ ps) h = (rise_above x.0 ps (first _ _ h), rise_sorted ps (second _ _ h))

pub rise_take : (n : ℕ) (ps : List (ℕ × List ℕ)) → RiseFrom ps → RiseFrom (take n ps)
rise_take zero ps h = tt
rise_take (suc n) [] h = tt
rise_take (suc n) (x ∷ ps) h = (all_take (λ y. x.0 < y.0) n ps h.0, rise_take n ps h.1)

pub rise_drop : (n : ℕ) (ps : List (ℕ × List ℕ)) → RiseFrom ps → RiseFrom (drop n ps)
rise_drop zero ps h = h
rise_drop (suc n) [] h = tt
rise_drop (suc n) (x ∷ ps) h = rise_drop n ps h.1

pub once_filled : (empty : LeafEntry) (xs : List (ℕ × List ℕ)) (n : ℕ) → empty.key ≡ 0 → AllByRecursion (λ x. x.0 ≢ 0) xs → RiseFrom xs → HasKeysOnce (map entry_with xs ++ replicate n empty)
once_filled empty [] zero z k h i j less below same = absurd (omega arith)
once_filled empty [] (suc n) z k h i j less below same = once_cons empty (replicate n empty) (inl z) (once_filled empty [] n z k h) i j less below same
once_filled empty (x ∷ xs) n z k h i j less below same = once_cons (entry_with x) (map entry_with xs ++ replicate n empty) (inr (none_above empty x.0 xs n z k.0 h.0)) (once_filled empty xs n z k.1 h.1) i j less below same

module _ (a : Leaf) (key : ℕ) (value : List ℕ) (right : ℕ) (nz : key ≢ 0) where
  keys : AllByRecursion (λ x. x.0 ≢ 0) (pairs_after a.entries key value)
  keys = are_keys a.entries key value nz

  rise : RiseFrom (pairs_after a.entries key value)
  rise = rise_sorted (pairs_after a.entries key value) (entries_sorted (put (map_of_entries a.entries) key value))

  pub left_once : HasKeysOnce (left_half a key value right).entries
  left_once = once_filled (empty_like value) (take (left_count a.entries) (pairs_after a.entries key value)) _ refl (all_take (λ x. x.0 ≢ 0) (left_count a.entries) _ keys) (rise_take (left_count a.entries) _ rise)

  pub right_once : HasKeysOnce (right_half a key value).entries
  right_once = once_filled (empty_like value) (drop (left_count a.entries) (pairs_after a.entries key value)) _ refl (all_drop (λ x. x.0 ≢ 0) (left_count a.entries) _ keys) (rise_drop (left_count a.entries) _ rise)

module _ (p : ConfigParts) (a : Leaf) (key : ℕ) (value : List ℕ) (right : ℕ) (lawful : IsLeaf p a) (some : 1 ≤ length a.entries) (none : LacksKey a.entries key) (full : LacksKey a.entries 0) (once : HasKeysOnce a.entries) (low : a.low ≤ key) (nz : 1 ≤ key) (high : key < a.high) (words : length value ≡ p.value_words) where
  key_nz : key ≢ 0
  key_nz e = absurd (omega (arith, nz, e))

  all : AllByRecursion (IsPair p a.low a.high) (pairs_after a.entries key value)
  all = all_after (IsPair p a.low a.high) a.entries key value (record { value = words; version = omega arith; within = inr (low, nz, high) }) (pairs_lawful p a.low a.high a.entries lawful.entries)

  all_within : AllByRecursion (λ x. (a.low ≤ x.0) × (x.0 < a.high)) (pairs_after a.entries key value)
  all_within = within_of (pairs_after a.entries key value) all (keys a key value right key_nz)
    where
      within_of : (xs : List (ℕ × List ℕ)) → AllByRecursion (IsPair p a.low a.high) xs → AllByRecursion (λ x. x.0 ≢ 0) xs → AllByRecursion (λ x. (a.low ≤ x.0) × (x.0 < a.high)) xs
      within_of [] h k = tt
      within_of (x ∷ xs) h k = (elim h.0.within [ inl z ↦ absurd (k.0 z.0) | inr w ↦ (w.0, w.2) ], within_of xs h.1 k.1)

  some_right_is : left_count a.entries < length (pairs_after a.entries key value)
  some_right_is = some_right a key value right some key_nz none full once

  pub separator_within : (a.low < separator_of a.entries key value) × (separator_of a.entries key value < a.high)
  separator_within =
      let at = all_at (λ x. (a.low ≤ x.0) × (x.0 < a.high)) (pairs_after a.entries key value) (left_count a.entries) (0, []) some_right_is all_within in
      let least = all_at (λ x. (a.low ≤ x.0) × (x.0 < a.high)) (pairs_after a.entries key value) 0 (0, []) (omega (arith, some_right_is)) all_within in
      let above = above_first (pairs_after a.entries key value) (left_count a.entries) (entries_sorted (put (map_of_entries a.entries) key value)) (omega (arith, some)) some_right_is in
      (omega (arith, least.0, above), at.1)

  long : length (pairs_after a.entries key value) ≡ length a.entries + 1
  long = length-pairs_after a.entries key value key_nz none full once

  pub left_lawful : a.version < last_version p → 1 ≤ right → right ≤ nodes p → a.high < 2 ^ 64 → IsLeaf p (left_half a key value right)
  left_lawful version one node word = record {
    version = omega (arith, version);
    fences = separator_within.0;
    next = node;
    end = (λ z. absurd (omega (arith, one, z)), λ e. absurd (omega (arith, e, separator_within.1, word)));
    count = length-entries_from (length a.entries) (empty_like value) (take (left_count a.entries) (pairs_after a.entries key value)) (omega (arith, some, length-take-le (left_count a.entries) (pairs_after a.entries key value) (omega (arith, some_right_is)))) ∙ lawful.count;
    entries = filled_lawful p a.low (separator_of a.entries key value) _ value _ words
        (drawn_in p a.low a.high a.low (separator_of a.entries key value) _ (all_take (IsPair p a.low a.high) (left_count a.entries) _ all) (all_take (λ x. x.0 ≢ 0) (left_count a.entries) _ (keys a key value right key_nz))
        (all_weaker _ _ _ (λ x h. (h.0.0, h.1)) (all_both _ _ _ (all_take (λ x. (a.low ≤ x.0) × (x.0 < a.high)) (left_count a.entries) _ all_within) (left_below a key value right some key_nz none full once))));
  }

  pub right_lawful : IsLeaf p (right_half a key value)
  right_lawful = record {
    version = omega arith;
    fences = separator_within.1;
    next = lawful.next;
    end = lawful.end;
    count = length-entries_from (length a.entries) (empty_like value) (drop (left_count a.entries) (pairs_after a.entries key value)) (omega (arith, some, long, length-drop (left_count a.entries) (pairs_after a.entries key value))) ∙ lawful.count;
    entries = filled_lawful p (separator_of a.entries key value) a.high _ value _ words
        (drawn_in p a.low a.high (separator_of a.entries key value) a.high _ (all_drop (IsPair p a.low a.high) (left_count a.entries) _ all) (all_drop (λ x. x.0 ≢ 0) (left_count a.entries) _ (keys a key value right key_nz))
        (all_weaker _ _ _ (λ x h. (h.1, h.0.1)) (all_both _ _ _ (all_drop (λ x. (a.low ≤ x.0) × (x.0 < a.high)) (left_count a.entries) _ all_within) (right_from a key value right some key_nz none full once))));
  }
