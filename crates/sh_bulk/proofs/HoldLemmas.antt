-- Where each node lies in the memory that is built, and what that says: a lawful tree at rest, whose map is the rows.
use Rattle.std.proofs.Common.{rules, ◌≡◌, ℕ, zero, suc, ◌+◌, ◌-◌, ◌*◌, ◌<◌, ◌≤◌, false, List, [], ◌∷◌, ◌++◌, length, get_or, take, drop, map, replicate, refl, sym, ap, subst, ◌∙◌, inl, inr, append_assoc, length-append, arith}
use Rattle.std.specs.{Prelude.{slice_index, IfOk, Result, Ok, Err}, List.{range_with_len, flat_map, concat, AllByRecursion}, Ordering.{nat_cmp}}
use Rattle.std.{specs.{FinMap.{entries, from_entries, get-from_entries, get-from_sorted}, Cmp.{nat_cmp_total}}, proofs.{Math.Nat.{mul-le-mul_right}, lemmas.Bool.{cases_eq}}}
use Rattle.std.proofs.lemmas.List.{length-drop, length-replicate, drop-drop, drop_all, drop_at, drop-append-le, take-append-le, take-append-drop, map-append, get_or_append_left, get_or-append-add, get_or-replicate}
use Rattle.std.proofs.lemmas.List.FromFn.{length-map-range_with_len}
use Rattle.sh_base.specs.{declared.config.ConfigParts.{ConfigParts}, Setting.{all_locks, first_node_word, node_size, nodes, pool_words, IsNode, IsSetting}, Layout.{lock_word, node_part, node_word}}
use Rattle.sh_map.{specs.{declared.book.Row.{Row}, Map.{row_pair}, Rows.{map_of_rows}}, proofs.{MapLemmas.{same_by_keys}, RowsLemmas.{entries_are}}}
use Rattle.sh_image.{specs.{Leaf.{leaf_in, Spells}, Inner.{inner_in, no_pair, SpellsInner}}, proofs.{LeafLemmas.{leaf_in-leaf_words, values_of}, InnerLemmas.{inner_in-inner_words}}}
use Rattle.sh_edit.specs.Held.{pairs_of, HasKeysOnce}
use Rattle.sh_logic.proofs.Lists.{from_each}
use Rattle.sh_tree.specs.{Lists.{first_of, is_in, AreDifferent}, Nodes.{leaf_at, inner_at, low_at, high_at, next_at}}
use Rattle.sh_tree.specs.Tree.{leaves_of, pairs_along, top_of, AreLevels, IsChain, IsChildIn, IsInnerOf, IsLeafOf}
use Rattle.sh_bulk.specs.{Shape.{leaf_fill, count_in, div_up, first_in, need_of, height_of}, Nodes.{high_in, inner_of, leaf_of, low_in, next_in, rows_at, words_at, HaveValues}}
use Rattle.sh_bulk.{specs.{Words.{bulk_words, drawn_of, front_words, level_words, words_to}, Fault.{AreGood, HoldRows}}, proofs.LevelLemmas.{pair_is, pairs_many}}
use Rattle.sh_bulk.proofs.{PieceLemmas.{length-pieces, piece_cut, AreLong}, RangeLemmas.{all_in_range, different_range, in_range, outside_range}}
use Rattle.sh_bulk.proofs.RowLemmas.{are_rising, high_last, high_more, low_first, next_last, next_more}
use Rattle.sh_bulk.proofs.{ShapeLemmas.{covers, first_some, first_up, height_is, leaf_fill_small, some_node, two_parts, within_need}, TreeLemmas.{inner_lawful, leaf_lawful, leaf_once, leaf_rows, words_long}}

-- a part of the front of a list, and of what stands behind its front
cut_front : (w k : ℕ) (xs ys : List ℕ) → k + w ≤ length xs → take w (drop k (xs ++ ys)) ≡ take w (drop k xs)
cut_front w k xs ys h = ap (take w) (drop-append-le k xs ys (omega arith)) ∙ take-append-le w (drop k xs) ys (omega (arith, length-drop k xs))

cut_behind : (m k at : ℕ) (xs ys : List ℕ) → length xs ≡ m → at ≡ m + k → drop at (xs ++ ys) ≡ drop k ys
cut_behind m k at xs ys long e = ap (λ i. drop i (xs ++ ys)) e ∙ (sym (drop-drop k m (xs ++ ys)) ∙ ap (drop k) (drop_at xs ys m long))

-- the first of a range that has a number
named : (a c : ℕ) → 1 ≤ c → a ≡ first_of (range_with_len a c)
named a c h = search rules

module _ (p : ConfigParts) (need : ℕ) where
  pub length-front : length (front_words p need) ≡ first_node_word p
  unfolding front_words
  length-front = omega (arith, length-append (map (drawn_of p need) (range_with_len 0 p.servers)) (replicate (all_locks p) 0), length-map-range_with_len (drawn_of p need) 0 p.servers, length-replicate {A = ℕ} (all_locks p) 0)

  locks_free : (rest : List ℕ) (lock : ℕ) → lock < all_locks p → slice_index (front_words p need ++ rest) (lock_word p lock) ≡ 0
  unfolding front_words
  locks_free rest lock h =
      let counters = map (drawn_of p need) (range_with_len 0 p.servers) in
      let long : length counters ≡ p.servers = length-map-range_with_len (drawn_of p need) 0 p.servers in
      let zeros : List ℕ = replicate (all_locks p) 0 in
      let at : 2 + p.servers + lock ≡ suc (suc (length counters + lock)) = omega (arith, long) in
      ap (λ i. get_or (0 ∷ need ∷ ((counters ++ zeros) ++ rest)) i 0) at
      ∙ (ap (λ l. get_or l (length counters + lock) 0) (append_assoc counters zeros rest)
      ∙ (get_or-append-add counters (zeros ++ rest) lock 0
      ∙ (get_or_append_left zeros rest 0 lock (omega (arith, length-replicate {A = ℕ} (all_locks p) 0, h))
      ∙ get_or-replicate (all_locks p) lock 0 0 h)))

module _ (p : ConfigParts) (rows : List Row) where
  -- what every node's words begin with
  word_low : (level j : ℕ) → slice_index (words_at p rows level j) 2 ≡ low_in p rows level j
  unfolding words_at
  word_low zero j = refl
  word_low (suc level) j = refl

  word_high : (level j : ℕ) → slice_index (words_at p rows level j) 3 ≡ high_in p rows level j
  unfolding words_at
  word_high zero j = refl
  word_high (suc level) j = refl

  word_next : (level j : ℕ) → slice_index (words_at p rows level j) 4 ≡ next_in p rows level j
  unfolding words_at
  word_next zero j = refl
  word_next (suc level) j = refl

  -- the levels from one down to the leaves
  abbrev pub levels_down : ℕ → List (List ℕ)
  levels_down zero = range_with_len 1 (count_in p (length rows) 0) ∷ []
  levels_down (suc level) = range_with_len (first_in p (length rows) (suc level)) (count_in p (length rows) (suc level)) ∷ levels_down level

  many_levels : (level : ℕ) → length (levels_down level) ≡ suc level
  many_levels zero = refl
  many_levels (suc level) = ap suc (many_levels level)

  leaves_are : (level : ℕ) → leaves_of (levels_down level) ≡ range_with_len 1 (count_in p (length rows) 0)
  leaves_are zero = refl
  leaves_are (suc zero) = refl
  leaves_are (suc (suc level)) = leaves_are (suc level)

  down_below : (level k : ℕ) → first_in p (length rows) level + count_in p (length rows) level ≤ k → is_in (concat (levels_down level)) k ≡ false
  down_below zero k h = outside_range 1 (count_in p (length rows) 0) [] k (inr h) refl
  down_below (suc level) k h = outside_range _ _ (concat (levels_down level)) k (inr h) (down_below level k (omega arith))

  down_apart : (level : ℕ) → AreDifferent (concat (levels_down level))
  down_apart zero = different_range 1 (count_in p (length rows) 0) [] tt (λ k ge. refl)
  down_apart (suc level) = different_range _ _ (concat (levels_down level)) (down_apart level) (down_below level)

-- ---- the memory of good rows that have room
module _ (p : ConfigParts) (lawful : IsSetting p) (rows : List Row) (good : AreGood rows) (values : HaveValues p rows) (room : need_of p (length rows) ≤ nodes p) where
  abbrev pub words : List ℕ
  words = bulk_words p rows

  long_level : (level : ℕ) → level ≤ height_of p (length rows) → AreLong (words_at p rows level) (node_size p) 0 (count_in p (length rows) level)
  long_level level le j ge lt = words_long p lawful rows good values room level j le (omega arith)

  pub length-words_to : (level : ℕ) → level ≤ height_of p (length rows) → length (words_to p rows level) + node_size p ≡ first_in p (length rows) (suc level) * node_size p
  length-words_to zero le = search (rules, length-pieces, long_level, le)
  length-words_to (suc t) le =
      let before = length-words_to t (omega arith) in
      search (rules, length-pieces, long_level, le, before, length-append)

  -- the nodes of a level have smaller numbers than those of the levels above
  up_to : (l s : ℕ) → l ≤ s → first_in p (length rows) l + count_in p (length rows) l ≤ first_in p (length rows) (suc s)
  up_to l s le = elim (cases_eq l s) [
    | inl same ↦ subst (λ k. first_in p (length rows) l + count_in p (length rows) l ≤ first_in p (length rows) (suc k)) same (omega arith)
    | inr other ↦ omega (arith, first_up p lawful (length rows) l s (omega arith))
  ]

  -- a node of an earlier level, and one of the last
  earlier : (t level j at : ℕ) → suc t ≤ height_of p (length rows) → level ≤ t → j < count_in p (length rows) level → at + 1 ≡ first_in p (length rows) level + j
      → take (node_size p) (drop (at * node_size p) (words_to p rows (suc t))) ≡ take (node_size p) (drop (at * node_size p) (words_to p rows t))
  earlier t level j at le lt h e =
      let before = length-words_to t (omega arith) in
      let up = up_to level t lt in
      let row : (at + 1 + 1) * node_size p ≤ first_in p (length rows) (suc t) * node_size p = mul-le-mul_right (node_size p) (omega (arith, e, h, up)) in
      let place : at * node_size p + node_size p + node_size p ≡ (at + 1 + 1) * node_size p = grind arith in
      cut_front (node_size p) (at * node_size p) (words_to p rows t) (level_words p rows (suc t)) (omega (arith, before, row, place))

  last : (t j at : ℕ) → suc t ≤ height_of p (length rows) → j < count_in p (length rows) (suc t) → at + 1 ≡ first_in p (length rows) (suc t) + j
      → take (node_size p) (drop (at * node_size p) (words_to p rows (suc t))) ≡ words_at p rows (suc t) j
  last t j at le h e =
      let before = length-words_to t (omega arith) in
      let both : (first_in p (length rows) (suc t) + j) * node_size p ≡ first_in p (length rows) (suc t) * node_size p + j * node_size p = grind arith in
      let step : (at + 1) * node_size p ≡ first_in p (length rows) (suc t) * node_size p + j * node_size p = ap (λ i. i * node_size p) e ∙ both in
      let place : at * node_size p + node_size p ≡ (at + 1) * node_size p = grind arith in
      ap (take (node_size p)) (cut_behind (length (words_to p rows t)) (j * node_size p) (at * node_size p) (words_to p rows t) (level_words p rows (suc t)) refl (omega (arith, before, step, place)))
      ∙ piece_cut (words_at p rows (suc t)) (node_size p) j (count_in p (length rows) (suc t)) h (long_level (suc t) le)

  -- a node's words among those of the levels up to t
  node_cut : (t level j at : ℕ) → t ≤ height_of p (length rows) → level ≤ t → j < count_in p (length rows) level → at + 1 ≡ first_in p (length rows) level + j
      → take (node_size p) (drop (at * node_size p) (words_to p rows t)) ≡ words_at p rows level j
  node_cut zero zero j at le lt h e = search (rules, at, piece_cut, long_level, le)
  node_cut zero (suc level) j at le lt h e = absurd (omega arith)
  node_cut (suc t) level j at le lt h e = elim (cases_eq level (suc t)) [
    | inl same ↦ last t j at le (subst (λ l. j < count_in p (length rows) l) same h) (subst (λ l. at + 1 ≡ first_in p (length rows) l + j) same e) ∙ ap (λ l. words_at p rows l j) (sym same)
    | inr other ↦ (let lt' : level ≤ t = omega arith in earlier t level j at le lt' h e ∙ node_cut t level j at (omega arith) lt' h e)
  ]

  -- node j of a level, by its number
  pub node_at : (level j : ℕ) → level ≤ height_of p (length rows) → j < count_in p (length rows) level → node_part p words (first_in p (length rows) level + j) ≡ words_at p rows level j
  unfolding node_word
  node_at level j le h =
      let at = first_in p (length rows) level + j - 1 in
      let some = first_some p lawful (length rows) level in
      let all = length-words_to (height_of p (length rows)) (omega arith) in
      let one = (height_is p lawful (length rows)).one in
      let zeros : List ℕ = replicate ((nodes p - need_of p (length rows)) * node_size p) 0 in
      let row : (at + 1 + 1) * node_size p ≤ first_in p (length rows) (suc (height_of p (length rows))) * node_size p = mul-le-mul_right (node_size p) (omega (arith, some, h, one, within_need p lawful (length rows) level le)) in
      let place : at * node_size p + node_size p + node_size p ≡ (at + 1 + 1) * node_size p = grind arith in
      ap (take (node_size p)) (cut_behind (first_node_word p) (at * node_size p) (first_node_word p + at * node_size p) (front_words p (need_of p (length rows))) (words_to p rows (height_of p (length rows)) ++ zeros) (length-front p (need_of p (length rows))) refl)
      ∙ (cut_front (node_size p) (at * node_size p) (words_to p rows (height_of p (length rows))) zeros (omega (arith, all, row, place))
      ∙ node_cut (height_of p (length rows)) level j at (omega arith) le h (omega (arith, some)))

  is_node : (level j : ℕ) → level ≤ height_of p (length rows) → j < count_in p (length rows) level → IsNode p (first_in p (length rows) level + j)
  is_node level j le h = record { first = omega (arith, first_some p lawful (length rows) level); last = omega (arith, within_need p lawful (length rows) level le, h, room) }

  low_is : (level j : ℕ) → level ≤ height_of p (length rows) → j < count_in p (length rows) level → low_at p words (first_in p (length rows) level + j) ≡ low_in p rows level j
  low_is level j le h = ap (λ l. slice_index l 2) (node_at level j le h) ∙ word_low p rows level j

  high_is : (level j : ℕ) → level ≤ height_of p (length rows) → j < count_in p (length rows) level → high_at p words (first_in p (length rows) level + j) ≡ high_in p rows level j
  high_is level j le h = ap (λ l. slice_index l 3) (node_at level j le h) ∙ word_high p rows level j

  next_is : (level j : ℕ) → level ≤ height_of p (length rows) → j < count_in p (length rows) level → next_at p words (first_in p (length rows) level + j) ≡ next_in p rows level j
  next_is level j le h = ap (λ l. slice_index l 4) (node_at level j le h) ∙ word_next p rows level j

  -- ---- the chains
  chain_from : (level j k at : ℕ) → level ≤ height_of p (length rows) → j + suc k ≡ count_in p (length rows) level → at ≡ first_in p (length rows) level + j → IsChain p words (low_in p rows level j) (range_with_len at (suc k))
  chain_from level j zero at le e is =
      let last : count_in p (length rows) level ≤ j + 1 = omega arith in
      let here : j < count_in p (length rows) level = omega arith in (
        subst (IsNode p) (sym is) (is_node level j le here),
        ap (low_at p words) is ∙ low_is level j le here,
        ap (next_at p words) is ∙ (next_is level j le here ∙ next_last p rows level j last),
        ap (high_at p words) is ∙ (high_is level j le here ∙ high_last p rows level j last),
      )
  chain_from level j (suc k) at le e is =
      let more : j + 1 < count_in p (length rows) level = omega arith in
      let here : j < count_in p (length rows) level = omega arith in
      let rest = chain_from level (j + 1) k (at + 1) le (omega arith) (omega arith) in
      let high = ap (high_at p words) is ∙ (high_is level j le here ∙ high_more p rows level j more) in (
        subst (IsNode p) (sym is) (is_node level j le here),
        ap (low_at p words) is ∙ low_is level j le here,
        ap (next_at p words) is ∙ (next_is level j le here ∙ (next_more p rows level j more ∙ omega (arith, is))),
        subst (λ low. IsChain p words low (range_with_len (at + 1) (suc k))) (sym high) rest,
      )

  chain_whole : (level : ℕ) → level ≤ height_of p (length rows) → IsChain p words 0 (range_with_len (first_in p (length rows) level) (count_in p (length rows) level))
  chain_whole level le =
      let some = some_node p lawful (length rows) level in
      let many : suc (count_in p (length rows) level - 1) ≡ count_in p (length rows) level = omega (arith, some) in
      let chain = chain_from level 0 (count_in p (length rows) level - 1) (first_in p (length rows) level) le (omega (arith, some)) (omega arith) in
      subst (λ c. IsChain p words 0 (range_with_len (first_in p (length rows) level) c)) many (subst (λ low. IsChain p words low (range_with_len (first_in p (length rows) level) (suc (count_in p (length rows) level - 1)))) (low_first p rows level) chain)

  -- ---- leaves and inner nodes
  leaf_is : (j : ℕ) → j < count_in p (length rows) 0 → leaf_at p words (1 + j) ≡ leaf_of p rows j
  unfolding words_at
  leaf_is j h = ap (leaf_in p) (node_at 0 j (omega arith) h) ∙ leaf_in-leaf_words p (leaf_of p rows j) (leaf_lawful p lawful rows good values room j h).count (values_of p _ _ _ (leaf_lawful p lawful rows good values room j h).entries)

  leaf_good : (k : ℕ) → 1 ≤ k → k < 1 + count_in p (length rows) 0 → IsLeafOf p words k
  unfolding words_at
  leaf_good k some lt =
      let at : 1 + (k - 1) ≡ k = omega arith in
      let h : k - 1 < count_in p (length rows) 0 = omega arith in
      let spelled : Spells p (node_part p words (1 + (k - 1))) (leaf_of p rows (k - 1)) = record { words = node_at 0 (k - 1) (omega arith) h; lawful = leaf_lawful p lawful rows good values room (k - 1) h } in
      subst (IsLeafOf p words) at (record {
        spelled = subst (Spells p (node_part p words (1 + (k - 1)))) (sym (leaf_is (k - 1) h)) spelled;
        once = subst (λ a. HasKeysOnce a.entries) (sym (leaf_is (k - 1) h)) (leaf_once p lawful rows good values room (k - 1) h);
      })

  inner_is : (level j : ℕ) → suc level ≤ height_of p (length rows) → j < count_in p (length rows) (suc level) → inner_at p words (first_in p (length rows) (suc level) + j) ≡ inner_of p rows level j
  unfolding words_at
  inner_is level j le h = ap inner_in (node_at (suc level) j le h) ∙ inner_in-inner_words p (inner_of p rows level j)

  inner_good : (level : ℕ) → suc level ≤ height_of p (length rows) → (k : ℕ) → first_in p (length rows) (suc level) ≤ k → k < first_in p (length rows) (suc level) + count_in p (length rows) (suc level)
      → IsInnerOf p words (suc level) (range_with_len (first_in p (length rows) level) (count_in p (length rows) level)) k
  unfolding words_at
  inner_good level le k ge lt =
      let j = k - first_in p (length rows) (suc level) in
      let at : first_in p (length rows) (suc level) + j ≡ k = omega (arith, ge) in
      let h : j < count_in p (length rows) (suc level) = omega (arith, ge, lt) in
      let is = inner_is level j le h in
      let spelled : SpellsInner p (node_part p words (first_in p (length rows) (suc level) + j)) (inner_of p rows level j) = record { words = node_at (suc level) j le h; lawful = inner_lawful p lawful rows good values room level j (omega arith) h } in
      subst (IsInnerOf p words (suc level) (range_with_len (first_in p (length rows) level) (count_in p (length rows) level))) at (record {
        spelled = subst (SpellsInner p (node_part p words (first_in p (length rows) (suc level) + j))) (sym is) spelled;
        level_is = ap (λ a. a.level) is;
        children = subst (λ a. AllByRecursion (IsChildIn p words (range_with_len (first_in p (length rows) level) (count_in p (length rows) level))) a.pairs) (sym is)
            (from_each _ no_pair (inner_of p rows level j).pairs (λ i i_lt. search (rules, pairs_many, pair_is, in_range, low_is)));
      })

  inners : (level : ℕ) → suc level ≤ height_of p (length rows) → AllByRecursion (IsInnerOf p words (suc level) (range_with_len (first_in p (length rows) level) (count_in p (length rows) level))) (range_with_len (first_in p (length rows) (suc level)) (count_in p (length rows) (suc level)))
  inners level le = all_in_range _ _ _ (inner_good level le)

  are_levels : (level : ℕ) → level ≤ height_of p (length rows) → AreLevels p words (levels_down p rows level)
  are_levels zero le = (chain_whole 0 le, all_in_range (IsLeafOf p words) 1 (count_in p (length rows) 0) leaf_good)
  are_levels (suc zero) le = (chain_whole 1 le, inners 0 le, are_levels zero (omega arith))
  are_levels (suc (suc level)) le = (
    chain_whole (suc (suc level)) le,
    subst (λ l. AllByRecursion (IsInnerOf p words l (range_with_len (first_in p (length rows) (suc level)) (count_in p (length rows) (suc level)))) (range_with_len (first_in p (length rows) (suc (suc level))) (count_in p (length rows) (suc (suc level))))) (sym (many_levels p rows (suc level))) (inners (suc level) le),
    are_levels (suc level) (omega arith),
  )

  -- ---- the rows
  rows_along : (j k : ℕ) → j + k ≡ count_in p (length rows) 0 → flat_map (λ m. pairs_of (leaf_at p words m).entries) (range_with_len (1 + j) k) ≡ map row_pair (drop (j * leaf_fill p) rows)
  rows_along j zero e =
      let past : length rows ≤ j * leaf_fill p = all_covered j (omega arith) in
      sym (ap (map row_pair) (drop_all (j * leaf_fill p) rows past))
    where
      all_covered : (i : ℕ) → i ≡ count_in p (length rows) 0 → length rows ≤ i * leaf_fill p
      all_covered i same =
          let row : div_up (length rows) (leaf_fill p) * leaf_fill p ≤ i * leaf_fill p = mul-le-mul_right (leaf_fill p) (grind arith) in
          omega (arith, row, covers (length rows) (leaf_fill p) (omega (arith, leaf_fill_small p lawful)))
  rows_along j (suc k) e =
      let h : j < count_in p (length rows) 0 = omega arith in
      let xs = drop (j * leaf_fill p) rows in
      let step : j * leaf_fill p + leaf_fill p ≡ (j + 1) * leaf_fill p = grind arith in
      let on : 1 + j + 1 ≡ 1 + (j + 1) = omega arith in
      let first : pairs_of (leaf_at p words (1 + j)).entries ≡ map row_pair (rows_at p rows j) = ap (λ a. pairs_of a.entries) (leaf_is j h) ∙ leaf_rows p lawful rows good values room j h in
      let rest = ap (λ m. flat_map (λ m. pairs_of (leaf_at p words m).entries) (range_with_len m k)) on ∙ rows_along (j + 1) k (omega arith) in
      (λ t. first t ++ rest t)
      ∙ (sym (map-append row_pair (take (leaf_fill p) xs) (drop ((j + 1) * leaf_fill p) rows))
      ∙ ap (map row_pair) (ap (λ l. take (leaf_fill p) xs ++ l) (ap (λ i. drop i rows) (sym step) ∙ sym (drop-drop (leaf_fill p) (j * leaf_fill p) rows)) ∙ take-append-drop (leaf_fill p) xs))

  all_rows : pairs_along p words (leaves_of (levels_down p rows (height_of p (length rows)))) ≡ map row_pair rows
  all_rows =
      let start : 0 * leaf_fill p ≡ 0 = omega arith in
      ap (pairs_along p words) (leaves_are p rows (height_of p (length rows))) ∙ (rows_along 0 (count_in p (length rows) 0) (omega arith) ∙ ap (λ i. map row_pair (drop i rows)) start)

  map_sorted : from_entries (map row_pair rows) ≡ map_of_rows rows
  map_sorted = same_by_keys (from_entries (map row_pair rows)) (map_of_rows rows) (λ q. get-from_entries nat_cmp_total (map row_pair rows) q ∙ sym (get-from_sorted nat_cmp (map row_pair rows) q (are_rising rows good)))

  length-words : length words ≡ pool_words p
  unfolding pool_words
  length-words =
      let all = length-words_to (height_of p (length rows)) (omega arith) in
      let one = (height_is p lawful (length rows)).one in
      let need = need_of p (length rows) in
      let zeros : List ℕ = replicate ((nodes p - need) * node_size p) 0 in
      let step : (need + count_in p (length rows) (height_of p (length rows))) * node_size p ≡ need * node_size p + node_size p = ap (λ c. (need + c) * node_size p) one ∙ grind arith in
      let parts : need * node_size p + (nodes p - need) * node_size p ≡ nodes p * node_size p = two_parts need (nodes p) (node_size p) room in
      omega (arith, all, step, parts, length-front p need, length-replicate {A = ℕ} ((nodes p - need) * node_size p) 0, length-append (words_to p rows (height_of p (length rows))) zeros, length-append (front_words p need) (words_to p rows (height_of p (length rows)) ++ zeros))

  root_is : (top : ℕ) → 1 ≤ count_in p (length rows) top → first_in p (length rows) top ≡ first_of (top_of (levels_down p rows top))
  root_is zero some = named 1 (count_in p (length rows) 0) some
  root_is (suc top) some = named (first_in p (length rows) (suc top)) (count_in p (length rows) (suc top)) some

  root_named : slice_index words 1 ≡ need_of p (length rows)
  unfolding front_words
  root_named = refl

  pub holds : HoldRows p rows (bulk_words p rows)
  unfolding front_words
  holds = search (rules, root_named, root_is, some_node, are_levels, down_apart, all_rows, map_sorted, entries_are, are_rising, length-words, locks_free)

-- so of what is built
pub built_holds : {V E : Type 0} (items : V → List ℕ) (p : ConfigParts) (rows : List Row) (r : Result V E) → IsSetting p → AreGood rows → HaveValues p rows
    → IfOk r (λ w. items w ≡ bulk_words p rows) → IfOk r (λ w. need_of p (length rows) ≤ nodes p) → IfOk r (λ w. HoldRows p rows (items w))
built_holds items p rows (Ok w) lawful good values built room = subst (HoldRows p rows) (sym built) (holds p lawful rows good values room)
built_holds items p rows (Err e) lawful good values built room = tt
