-- What the code's places and products come to.
use Rattle.std.proofs.Common.{rules, ◌≡◌, ℕ, zero, suc, ◌+◌, ◌-◌, ◌*◌, ◌<◌, ◌≤◌, List, [], ◌∷◌, ◌++◌, length, get_or, set, take, drop, map, replicate, refl, sym, ap, ◌∙◌, inl, inr, append_assoc, arith}
use Rattle.std.{specs.{Prelude.{◌/◌, min}, List.{range_with_len, flat_map}}, proofs.{Math.Nat.{mul-le-mul_left, mul-le-mul_right}, lemmas.Nat.{div-add-mod', div-mul-add}}}
use Rattle.std.proofs.lemmas.Bool.{cases_eq, cases_lt}
use Rattle.std.proofs.lemmas.List.{length-map, length-replicate, length-take, length-drop, drop_all, drop-drop, drop-set-lt, drop-replicate, take_min, replicate_more, replicate-append-replicate}
use Rattle.std.proofs.lemmas.List.{Concat.{flat_map-append}, FromFn.{map-range_with_len_more, get_or-map-range_with_len, length-map-range_with_len}}
use Rattle.sh_logic.proofs.Lists.{all_drop, all_take}
use Rattle.sh_base.{specs.{declared.config.ConfigParts.{ConfigParts}, Setting.{entry_size, node_size, nodes, IsSetting}, Layout.{entry_at, rear_at}}, proofs.LayoutLemmas.{nodes_small}}
use Rattle.sh_map.specs.{declared.book.Row.{Row}, Map.{row_pair}}
use Rattle.sh_image.{specs.{Entries.{entry_words}, Inner.{no_pair}, Leaf.{empty_entry, HaveWords}}, proofs.{LeafLemmas.{length-leaf_words}, WriteLemmas.{word_more}}}
use Rattle.sh_edit.{specs.Splitting.{entry_with}, proofs.HalvesLemmas.{length-entries_from}}
use Rattle.sh_bulk.specs.{Shape.{count_in, inner_fill, leaf_fill, need_of}, Levels.{IsLevel, IsStretch}, Nodes.{inner_of, leaf_of, pair_to, rows_at, taken_by, words_at, HaveValues}}
use Rattle.sh_bulk.{specs.declared.inner.Level.{Level}, proofs.ShapeLemmas.{among, child_begins, first_above, inner_fill_small, leaf_begins, leaf_fill_small, two_parts, within_need}}

-- ---- leaves
module _ (p : ConfigParts) where
  -- entries end before the rear version
  pub entries_end : (n : ℕ) → n ≤ p.leaf → entry_at p n ≤ rear_at p
  unfolding entry_at rear_at
  entries_end n le = let row : entry_size p * n ≤ entry_size p * p.leaf = mul-le-mul_left (entry_size p) le in omega arith

  zeros_of : (m : ℕ) → flat_map entry_words (replicate m (empty_entry p)) ≡ replicate (entry_size p * m) 0
  unfolding entry_size
  zeros_of zero = (let none : 0 ≡ (3 + p.value_words) * 0 = omega arith in ap (λ k. replicate k 0) none)
  zeros_of (suc m) =
      let V = p.value_words in
      let one : replicate {A = ℕ} V 0 ++ 0 ∷ [] ≡ replicate (V + 1) 0 = replicate_more V 0 in
      let size : suc (suc (V + 1 + (3 + V) * m)) ≡ (3 + V) * suc m = grind arith in
      ap (λ l. 0 ∷ 0 ∷ ((replicate V 0 ++ 0 ∷ []) ++ l)) (zeros_of m)
      ∙ (ap (λ l. 0 ∷ 0 ∷ (l ++ replicate ((3 + V) * m) 0)) one
      ∙ (ap (λ l. 0 ∷ 0 ∷ l) (replicate-append-replicate (V + 1) ((3 + V) * m) 0)
      ∙ ap (λ k. replicate k 0) size))

  -- the words of a leaf, where those behind its entries are 0
  pub leaf_written : (front taken zs : List ℕ) (xs : List (ℕ × List ℕ)) (end : ℕ) → end ≡ entry_at p (length xs) → length xs ≤ p.leaf
      → taken ≡ front ++ flat_map entry_words (map entry_with xs) → zs ≡ replicate (node_size p - end) 0
      → taken ++ zs ≡ front ++ (flat_map entry_words (map entry_with xs ++ replicate (p.leaf - length xs) (empty_entry p)) ++ 0 ∷ [])
  unfolding entry_at node_size
  leaf_written front taken zs xs end at le is blank =
      let m = p.leaf - length xs in
      let fm = flat_map entry_words (map entry_with xs) in
      let product : entry_size p * length xs + entry_size p * m ≡ entry_size p * p.leaf = (let whole : length xs + m ≡ p.leaf = omega arith in (let both : entry_size p * length xs + entry_size p * m ≡ entry_size p * (length xs + m) = grind arith in both ∙ ap (λ k. entry_size p * k) whole)) in
      let size : node_size p - end ≡ entry_size p * m + 1 = omega (arith, at, product) in
      let behind : flat_map entry_words (replicate m (empty_entry p)) ++ 0 ∷ [] ≡ zs = ap (λ l. l ++ 0 ∷ []) (zeros_of m) ∙ (replicate_more (entry_size p * m) 0 ∙ (ap (λ k. replicate k 0) (sym size) ∙ sym blank)) in
      ap (λ l. l ++ zs) is
      ∙ (append_assoc front fm zs
      ∙ ap (λ l. front ++ l) (ap (λ l. fm ++ l) (sym behind)
      ∙ (sym (append_assoc fm (flat_map entry_words (replicate m (empty_entry p))) (0 ∷ []))
      ∙ ap (λ l. l ++ 0 ∷ []) (sym (flat_map-append entry_words (map entry_with xs) (replicate m (empty_entry p)))))))

  have_words : (rows : List Row) (m : ℕ) → HaveValues p rows → HaveWords p (map entry_with (map row_pair rows) ++ replicate m (empty_entry p))
  have_words [] zero h = tt
  have_words [] (suc m) h = (length-replicate {A = ℕ} p.value_words 0, have_words [] m h)
  have_words (r ∷ rows) m h = (h.0, have_words rows m h.1)

  -- a leaf has as many words as a node
  pub leaf_long : IsSetting p → (rows : List Row) (j : ℕ) → HaveValues p rows → length (words_at p rows 0 j) ≡ node_size p
  unfolding words_at
  leaf_long lawful rows j h =
      let few : length (map row_pair (rows_at p rows j)) ≤ p.leaf = omega (arith, length-map (rows_at p rows j) row_pair, length-take (leaf_fill p) (drop (j * leaf_fill p) rows), leaf_fill_small p lawful) in
      length-leaf_words p (leaf_of p rows j) (length-entries_from p.leaf (empty_entry p) (map row_pair (rows_at p rows j)) few) (have_words (rows_at p rows j) _ (all_take _ (leaf_fill p) _ (all_drop _ (j * leaf_fill p) rows h)))

  -- where a leaf begins, and where the next one does
  pub leaf_from : IsSetting p → (n j : ℕ) → j < count_in p n 0 → j * leaf_fill p ≤ n
  leaf_from lawful n j h = elim (cases_eq j 0) [
    | inl first ↦ (let none : j * leaf_fill p ≡ 0 = ap (λ k. k * leaf_fill p) first ∙ omega arith in omega (arith, none))
    | inr other ↦ omega (arith, leaf_begins p lawful n j h other)
  ]

  pub leaf_next : IsSetting p → (n j to : ℕ) → j < count_in p n 0 → to ≡ min (j * leaf_fill p + leaf_fill p) n → to < n → (to ≡ (j + 1) * leaf_fill p) × (j + 1 < count_in p n 0)
  leaf_next lawful n j to h is lt = search (rules, among, leaf_fill_small)

  pub leaf_last : IsSetting p → (n j to : ℕ) → j < count_in p n 0 → to ≡ min (j * leaf_fill p + leaf_fill p) n → n ≤ to → count_in p n 0 ≤ j + 1
  leaf_last lawful n j to h is le = search (rules, cases_lt, leaf_begins)

  -- the rows from a leaf's first up to the next leaf's first
  pub rows_cut : (rows : List Row) (j from to : ℕ) → from ≡ j * leaf_fill p → from ≤ length rows → to ≡ min (from + leaf_fill p) (length rows) → take (to - from) (drop from rows) ≡ rows_at p rows j
  rows_cut rows j from to at le is =
      let xs = drop from rows in
      let size : to - from ≡ min (leaf_fill p) (length xs) = (let long = length-drop from rows in omega (arith, is, le, long)) in
      ap (λ k. take k xs) size ∙ (take_min (leaf_fill p) xs ∙ ap (λ k. take (leaf_fill p) (drop k rows)) at)

-- nothing stands behind a whole list
pub none_behind : (n : ℕ) (xs : List ℕ) → n ≤ length xs → drop (length xs - n) (drop n xs) ≡ []
none_behind n xs le = drop_all (length xs - n) (drop n xs) (omega (arith, length-drop n xs))

-- ---- inner nodes
module _ (p : ConfigParts) (rows : List Row) (level j : ℕ) where
  pub pairs_many : length (inner_of p rows level j).pairs ≡ taken_by p rows level j
  pairs_many = length-map-range_with_len (pair_to p rows level) (j * inner_fill p) (taken_by p rows level j)

  pub pair_is : (i : ℕ) → i < taken_by p rows level j → get_or (inner_of p rows level j).pairs i no_pair ≡ pair_to p rows level (j * inner_fill p + i)
  pair_is i h = get_or-map-range_with_len (pair_to p rows level) (j * inner_fill p) (taken_by p rows level j) i (j * inner_fill p + i) no_pair h refl

-- ---- a worker's stretch
pub record IsRun (leaves w start len : ℕ) : Type 0 where
  pub start_is : start ≡ start / w * w
  pub len_is : len ≡ len / w * w
  pub within : start / w + len / w ≤ leaves

whole_parts : (a w n : ℕ) → 0 < w → n ≡ a * w → n / w ≡ a
whole_parts a w n pos is = (let none : n ≡ a * w + 0 = omega (arith, is) in ap (λ k. k / w) none ∙ div-mul-add a w 0 pos)

pub run_of : (p : ConfigParts) (n share start len : ℕ) → 0 < node_size p → IsStretch p n share start len → IsRun (count_in p n 0) (node_size p) start len
run_of p n share start len pos s = go (start / (share * node_size p) * share) refl
  where
    w : ℕ
    w = node_size p

    go : (a : ℕ) → a ≡ start / (share * node_size p) * share → IsRun (count_in p n 0) (node_size p) start len
    go a a_is =
        let parts = div-add-mod' start (share * node_size p) in
        let regroup : start / (share * node_size p) * (share * node_size p) ≡ start / (share * node_size p) * share * node_size p = grind arith in
        let at : start ≡ a * node_size p = omega (arith, parts, s.start_is, regroup, ap (λ k. k * node_size p) a_is) in
        let below : a < count_in p n 0 = elim (cases_lt a (count_in p n 0)) [
          | inl lt ↦ lt
          | inr ge ↦ (let row : count_in p n 0 * node_size p ≤ a * node_size p = mul-le-mul_right (node_size p) ge in absurd (omega (arith, row, at, s.within)))
        ] in
        let rest : count_in p n 0 * node_size p - start ≡ (count_in p n 0 - a) * node_size p = omega (arith, at, two_parts a (count_in p n 0) (node_size p) (omega (arith, below))) in
        let many : len ≡ min share (count_in p n 0 - a) * node_size p = elim (cases_lt share (count_in p n 0 - a)) [
          | inl lt ↦ (let row : share * node_size p ≤ (count_in p n 0 - a) * node_size p = mul-le-mul_right (node_size p) (omega arith) in (let least : min share (count_in p n 0 - a) ≡ share = omega arith in omega (arith, s.len_is, rest, row) ∙ ap (λ k. k * node_size p) (sym least)))
          | inr ge ↦ (let row : (count_in p n 0 - a) * node_size p ≤ share * node_size p = mul-le-mul_right (node_size p) ge in (let least : min share (count_in p n 0 - a) ≡ count_in p n 0 - a = omega arith in omega (arith, s.len_is, rest, row) ∙ ap (λ k. k * node_size p) (sym least)))
        ] in
        let first = whole_parts a (node_size p) start pos at in
        let count = whole_parts (min share (count_in p n 0 - a)) (node_size p) len pos many in
        record {
          start_is = at ∙ ap (λ k. k * node_size p) (sym first);
          len_is = many ∙ ap (λ k. k * node_size p) (sym count);
          within = omega (arith, first, count, below);
        }

-- what the code's numbers come to at node j of the level above, where each takes as many nodes as `fill`
pub record IsOver (p : ConfigParts) (l : Level) (j fill : ℕ) : Type 0 where
  pub starts : j * fill < l.count
  pub ends : l.first + l.count + j ≤ nodes p
  pub number : l.number + 1 < l.first + l.count
  pub few : nodes p ≤ 8388608

pub over : (p : ConfigParts) (n : ℕ) (l : Level) (j fill : ℕ) → IsSetting p → need_of p n ≤ nodes p → IsLevel p n l → j < count_in p n (suc l.number) → fill ≡ inner_fill p → IsOver p l j fill
over p n l j fill lawful room is h wide = record {
  starts = omega (arith, child_begins p lawful n l.number j h, ap (λ f. j * f) wide, is.count_is);
  ends = omega (arith, within_need p lawful n (suc l.number) (omega (arith, is.below)), is.first_is, is.count_is, room, h);
  number = omega (arith, first_above p lawful n (suc l.number), is.first_is, is.count_is);
  few = (nodes_small p lawful).1;
}

-- where the next inner node begins, and where the level ends
module _ (p : ConfigParts) (lawful : IsSetting p) (rows : List Row) (level j to : ℕ) where
  pub inner_next : to ≡ j * inner_fill p + taken_by p rows level j → to < count_in p (length rows) level → (to ≡ (j + 1) * inner_fill p) × (j + 1 < count_in p (length rows) (suc level))
  inner_next is lt = search (rules, among, inner_fill_small)

  pub inner_last : j < count_in p (length rows) (suc level) → to ≡ j * inner_fill p + taken_by p rows level j → count_in p (length rows) level ≤ to → count_in p (length rows) (suc level) ≤ j + 1
  inner_last h is le = search (rules, cases_lt, child_begins)

-- one counter more
pub counter_more : (f : ℕ → ℕ) (need size server word : ℕ) (out : List ℕ) → word ≡ f server → 2 + server < size
    → (take (2 + server) out ≡ 0 ∷ need ∷ map f (range_with_len 0 server)) × (drop (2 + server) out ≡ replicate (size - (2 + server)) 0)
    → (take (2 + (server + 1)) (set out (2 + server) word) ≡ 0 ∷ need ∷ map f (range_with_len 0 (server + 1))) × (drop (2 + (server + 1)) (set out (2 + server) word) ≡ replicate (size - (2 + (server + 1))) 0)
counter_more f need size server word out is lt was =
    let n = 2 + server in
    let next : 2 + (server + 1) ≡ n + 1 = omega arith in
    let long : length (drop n out) ≡ size - n = ap length was.1 ∙ length-replicate {A = ℕ} (size - n) 0 in
    let inside : n < length out = omega (arith, long, length-drop n out) in
    let start : 0 + server ≡ server = omega arith in
    let rest : size - n - 1 ≡ size - (n + 1) = omega arith in (
      ap (λ k. take k (set out n word)) next ∙ (word_more out n word inside ∙ ((λ t. was.0 t ++ is t ∷ []) ∙ ap (λ l. 0 ∷ need ∷ l) (sym (map-range_with_len_more f 0 server server start)))),
      ap (λ k. drop k (set out n word)) next ∙ (drop-set-lt (n + 1) out n word (omega arith) ∙ (sym (drop-drop 1 n out) ∙ (ap (drop 1) was.1 ∙ (drop-replicate 1 (size - n) 0 ∙ ((λ t. replicate (rest t) 0) ∙ ap (λ k. replicate (size - k) 0) (sym next)))))),
    )
