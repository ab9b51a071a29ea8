-- Linear facts about the layout: proofs above cite these and never multiply.
use Rattle.std.proofs.Common.{◌≡◌, ℕ, zero, suc, ◌+◌, ◌-◌, ◌*◌, ◌<◌, ◌≤◌, ◌≢◌, List, [], ◌∷◌, length, get_or, set, take, drop, refl, ap, subst, ◌∙◌, inl, inr, ◌⊎◌, rules, arith}
use Rattle.std.proofs.{Math.Nat.{mul-le-mul_left, mul-le-mul_right}, lemmas.{Nat.{mul-le}, Bool.{cases_lt}}}
use Rattle.std.proofs.lemmas.List.{take-set-le, drop-set-lt, drop-set-add, length-drop, length-take-le, get_or-take, get_or-drop}
use Rattle.sh_base.specs.{declared.config.ConfigParts.{ConfigParts}, Setting.{nodes, entry_size, node_size, first_node_word, pool_words, IsNode, IsRanged, IsSetting, default_parts}}
use Rattle.sh_base.specs.{Layout.{node_word, entry_at, rear_at, node_part, entry_part}, Places.{IsInEntry}}

-- a store among the first n words
pub take_set_in : {X : Type 0} → (n : ℕ) (xs : List X) (i : ℕ) (y : X) → i < n → take n (set xs i y) ≡ set (take n xs) i y
take_set_in zero xs i y h = absurd (omega arith)
take_set_in (suc n) [] i y h = refl
take_set_in (suc n) (x ∷ xs) zero y h = refl
take_set_in (suc n) (x ∷ xs) (suc i) y h = ap (λ l. x ∷ l) (take_set_in n xs i y (omega arith))

-- a store outside a range of words leaves the range
pub range_outside : (words : List ℕ) (start size at word : ℕ) → (at < start) ⊎ (start + size ≤ at) → take size (drop start (set words at word)) ≡ take size (drop start words)
range_outside words start size at word (inl before) = ap (take size) (drop-set-lt start words at word before)
range_outside words start size at word (inr behind) =
    let e : at ≡ start + (at - start) = omega arith in
    rw e (ap (take size) (drop-set-add start words (at - start) word) ∙ take-set-le size (drop start words) (at - start) word (omega arith))

-- a store into a range is the same store in the range
pub range_inside : (words : List ℕ) (start size offset word : ℕ) → offset < size → take size (drop start (set words (start + offset) word)) ≡ set (take size (drop start words)) offset word
range_inside words start size offset word below = ap (take size) (drop-set-add start words offset word) ∙ take_set_in size (drop start words) offset word below

module _ (p : ConfigParts) where
  -- nodes begin behind the locks
  pub node_word_low : (n : ℕ) → first_node_word p ≤ node_word p n
  unfolding node_word
  node_word_low n = omega arith

  -- a node's words lie in the pool
  pub node_word_high : (n : ℕ) → IsNode p n → node_word p n + node_size p ≤ pool_words p
  unfolding node_word pool_words
  node_word_high n h =
      let row : (n - 1 + 1) * node_size p ≤ nodes p * node_size p = mul-le-mul_right (node_size p) (omega (arith, h.first, h.last)) in
      omega arith

  -- a node's words end before those of a later node
  pub node_word_apart : (n m : ℕ) → 1 ≤ n → n < m → node_word p n + node_size p ≤ node_word p m
  unfolding node_word
  node_word_apart n m low lt =
      let row : (n - 1 + 1) * node_size p ≤ (m - 1) * node_size p = mul-le-mul_right (node_size p) (omega arith) in
      omega arith

  pub entry_size_is : entry_size p ≡ 3 + p.value_words
  unfolding entry_size
  entry_size_is = refl

  pub node_size_is : node_size p ≡ rear_at p + 1
  unfolding node_size rear_at
  node_size_is = omega arith

  pub node_size_by_words : node_size p ≡ 7 + (3 + p.value_words) * p.leaf
  unfolding node_size entry_size
  node_size_by_words = refl

  pub entry_at_by_words : (i : ℕ) → entry_at p i ≡ 6 + (3 + p.value_words) * i
  unfolding entry_at entry_size
  entry_at_by_words i = refl

  -- the entries stand one behind the other, between the header and the rear version
  pub entry_at_first : entry_at p 0 ≡ 6
  unfolding entry_at
  entry_at_first = omega arith

  pub entry_at_more : (i : ℕ) → entry_at p (i + 1) ≡ entry_at p i + entry_size p
  unfolding entry_at
  entry_at_more i = omega arith

  pub entry_at_last : entry_at p p.leaf ≡ rear_at p
  unfolding entry_at rear_at
  entry_at_last = refl

  pub rear_at_low : 6 ≤ rear_at p
  unfolding rear_at
  rear_at_low = omega arith

  pub entry_low : (i : ℕ) → 6 ≤ entry_at p i
  unfolding entry_at
  entry_low i = omega arith

  -- an entry ends before the rear version
  pub entry_high : (i : ℕ) → i < p.leaf → entry_at p i + entry_size p ≤ rear_at p
  unfolding entry_at rear_at
  entry_high i h =
      let row : entry_size p * (i + 1) ≤ entry_size p * p.leaf = mul-le-mul_left (entry_size p) (omega arith) in
      omega arith

  -- so its words lie in a node's
  pub entry_within : (i : ℕ) → i < p.leaf → entry_at p i + (2 + p.value_words) < rear_at p
  entry_within i h = omega (arith, entry_high i h, entry_size_is)

  -- and before a later entry
  pub entry_apart : (i j : ℕ) → i < j → entry_at p i + entry_size p ≤ entry_at p j
  unfolding entry_at
  entry_apart i j h =
      let row : entry_size p * (i + 1) ≤ entry_size p * j = mul-le-mul_left (entry_size p) (omega arith) in
      omega arith

  -- a store outside a node leaves the node's words
  pub part_outside : (words : List ℕ) (n at word : ℕ) → (at < node_word p n) ⊎ (node_word p n + node_size p ≤ at) → node_part p (set words at word) n ≡ node_part p words n
  part_outside words n at word h = range_outside words (node_word p n) (node_size p) at word h

  -- a store into another node
  pub part_other_node : (words : List ℕ) (n m offset word : ℕ) → 1 ≤ n → 1 ≤ m → n ≢ m → offset < node_size p → node_part p (set words (node_word p m + offset) word) n ≡ node_part p words n
  part_other_node words n m offset word low low' differ below =
      part_outside words n _ word (elim (cases_lt n m) [
        | inl lt ↦ inr (omega (arith, node_word_apart n m low lt))
        | inr le ↦ inl (omega (arith, node_word_apart m n low' (omega arith)))
      ])

  -- a store below the nodes: into the root word, a counter or a lock word
  pub part_below : (words : List ℕ) (n at word : ℕ) → at < first_node_word p → node_part p (set words at word) n ≡ node_part p words n
  part_below words n at word below = part_outside words n at word (inl (omega (arith, node_word_low n)))

  -- a store into the node itself is the same store into its words
  pub part_same_node : (words : List ℕ) (n offset word : ℕ) → offset < node_size p → node_part p (set words (node_word p n + offset) word) n ≡ set (node_part p words n) offset word
  part_same_node words n offset word below = range_inside words (node_word p n) (node_size p) offset word below

  -- a word of a node, by its offset
  pub part_word : (words : List ℕ) (n offset : ℕ) → offset < node_size p → get_or (node_part p words n) offset 0 ≡ get_or words (node_word p n + offset) 0
  part_word words n offset below = get_or-take (node_size p) (drop (node_word p n) words) offset 0 below ∙ get_or-drop (node_word p n) words offset 0

  pub length_part : (words : List ℕ) (n : ℕ) → IsNode p n → pool_words p ≤ length words → length (node_part p words n) ≡ node_size p
  length_part words n h long = length-take-le (node_size p) (drop (node_word p n) words) (simp length-drop (omega (arith, node_word_high n h)))

  -- a store into another entry, and into the entry itself
  pub entry_other : (part : List ℕ) (i j offset word : ℕ) → IsInEntry p i offset → j ≢ i → entry_part p (set part offset word) j ≡ entry_part p part j
  entry_other part i j offset word h differ =
      range_outside part (entry_at p j) (entry_size p) offset word (elim (cases_lt i j) [
        | inl lt ↦ inl (omega (arith, h.below, entry_apart i j lt))
        | inr le ↦ inr (omega (arith, h.from, entry_apart j i (omega arith)))
      ])

  pub entry_own : (part : List ℕ) (i offset word : ℕ) → IsInEntry p i offset → entry_part p (set part offset word) i ≡ set (entry_part p part i) (offset - entry_at p i) word
  entry_own part i offset word h =
      let e : entry_at p i + (offset - entry_at p i) ≡ offset = omega (arith, h.from) in
      subst (λ (o : ℕ). entry_part p (set part o word) i ≡ set (entry_part p part i) (offset - entry_at p i) word) e (range_inside part (entry_at p i) (entry_size p) (offset - entry_at p i) word (omega (arith, h.from, h.below)))

  -- a store into the header, and at the rear version
  pub entry_header : (part : List ℕ) (i offset word : ℕ) → offset < 6 → entry_part p (set part offset word) i ≡ entry_part p part i
  entry_header part i offset word h = range_outside part (entry_at p i) (entry_size p) offset word (inl (omega (arith, entry_low i)))

  pub entry_rear : (part : List ℕ) (i word : ℕ) → i < p.leaf → entry_part p (set part (rear_at p) word) i ≡ entry_part p part i
  entry_rear part i word h = range_outside part (entry_at p i) (entry_size p) (rear_at p) word (inr (entry_high i h))

module _ (p : ConfigParts) (lawful : IsSetting p) where
  -- what the code's products come to
  pub entry_size_small : entry_size p ≤ 11
  unfolding entry_size
  entry_size_small = omega (arith, lawful.ranged.value_words)

  pub entries_small : entry_size p * p.leaf ≤ 704
  entries_small = mul-le (entry_size p) p.leaf 11 64 entry_size_small lawful.ranged.leaf.1

  pub node_row_small : (n : ℕ) → IsNode p n → first_node_word p + (n - 1) * node_size p < 4194304
  unfolding node_word
  node_row_small n h = omega (arith, node_word_high p n h, lawful.size, node_size_is p)

  pub rear_at_small : rear_at p ≤ 710
  unfolding rear_at
  rear_at_small = omega (arith, entries_small)

  pub entry_product_small : (i : ℕ) → i < p.leaf → entry_size p * i ≤ 704
  entry_product_small i h = mul-le (entry_size p) i 11 64 entry_size_small (omega (arith, lawful.ranged.leaf.1))

  pub nodes_small : (p.servers * p.chunks ≤ 32768) × (nodes p ≤ 8388608)
  nodes_small = search (rules, mul-le)

-- the words of any numbers in their ranges are few enough to count
pub words_small : (p : ConfigParts) → IsRanged p → ((3 + p.value_words) * p.leaf ≤ 704) × (nodes p * (7 + (3 + p.value_words) * p.leaf) ≤ 5964300288) × (p.servers * p.locks ≤ 8192)
words_small p r =
    let chunks : p.servers * p.chunks ≤ 32768 = mul-le p.servers p.chunks 8 4096 r.servers.1 r.chunks.1 in
    let all : nodes p ≤ 8388608 = mul-le (p.servers * p.chunks) p.chunk_nodes 32768 256 chunks r.chunk_nodes.1 in
    let entries : (3 + p.value_words) * p.leaf ≤ 704 = mul-le (3 + p.value_words) p.leaf 11 64 (omega (arith, r.value_words.1)) r.leaf.1 in
    (entries, mul-le (nodes p) (7 + (3 + p.value_words) * p.leaf) 8388608 711 all (omega (arith, entries)), mul-le p.servers p.locks 8 1024 r.servers.1 r.locks.1)

-- the defaults are lawful
pub default_is_setting : IsSetting default_parts
unfolding pool_words node_size entry_size
default_is_setting = search rules
