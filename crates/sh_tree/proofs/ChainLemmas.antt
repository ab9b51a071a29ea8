-- What a tree's levels are like: their nodes rise, and each node's children are some of the level below.
use Rattle.std.proofs.Common.{rules, ◌≡◌, ℕ, zero, suc, ◌+◌, ◌<◌, ◌≤◌, Bool, true, false, List, [], ◌∷◌, ◌++◌, length, get_or, map, drop, refl, sym, ap, subst, ◌∙◌, inl, inr, length-append, arith}
use Rattle.std.{specs.List.{concat, AllByRecursion}, proofs.lemmas.List.{get_or-drop}}
use Rattle.sh_logic.proofs.Lists.{all_join}
use Rattle.sh_base.specs.{declared.config.ConfigParts.{ConfigParts}, Setting.{nodes, IsNode}, Layout.{node_part}}
use Rattle.sh_image.specs.{declared.inner.{Pair.{Pair}, Image.{Image, TheVariants.{Leaf as LeafImage, Inner as InnerImage}}}, Inner.{pairs_in, separator_at}}
use Rattle.sh_image.proofs.{InnerLemmas.{inner_spelled, inner_spelled_one}, LeafLemmas.{spelled_one}}
use Rattle.sh_tree.specs.{Lists.{first_of, is_in, AreDifferent}, Nodes.{NodeIn, inner_at, low_at, high_at, next_at}}
use Rattle.sh_tree.{specs.Tree.{IsChain, IsLeafOf, IsChildIn, IsInnerOf, AreLevels, top_of, leaves_of, IsTree, children_of}, proofs.ListLemmas.{in_cases, in_head, in_front, few_nodes}}

-- a node's words spell one image
pub nodes_are_one : (p : ConfigParts) (words : List ℕ) (n : ℕ) (a b : Image) → NodeIn p words n a → NodeIn p words n b → a ≡ b
nodes_are_one p words n (LeafImage a) (LeafImage b) h k = ap LeafImage (sym (spelled_one p (node_part p words n) a h) ∙ spelled_one p (node_part p words n) b k)
nodes_are_one p words n (LeafImage a) (InnerImage b) h k = absurd (omega (arith, ap (λ l. get_or l 1 0) h.words, (inner_spelled p (node_part p words n) b k).3))
nodes_are_one p words n (InnerImage a) (LeafImage b) h k = absurd (omega (arith, ap (λ l. get_or l 1 0) k.words, (inner_spelled p (node_part p words n) a h).3))
nodes_are_one p words n (InnerImage a) (InnerImage b) h k = ap InnerImage (sym (inner_spelled_one p (node_part p words n) a h) ∙ inner_spelled_one p (node_part p words n) b k)

module _ (p : ConfigParts) (words : List ℕ) where
  -- ---- a node of a level
  abbrev pub IsFenced : ℕ → Type 0
  IsFenced n = low_at p words n < high_at p words n

  pub leaf_level : (n : ℕ) → IsLeafOf p words n → get_or (node_part p words n) 1 0 ≡ 0
  leaf_level n h = ap (λ l. get_or l 1 0) h.spelled.words

  pub inner_level : (level : ℕ) (below : List ℕ) (n : ℕ) → IsInnerOf p words level below n → 1 ≤ get_or (node_part p words n) 1 0
  inner_level level below n h = (inner_spelled p (node_part p words n) (inner_at p words n) h.spelled).3

  pub leaves_fenced : (ns : List ℕ) → AllByRecursion (IsLeafOf p words) ns → AllByRecursion IsFenced ns
  leaves_fenced [] h = tt
  leaves_fenced (n ∷ ns) h = (h.0.spelled.lawful.fences, leaves_fenced ns h.1)

  pub inners_fenced : (level : ℕ) (below ns : List ℕ) → AllByRecursion (IsInnerOf p words level below) ns → AllByRecursion IsFenced ns
  inners_fenced level below [] h = tt
  inners_fenced level below (n ∷ ns) h = (h.0.spelled.lawful.fences, inners_fenced level below ns h.1)

  -- ---- chains
  pub chain_nodes : (low : ℕ) (ns : List ℕ) → IsChain p words low ns → AllByRecursion (IsNode p) ns
  chain_nodes low [] h = tt
  chain_nodes low (n ∷ ns) h = (h.0, chain_nodes (high_at p words n) ns h.3)

  -- its nodes begin at the low fence or behind
  pub chain_low : (low : ℕ) (ns : List ℕ) (m : ℕ) → IsChain p words low ns → AllByRecursion IsFenced ns → is_in ns m ≡ true → low ≤ low_at p words m
  chain_low low [] m h f among = absurd (cc)
  chain_low low (n ∷ ns) m h f among = elim (in_cases n m ns among) [
    | inl e ↦ omega (arith, h.1, ap (low_at p words) e)
    | inr rest ↦ omega (arith, h.1, f.0, chain_low (high_at p words n) ns m h.3 f.1 rest)
  ]

  -- and the first alone begins there
  pub first_by_low : (low : ℕ) (ns : List ℕ) (m : ℕ) → IsChain p words low ns → AllByRecursion IsFenced ns → is_in ns m ≡ true → low_at p words m ≡ low → m ≡ first_of ns
  first_by_low low ns m h f among here = search (rules, in_cases, chain_low)

  -- a chain is known by its first node
  pub chains_are_one : (low other : ℕ) (ns ms : List ℕ) → IsChain p words low ns → IsChain p words other ms → first_of ns ≡ first_of ms → ns ≡ ms
  chains_are_one low other [] [] h k same = refl
  chains_are_one low other [] (m ∷ ms) h k same = absurd (omega (arith, same, k.0.first))
  chains_are_one low other (n ∷ ns) [] h k same = absurd (omega (arith, same, h.0.first))
  chains_are_one low other (n ∷ ns) (m ∷ ms) h k same =
      let rest : first_of ns ≡ first_of ms = sym h.2 ∙ ap (next_at p words) same ∙ k.2 in
      λ t. same t ∷ chains_are_one (high_at p words n) (high_at p words m) ns ms h.3 k.3 rest t

  -- ---- numbers whose nodes begin at rising keys
  abbrev pub AreRising : ℕ → List ℕ → Type 0
  AreRising low [] = Unit {0}
  AreRising low (n ∷ ns) = (low ≤ low_at p words n) × AreRising (low_at p words n + 1) ns

  rising_low : (low : ℕ) (ns : List ℕ) (m : ℕ) → AreRising low ns → is_in ns m ≡ true → low ≤ low_at p words m
  rising_low low [] m h among = absurd (cc)
  rising_low low (n ∷ ns) m h among = elim (in_cases n m ns among) [
    | inl e ↦ omega (arith, h.0, ap (low_at p words) e)
    | inr rest ↦ omega (arith, h.0, rising_low (low_at p words n + 1) ns m h.1 rest)
  ]

  rising_new : (n : ℕ) (ns : List ℕ) (b : Bool) → is_in ns n ≡ b → AreRising (low_at p words n + 1) ns → b ≡ false
  rising_new n ns b is h = search (rules, rising_low)

  pub rising_differ : (low : ℕ) (ns : List ℕ) → AreRising low ns → AreDifferent ns
  rising_differ low [] h = tt
  rising_differ low (n ∷ ns) h = (rising_new n ns (is_in ns n) refl h.1, rising_differ (low_at p words n + 1) ns h.1)

  rising_from : (low high : ℕ) (ns : List ℕ) → low ≤ high → AreRising high ns → AreRising low ns
  rising_from low high [] le h = tt
  rising_from low high (n ∷ ns) le h = (omega (arith, h.0), h.1)

  rising_join : (low high : ℕ) (ns ms : List ℕ) → low ≤ high → AreRising low ns → AllByRecursion (λ n. low_at p words n < high) ns → AreRising high ms → AreRising low (ns ++ ms)
  rising_join low high [] ms le h below k = rising_from low high ms le k
  rising_join low high (n ∷ ns) ms le h below k = (h.0, rising_join (low_at p words n + 1) high ns ms (omega (arith, below.0)) h.1 below.1 k)

  -- ---- children
  abbrev named_by : List Pair → List ℕ
  named_by pairs = map (λ x. x.child) pairs

  pairs_rise : (low : ℕ) (below : List ℕ) (xs : List Pair) → (0 < length xs → low ≤ separator_at xs 0) → ((i : ℕ) → i + 1 < length xs → separator_at xs i < separator_at xs (i + 1)) → AllByRecursion (IsChildIn p words below) xs → AreRising low (named_by xs)
  pairs_rise low below [] first rise h = tt
  pairs_rise low below (x ∷ xs) first rise h =
      let begins : low ≤ x.separator = first (omega arith) in
      (omega (arith, begins, h.0.low), pairs_rise (low_at p words x.child + 1) below xs (λ some. omega (arith, rise 0 (omega (arith, some)), h.0.low)) (λ i lt. let e : suc i + 1 ≡ suc (i + 1) = omega arith in subst (λ j. separator_at (x ∷ xs) (suc i) < separator_at (x ∷ xs) j) e (rise (suc i) (omega (arith, lt)))) h.1)

  pairs_below : (high : ℕ) (below : List ℕ) (xs : List Pair) → ((i : ℕ) → i < length xs → separator_at xs i < high) → AllByRecursion (IsChildIn p words below) xs → AllByRecursion (λ n. low_at p words n < high) (named_by xs)
  pairs_below high below [] h k = tt
  pairs_below high below (x ∷ xs) h k = (omega (arith, h 0 (omega arith), k.0.low), pairs_below high below xs (λ i lt. h (suc i) (omega (arith, lt))) k.1)

  pub children_rise : (low level : ℕ) (below ns : List ℕ) → IsChain p words low ns → AllByRecursion (IsInnerOf p words level below) ns → AreRising low (children_of p words ns)
  children_rise low level below [] h k = tt
  children_rise low level below (n ∷ ns) h k =
      let seps = k.0.spelled.lawful.separators in
      rising_join low (high_at p words n) _ (children_of p words ns) (omega (arith, h.1, k.0.spelled.lawful.fences))
      (pairs_rise low below _ (λ some. omega (arith, seps.first, h.1)) seps.rise k.0.children)
      (pairs_below (high_at p words n) below _ seps.below k.0.children)
      (children_rise (high_at p words n) level below ns h.3 k.1)

  pairs_among : (below : List ℕ) (xs : List Pair) → AllByRecursion (IsChildIn p words below) xs → AllByRecursion (λ n. is_in below n ≡ true) (named_by xs)
  pairs_among below [] h = tt
  pairs_among below (x ∷ xs) h = (h.0.among, pairs_among below xs h.1)

  pub children_among : (level : ℕ) (below ns : List ℕ) → AllByRecursion (IsInnerOf p words level below) ns → AllByRecursion (λ n. is_in below n ≡ true) (children_of p words ns)
  children_among level below [] h = tt
  children_among level below (n ∷ ns) h = all_join (λ m. is_in below m ≡ true) _ (children_of p words ns) (pairs_among below _ h.0.children) (children_among level below ns h.1)

  -- the first pair's child begins where the node does
  first_pair : (low : ℕ) (below : List ℕ) (k : ℕ) (ws : List ℕ) → 1 ≤ length (pairs_in k ws) → separator_at (pairs_in k ws) 0 ≡ low → AllByRecursion (IsChildIn p words below) (pairs_in k ws) → (is_in below (get_or ws 1 0) ≡ true) × (low_at p words (get_or ws 1 0) ≡ low) × (is_in (named_by (pairs_in k ws)) (get_or ws 1 0) ≡ true)
  first_pair low below k ws some first h = search (rules, in_head)

  -- so of the first node of a level it is the first node of the level below
  pub child_first : (level : ℕ) (below ns : List ℕ) → IsChain p words 0 ns → AllByRecursion (IsInnerOf p words level below) ns → IsChain p words 0 below → AllByRecursion IsFenced below → (get_or (node_part p words (first_of ns)) 7 0 ≡ first_of below) × (is_in (children_of p words ns) (first_of below) ≡ true)
  child_first level below [] h k next f = absurd (omega (arith, h))
  child_first level below (n ∷ ns) h k next f =
      let ws = node_part p words n in
      let lawful = k.0.spelled.lawful in
      let x = first_pair 0 below (get_or ws 5 0) (drop 6 ws) lawful.count.0 (lawful.separators.first ∙ h.1) k.0.children in
      let seven : get_or (drop 6 ws) 1 0 ≡ get_or ws 7 0 = get_or-drop 6 ws 1 0 in
      let is : get_or (drop 6 ws) 1 0 ≡ first_of below = first_by_low 0 below _ next f x.0 x.1 in
      (sym seven ∙ is, in_front (named_by (inner_at p words n).pairs) (children_of p words ns) (first_of below) (subst (λ (m : ℕ). is_in (named_by (inner_at p words n).pairs) m ≡ true) is x.2))

  -- ---- the levels
  pub top_chain : (ns : List ℕ) (rest : List (List ℕ)) → AreLevels p words (ns ∷ rest) → IsChain p words 0 ns
  top_chain ns rest h = search rules

  pub top_fenced : (ns : List ℕ) (rest : List (List ℕ)) → AreLevels p words (ns ∷ rest) → AllByRecursion IsFenced ns
  top_fenced ns rest h = search (rules, leaves_fenced, inners_fenced)

  pub first_node : (ns : List ℕ) → IsChain p words 0 ns → IsNode p (first_of ns)
  first_node ns h = search rules

  first_leaf_level : (ns : List ℕ) → IsChain p words 0 ns → AllByRecursion (IsLeafOf p words) ns → get_or (node_part p words (first_of ns)) 1 0 ≡ 0
  first_leaf_level ns h k = search (rules, leaf_level)

  first_inner_level : (level : ℕ) (below ns : List ℕ) → IsChain p words 0 ns → AllByRecursion (IsInnerOf p words level below) ns → 1 ≤ get_or (node_part p words (first_of ns)) 1 0
  first_inner_level level below ns h k = search (rules, inner_level)

  -- the level word of a level's first node, and its first child, tell whether there is a level below and where it begins
  pub leaf_first : (ns : List ℕ) → AreLevels p words (ns ∷ []) → get_or (node_part p words (first_of ns)) 1 0 ≡ 0
  leaf_first ns h = first_leaf_level ns h.0 h.1

  pub inner_first : (ns below : List ℕ) (rest : List (List ℕ)) → AreLevels p words (ns ∷ below ∷ rest) → (1 ≤ get_or (node_part p words (first_of ns)) 1 0) × (get_or (node_part p words (first_of ns)) 7 0 ≡ first_of below) × IsNode p (first_of below)
  inner_first ns below rest h = search (rules, top_chain, first_inner_level, child_first, top_fenced, first_node)

  -- words have one tree's levels
  levels_are_one : (a b : List (List ℕ)) → AreLevels p words a → AreLevels p words b → first_of (top_of a) ≡ first_of (top_of b) → a ≡ b
  levels_are_one [] b h k same = absurd h
  levels_are_one (c ∷ r) [] h k same = absurd k
  levels_are_one (c ∷ []) (e ∷ []) h k same = ap (λ l. l ∷ []) (chains_are_one 0 0 c e h.0 k.0 same)
  levels_are_one (c ∷ []) (e ∷ f ∷ s) h k same = absurd (omega (arith, leaf_first c h, (inner_first e f s k).0, ap (λ n. get_or (node_part p words n) 1 0) same))
  levels_are_one (c ∷ d ∷ r) (e ∷ []) h k same = absurd (omega (arith, leaf_first e k, (inner_first c d r h).0, ap (λ n. get_or (node_part p words n) 1 0) same))
  levels_are_one (c ∷ d ∷ r) (e ∷ f ∷ s) h k same =
      let here : c ≡ e = chains_are_one 0 0 c e h.0 k.0 same in
      let below : first_of d ≡ first_of f = sym (inner_first c d r h).1 ∙ ap (λ n. get_or (node_part p words n) 7 0) same ∙ (inner_first e f s k).1 in
      λ t. here t ∷ levels_are_one (d ∷ r) (f ∷ s) h.2 k.2 below t

  pub trees_are_one : (a b : List (List ℕ)) → IsTree p words a → IsTree p words b → a ≡ b
  trees_are_one a b h k = levels_are_one a b h.lawful k.lawful (sym h.root ∙ k.root)

  -- ---- how many nodes there are
  pub level_nodes : (levels : List (List ℕ)) → AreLevels p words levels → AllByRecursion (IsNode p) (concat levels)
  level_nodes [] h = absurd h
  level_nodes (c ∷ []) h = all_join (IsNode p) c [] (chain_nodes 0 c h.0) tt
  level_nodes (c ∷ d ∷ r) h = all_join (IsNode p) c (concat (d ∷ r)) (chain_nodes 0 c h.0) (level_nodes (d ∷ r) h.2)

  some_nodes : (ns : List ℕ) → IsChain p words 0 ns → 1 ≤ length ns
  some_nodes [] h = absurd (omega (arith, h))
  some_nodes (n ∷ ns) h = omega arith

  pub few_levels : (levels : List (List ℕ)) → AreLevels p words levels → length levels ≤ length (concat levels)
  few_levels [] h = absurd h
  few_levels (c ∷ []) h = omega (arith, some_nodes c h.0, length-append c [])
  few_levels (c ∷ d ∷ r) h = omega (arith, some_nodes c h.0, few_levels (d ∷ r) h.2, length-append c (concat (d ∷ r)))

  pub all_nodes : (levels : List (List ℕ)) → IsTree p words levels → length (concat levels) ≤ nodes p
  all_nodes levels h = few_nodes p (concat levels) (level_nodes levels h.lawful) h.apart

  -- ---- the leaves
  pub few_leaves : (levels : List (List ℕ)) → length (leaves_of levels) ≤ length (concat levels)
  few_leaves [] = omega arith
  few_leaves (c ∷ []) = omega (arith, length-append c [])
  few_leaves (c ∷ d ∷ r) = omega (arith, few_leaves (d ∷ r), length-append c (concat (d ∷ r)))

  pub leaf_chain : (levels : List (List ℕ)) → AreLevels p words levels → IsChain p words 0 (leaves_of levels) × AllByRecursion (IsLeafOf p words) (leaves_of levels)
  leaf_chain [] h = absurd h
  leaf_chain (c ∷ []) h = h
  leaf_chain (c ∷ d ∷ r) h = leaf_chain (d ∷ r) h.2

  pub first_leaf : (levels : List (List ℕ)) (i : ℕ) → i + 1 ≡ length levels → get_or (map first_of levels) i 0 ≡ first_of (leaves_of levels)
  first_leaf [] i e = absurd (omega (arith, e))
  first_leaf (c ∷ []) zero e = refl
  first_leaf (c ∷ []) (suc i) e = absurd (omega (arith, e))
  first_leaf (c ∷ d ∷ r) zero e = absurd (omega (arith, e))
  first_leaf (c ∷ d ∷ r) (suc i) e = first_leaf (d ∷ r) i (omega (arith, e))
