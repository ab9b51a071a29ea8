-- The nodes that aren't named: of each level as many as it has more nodes than the level above has pairs.
use Rattle.std.proofs.Common.{rules, ◌≡◌, ℕ, zero, suc, ◌+◌, ◌-◌, ◌*◌, ◌<◌, min, ◌≤◌, List, [], ◌∷◌, ◌++◌, length, map, drop, get_or, take, sym, ap, subst, ◌∙◌, length-append, arith}
use Rattle.std.{specs.List.{concat, AllByRecursion}, proofs.{lemmas.List.{length-map, take_more, drop_more, drop_all}, Math.Nat.{min-eq_left}}}
use Rattle.sh_base.specs.{declared.config.ConfigParts.{ConfigParts}, Layout.{node_part}}
use Rattle.sh_image.proofs.InnerLemmas.{length-pairs_in}
use Rattle.sh_tree.specs.{Lists.{outside, AreDifferent}, Nodes.{inner_at}, Tree.{IsChain, IsInnerOf, AreLevels, IsTree, children_of, unnamed_from, unposted_in}}
use Rattle.sh_tree.proofs.ListLemmas.{outside_none, outside_head, outside_all, different_front, different_behind}
use Rattle.sh_tree.proofs.ChainLemmas.{top_chain, top_fenced, child_first, children_rise, children_among, rising_differ}
use Rattle.sh_logic.proofs.Lists.{all_at}

module _ (p : ConfigParts) (words : List ℕ) where
  -- the same number, by lengths: each level's nodes, less so many as are named
  abbrev pub left_over : ℕ → List (List ℕ) → ℕ
  left_over named [] = 0
  left_over named (ns ∷ rest) = (length ns - named) + left_over (length (children_of p words ns)) rest

  -- of a level below another one
  level_left : (level : ℕ) (ns below : List ℕ) (rest : List (List ℕ)) → IsChain p words 0 ns → AllByRecursion (IsInnerOf p words level below) ns → AreLevels p words (below ∷ rest) → AreDifferent below → outside (children_of p words ns) (drop 1 below) ≡ length below - length (children_of p words ns)
  level_left level ns [] rest h k next d = absurd (omega (arith, top_chain p words [] rest next))
  level_left level ns (m ∷ ms) rest h k next d =
      let named = children_of p words ns in
      let first = (child_first p words level (m ∷ ms) ns h k (top_chain p words (m ∷ ms) rest next) (top_fenced p words (m ∷ ms) rest next)).1 in
      let all = outside_all named (m ∷ ms) (rising_differ p words 0 named (children_rise p words 0 level (m ∷ ms) ns h k)) d (children_among p words level (m ∷ ms) ns k) in
      omega (arith, all, outside_head named m ms first)

  unnamed_is_left : (named ns : List ℕ) (count : ℕ) (rest : List (List ℕ)) → outside named (drop 1 ns) ≡ length ns - count → AreLevels p words (ns ∷ rest) → AreDifferent (concat (ns ∷ rest)) → unnamed_from p words named (ns ∷ rest) ≡ left_over count (ns ∷ rest)
  unnamed_is_left named ns count [] here h d = omega (arith, here)
  unnamed_is_left named ns count (below ∷ rest) here h d =
      let behind : AreDifferent (concat (below ∷ rest)) = different_behind ns (concat (below ∷ rest)) d in
      let next = level_left (length (below ∷ rest)) ns below rest h.0 h.1 h.2 (different_front below (concat rest) behind) in
      omega (arith, here, unnamed_is_left (children_of p words ns) below (length (children_of p words ns)) rest next h.2 behind)

  one_less : (ns : List ℕ) → outside [] (drop 1 ns) ≡ length ns - 1
  one_less ns = search (rules, outside_none)

  pub unposted_left : (levels : List (List ℕ)) → IsTree p words levels → unposted_in p words levels ≡ left_over 1 levels
  unposted_left levels h = search (rules, unnamed_is_left, one_less)

  pub left_few : (named : ℕ) (levels : List (List ℕ)) → left_over named levels ≤ length (concat levels)
  left_few named [] = omega arith
  left_few named (ns ∷ rest) = omega (arith, left_few (length (children_of p words ns)) rest, length-append ns (concat rest))

  -- ---- the pairs of a level
  pub children_more : (ns : List ℕ) (n : ℕ) → length (children_of p words (ns ++ n ∷ [])) ≡ length (children_of p words ns) + length (inner_at p words n).pairs
  children_more [] n = omega (arith, length-append (map (λ x. x.child) (inner_at p words n).pairs) [], length-map (inner_at p words n).pairs (λ x. x.child))
  children_more (m ∷ ns) n =
      let named = map (λ x. x.child) (inner_at p words m).pairs in
      omega (arith, length-append named (children_of p words (ns ++ n ∷ [])), length-append named (children_of p words ns), children_more ns n)

  pub pairs_counted : (n : ℕ) → length (inner_at p words n).pairs ≡ get_or (node_part p words n) 5 0
  pairs_counted n = length-pairs_in (get_or (node_part p words n) 5 0) (drop 6 (node_part p words n))

  -- one node more
  pub pairs_more : (level : List ℕ) (i above : ℕ) (below : List ℕ) (pairs word found most : ℕ) → i < length level → AllByRecursion (IsInnerOf p words above below) level → pairs ≡ length (children_of p words (take i level)) → word ≡ get_or (node_part p words (get_or level i 0)) 5 0 → found ≡ min word most → most ≡ 2 * p.leaf → pairs + found ≡ length (children_of p words (take (i + 1) level))
  pairs_more level i above below pairs word found most inside h so_far is least all =
      let n = get_or level i 0 in
      let inner : IsInnerOf p words above below n = all_at (IsInnerOf p words above below) level i 0 h inside in
      let few : word ≤ most = omega (arith, is, all, pairs_counted n, inner.spelled.lawful.count) in
      omega (arith, so_far, least ∙ min-eq_left few, is, pairs_counted n, children_more (take i level) n, ap (λ l. length (children_of p words l)) (take_more level i 0 inside))

  -- ---- one level more
  drop_levels : (levels : List (List ℕ)) (i : ℕ) → AreLevels p words levels → i < length levels → AreLevels p words (drop i levels)
  drop_levels [] i h below = absurd h
  drop_levels (c ∷ r) zero h below = h
  drop_levels (c ∷ []) (suc i) h below = absurd (omega (arith, below))
  drop_levels (c ∷ d ∷ r) (suc i) h below = drop_levels (d ∷ r) i h.2 (omega (arith, below))

  pub level_at : (levels : List (List ℕ)) (i : ℕ) → AreLevels p words levels → i < length levels → AreLevels p words (get_or levels i [] ∷ drop (i + 1) levels)
  level_at levels i h below = subst (AreLevels p words) (drop_more levels i [] below) (drop_levels levels i h below)

  pub level_few : (levels : List (List ℕ)) (i : ℕ) → length (get_or levels i []) ≤ length (concat levels)
  level_few [] i = omega arith
  level_few (c ∷ r) zero = omega (arith, length-append c (concat r))
  level_few (c ∷ r) (suc i) = omega (arith, level_few r i, length-append c (concat r))

  left_on : (level : List ℕ) (rest : List (List ℕ)) (named more count total : ℕ) → AreLevels p words (level ∷ rest) → ((above : ℕ) (below : List ℕ) → AllByRecursion (IsInnerOf p words above below) level → more ≡ length (children_of p words level)) → count + left_over named (level ∷ rest) ≡ total → count + (length level - named) + left_over more rest ≡ total
  left_on level rest named more count total h pairs so_far = search rules

  pub left_more : (levels : List (List ℕ)) (i named more count total : ℕ) (level : List ℕ) → AreLevels p words levels → i < length levels → level ≡ get_or levels i [] → ((above : ℕ) (below : List ℕ) → AllByRecursion (IsInnerOf p words above below) level → more ≡ length (children_of p words level)) → count + left_over named (drop i levels) ≡ total → count + (length level - named) + left_over more (drop (i + 1) levels) ≡ total
  left_more levels i named more count total level h below is pairs so_far =
      left_on level (drop (i + 1) levels) named more count total (subst (λ (l : List ℕ). AreLevels p words (l ∷ drop (i + 1) levels)) (sym is) (level_at levels i h below)) pairs
      (subst (λ (l : List ℕ). count + left_over named (l ∷ drop (i + 1) levels) ≡ total) (sym is) (ap (λ l. count + left_over named l) (sym (drop_more levels i [] below)) ∙ so_far))

  -- when all levels are counted nothing is left over
  pub all_counted : (levels : List (List ℕ)) (i named count : ℕ) → IsTree p words levels → length levels ≤ i → count + left_over named (drop i levels) ≡ left_over 1 levels → count ≡ unposted_in p words levels
  all_counted levels i named count h past so_far = omega (arith, so_far, ap (left_over named) (drop_all i levels past), unposted_left levels h)
