-- Levels that are walked, whose pairs all lead below and whose leaves have each key once, are a tree; and a tree's are
-- like that.
use Rattle.std.proofs.Common.{rules, ◌≡◌, ◌≢◌, ℕ, zero, suc, ◌+◌, ◌-◌, ◌^◌, ◌<◌, ◌≤◌, true, false, List, [], ◌∷◌, ◌++◌, length, refl, sym, ap, subst, ◌∙◌, inl, inr, arith}
use Rattle.std.{specs.List.{concat, AllByRecursion}, proofs.lemmas.Bool.{cases_eq, eq-eqb}}
use Rattle.sh_logic.proofs.Lists.{all_at, all_join, from_each}
use Rattle.sh_base.specs.declared.config.ConfigParts.{ConfigParts}
use Rattle.sh_image.specs.{declared.inner.Image.TheVariants.{Leaf, Inner}, Inner.{no_pair}}
use Rattle.sh_edit.specs.Held.{HasKeysOnce}
use Rattle.sh_tree.specs.{Lists.{first_of, is_in, AreDifferent}, Nodes.{inner_at, leaf_at, low_at, high_at, next_at}}
use Rattle.sh_tree.{specs.Tree.{top_of, leaves_of, AreLevels, IsChain, IsChildIn, IsInnerOf, IsLeafOf, IsTree}, proofs.ListLemmas.{in_tail}}
use Rattle.sh_tree.proofs.ChainLemmas.{inner_first, leaf_level, rising_differ, AreRising, IsFenced}
use Rattle.sh_picture.specs.{Walk.{first_child, level_at, root_of, IsAlong, IsDown, IsLevel, IsSpelled, IsWalked}, Tree.{level_nodes, AllLead, AllOnce, LevelLeads}}
use Rattle.sh_picture.proofs.{NodeLemmas.{child_inside, spelled_fit, spelled_inner, spelled_leaf}, GoingLemmas.{level_first}}

module _ (p : ConfigParts) (words : List ℕ) where
  -- a node that spells an image of this level
  pub record IsOn (level n : ℕ) : Type 0 where
    pub spelled : IsSpelled p words n
    pub level_is : level_at p words n ≡ level

  -- ---- from the walk of a level to its chain
  pub along_on : (level number low : ℕ) (ns : List ℕ) (to high : ℕ) → IsAlong p words level number low ns to high → AllByRecursion (IsOn level) ns
  along_on level number low [] to high h = tt
  along_on level number low (n ∷ ns) to high h = (record { spelled = h.1.spelled; level_is = h.1.level_is }, along_on level (next_at p words n) (high_at p words n) ns to high h.2)

  pub along_chain : (level number low : ℕ) (ns : List ℕ) (high : ℕ) → IsAlong p words level number low ns 0 high → (number ≡ 0 → low ≡ 2 ^ 64 - 1) → IsChain p words low ns × (number ≡ first_of ns)
  along_chain level number low [] high h end = (end (sym h.0), sym h.0)
  along_chain level number low (n ∷ ns) high h end =
      let rest = along_chain level (next_at p words n) (high_at p words n) ns high h.2 (spelled_fit p words n h.1.spelled).end.0 in
      ((h.1.spelled.node, h.1.low_is, rest.1, rest.0), h.0)

  pub level_chain : (level first : ℕ) (ns : List ℕ) → IsLevel p words level first ns → first ≢ 0 → IsChain p words 0 ns × (first ≡ first_of ns)
  level_chain level first ns h some = along_chain level first 0 ns h.high h.along (λ z. absurd (some z))

  -- ---- no node stands twice
  fenced_on : (level : ℕ) (ns : List ℕ) → AllByRecursion (IsOn level) ns → AllByRecursion (IsFenced p words) ns
  fenced_on level [] h = tt
  fenced_on level (n ∷ ns) h = ((spelled_fit p words n h.0.spelled).fences, fenced_on level ns h.1)

  rising_from : (low high : ℕ) (ns : List ℕ) → low ≤ high → AreRising p words high ns → AreRising p words low ns
  rising_from low high [] le h = tt
  rising_from low high (n ∷ ns) le h = (omega (arith, h.0), h.1)

  chain_rises : (low : ℕ) (ns : List ℕ) → IsChain p words low ns → AllByRecursion (IsFenced p words) ns → AreRising p words low ns
  chain_rises low [] h f = tt
  chain_rises low (n ∷ ns) h f = (omega (arith, h.1), rising_from (low_at p words n + 1) (high_at p words n) ns (omega (arith, f.0)) (chain_rises (high_at p words n) ns h.3 f.1))

  -- nodes whose levels are below this one
  abbrev IsUnder : ℕ → ℕ → Type 0
  IsUnder level n = level_at p words n < level

  not_under : (level n : ℕ) (ns : List ℕ) → level_at p words n ≡ level → AllByRecursion (IsUnder level) ns → is_in ns n ≡ false
  not_under level n [] is h = refl
  not_under level n (m ∷ ns) is h = elim (cases_eq m n) [
    | inl e ↦ absurd (omega (arith, is, h.0, ap (level_at p words) e))
    | inr ne ↦ in_tail m n ns ne ∙ not_under level n ns is h.1
  ]

  not_in_both : (n : ℕ) (xs ys : List ℕ) → is_in xs n ≡ false → is_in ys n ≡ false → is_in (xs ++ ys) n ≡ false
  not_in_both n [] ys h k = k
  not_in_both n (x ∷ xs) ys h k = elim (cases_eq x n) [
    | inl e ↦ absurd (let is : is_in (x ∷ xs) n ≡ true = rw (eq-eqb x n e) refl in cc)
    | inr ne ↦ in_tail x n (xs ++ ys) ne ∙ not_in_both n xs ys (sym (in_tail x n xs ne) ∙ h) k
  ]

  apart_join : (level : ℕ) (ns ms : List ℕ) → AllByRecursion (IsOn level) ns → AreDifferent ns → AllByRecursion (IsUnder level) ms → AreDifferent ms → AreDifferent (ns ++ ms)
  apart_join level [] ms on d under e = e
  apart_join level (n ∷ ns) ms on d under e = (not_in_both n ns ms d.0 (not_under level n ms on.0.level_is under), apart_join level ns ms on.1 d.1 under e)

  under_on : (level top : ℕ) (ns : List ℕ) → level < top → AllByRecursion (IsOn level) ns → AllByRecursion (IsUnder top) ns
  under_on level top [] lt h = tt
  under_on level top (n ∷ ns) lt h = (omega (arith, h.0.level_is, lt), under_on level top ns lt h.1)

  under_more : (level top : ℕ) (ns : List ℕ) → level ≤ top → AllByRecursion (IsUnder level) ns → AllByRecursion (IsUnder top) ns
  under_more level top [] le h = tt
  under_more level top (n ∷ ns) le h = (omega (arith, h.0, le), under_more level top ns le h.1)

  -- the next level begins at a node
  below_first : (first level : ℕ) (ns : List ℕ) → IsLevel p words level first ns → first ≢ 0 → level ≢ 0 → first_child p words first ≢ 0
  below_first first level ns h some up =
      let s = level_first p words level first ns h some in
      λ z. omega (arith, z, (child_inside p words first s.spelled (λ e. up (sym s.level_is ∙ e))).0.first)

  different_level : (level first : ℕ) (ns : List ℕ) → IsLevel p words level first ns → first ≢ 0 → AreDifferent ns
  different_level level first ns h some = rising_differ p words 0 ns (chain_rises 0 ns (level_chain level first ns h some).0 (fenced_on level ns (along_on level first 0 ns 0 h.high h.along)))

  pub down_apart : (first : ℕ) (levels : List (List ℕ)) (to : ℕ) → IsDown p words 0 first levels to → first ≢ 0 → AreDifferent (concat levels) × AllByRecursion (IsUnder (length levels)) (concat levels)
  down_apart first [] to h some = (tt, tt)
  down_apart first (c ∷ []) to h some =
      let on = along_on (0 + 0) first 0 c 0 h.0.high h.0.along in
      (apart_join (0 + 0) c [] on (different_level (0 + 0) first c h.0 some) tt tt, all_join (IsUnder 1) c [] (under_on (0 + 0) 1 c (omega arith) on) tt)
  down_apart first (c ∷ d ∷ rest) to h some =
      let level = length (d ∷ rest) + 0 in
      let on = along_on level first 0 c 0 h.0.high h.0.along in
      let next = below_first first level c h.0 some (λ z. omega (arith, z)) in
      let below = down_apart (first_child p words first) (d ∷ rest) to h.1 next in (
        apart_join level c (concat (d ∷ rest)) on (different_level level first c h.0 some) (under_more (length (d ∷ rest)) level _ (omega arith) below.1) below.0,
        all_join (IsUnder (length (c ∷ d ∷ rest))) c (concat (d ∷ rest)) (under_on level (length (c ∷ d ∷ rest)) c (omega arith) on) (under_more (length (d ∷ rest)) (length (c ∷ d ∷ rest)) _ (omega arith) below.1),
      )

  -- ---- the levels are lawful
  leaves_on : (level : ℕ) (ns : List ℕ) → level ≡ 0 → AllByRecursion (IsOn level) ns → AllByRecursion (λ n. HasKeysOnce (leaf_at p words n).entries) ns → AllByRecursion (IsLeafOf p words) ns
  leaves_on level [] z h k = tt
  leaves_on level (n ∷ ns) z h k = (record { spelled = spelled_leaf p words n h.0.spelled (h.0.level_is ∙ z); once = k.0 }, leaves_on level ns z h.1 k.1)

  inners_on : (level above : ℕ) (below ns : List ℕ) → level ≡ above → above ≢ 0 → AllByRecursion (IsOn level) ns → AllByRecursion (λ n. AllByRecursion (IsChildIn p words below) (inner_at p words n).pairs) ns → AllByRecursion (IsInnerOf p words above below) ns
  inners_on level above below [] e up h k = tt
  inners_on level above below (n ∷ ns) e up h k = (record { spelled = spelled_inner p words n h.0.spelled (λ z. up (sym e ∙ sym h.0.level_is ∙ z)); level_is = h.0.level_is ∙ e; children = k.0 }, inners_on level above below ns e up h.1 k.1)

  lead_all : (levels : List (List ℕ)) (d : ℕ) → LevelLeads p words levels d → AllByRecursion (λ n. AllByRecursion (IsChildIn p words (level_nodes levels (suc d))) (inner_at p words n).pairs) (level_nodes levels d)
  lead_all levels d h = from_each (λ n. AllByRecursion (IsChildIn p words (level_nodes levels (suc d))) (inner_at p words n).pairs) 0 (level_nodes levels d) (λ i lt. from_each (IsChildIn p words (level_nodes levels (suc d))) no_pair _ (h i lt))

  pub down_lawful : (first : ℕ) (levels : List (List ℕ)) (to : ℕ) → levels ≢ [] → IsDown p words 0 first levels to → first ≢ 0 → AllLead p words levels → AllOnce p words (leaves_of levels) → AreLevels p words levels × (first ≡ first_of (top_of levels))
  down_lawful first [] to ne h some lead once = absurd (ne refl)
  down_lawful first (c ∷ []) to ne h some lead once =
      let chain = level_chain (0 + 0) first c h.0 some in
      let on = along_on (0 + 0) first 0 c 0 h.0.high h.0.along in
      ((chain.0, leaves_on (0 + 0) c (omega arith) on (from_each (λ n. HasKeysOnce (leaf_at p words n).entries) 0 c once)), chain.1)
  down_lawful first (c ∷ d ∷ rest) to ne h some lead once =
      let level = length (d ∷ rest) + 0 in
      let chain = level_chain level first c h.0 some in
      let on = along_on level first 0 c 0 h.0.high h.0.along in
      let next = below_first first level c h.0 some (λ z. omega (arith, z)) in
      let below = down_lawful (first_child p words first) (d ∷ rest) to (λ e. absurd (cc)) h.1 next (λ i lt. lead (suc i) (omega (arith, lt))) once in
      ((chain.0, inners_on level (length (d ∷ rest)) d c (omega arith) (λ z. omega (arith, z)) on (lead_all (c ∷ d ∷ rest) 0 (lead 0 (omega arith))), below.0), chain.1)

  some_levels : (levels : List (List ℕ)) (n : ℕ) → length levels ≡ suc n → levels ≢ []
  some_levels levels n h = search rules

  pub walked_tree : (levels : List (List ℕ)) → IsSpelled p words (root_of words) → IsWalked p words levels → AllLead p words levels → AllOnce p words (leaves_of levels) → IsTree p words levels
  walked_tree levels root h lead once = search (rules, down_lawful, some_levels, down_apart)

  -- ---- and a tree's levels are walked
  chain_along : (level low : ℕ) (ns : List ℕ) → IsChain p words low ns → AllByRecursion (IsOn level) ns → IsAlong p words level (first_of ns) low ns 0 (2 ^ 64 - 1)
  chain_along level low [] h on = (refl, sym h)
  chain_along level low (n ∷ ns) h on =
      (refl, record { spelled = on.0.spelled; level_is = on.0.level_is; low_is = h.1 }, subst (λ (f : ℕ). IsAlong p words level f (high_at p words n) ns 0 (2 ^ 64 - 1)) (sym h.2) (chain_along level (high_at p words n) ns h.3 on.1))

  on_leaves : (level low : ℕ) (ns : List ℕ) → level ≡ 0 → IsChain p words low ns → AllByRecursion (IsLeafOf p words) ns → AllByRecursion (IsOn level) ns
  on_leaves level low [] z h k = tt
  on_leaves level low (n ∷ ns) z h k = (record { spelled = record { node = h.0; image = Leaf (leaf_at p words n); spelled = k.0.spelled }; level_is = leaf_level p words n k.0 ∙ sym z }, on_leaves level (high_at p words n) ns z h.3 k.1)

  on_inners : (level above low : ℕ) (below ns : List ℕ) → level ≡ above → IsChain p words low ns → AllByRecursion (IsInnerOf p words above below) ns → AllByRecursion (IsOn level) ns
  on_inners level above low below [] e h k = tt
  on_inners level above low below (n ∷ ns) e h k = (record { spelled = record { node = h.0; image = Inner (inner_at p words n); spelled = k.0.spelled }; level_is = k.0.level_is ∙ sym e }, on_inners level above (high_at p words n) below ns e h.3 k.1)

  pub levels_down : (levels : List (List ℕ)) → AreLevels p words levels → (to : ℕ) × IsDown p words 0 (first_of (top_of levels)) levels to
  levels_down [] h = absurd h
  levels_down (c ∷ []) h = (first_child p words (first_of c), (record { high = 2 ^ 64 - 1; along = chain_along (0 + 0) 0 c h.0 (on_leaves (0 + 0) 0 c (omega arith) h.0 h.1) }, refl))
  levels_down (c ∷ d ∷ rest) h =
      let level = length (d ∷ rest) + 0 in
      let below = levels_down (d ∷ rest) h.2 in
      let child : first_child p words (first_of c) ≡ first_of d = (inner_first p words c d rest h).1 in
      (below.0, (record { high = 2 ^ 64 - 1; along = chain_along level 0 c h.0 (on_inners level (length (d ∷ rest)) 0 d c (omega arith) h.0 h.1) }, subst (λ (f : ℕ). IsDown p words 0 f (d ∷ rest) below.0) (sym child) below.1))

  head_on : (level : ℕ) (ns : List ℕ) → IsChain p words 0 ns → AllByRecursion (IsOn level) ns → IsOn level (first_of ns)
  head_on level ns h on = search rules

  -- the top level's first node spells an image of the top level
  top_on : (levels : List (List ℕ)) → AreLevels p words levels → IsOn (length levels - 1) (first_of (top_of levels))
  top_on [] h = absurd h
  top_on (c ∷ []) h = head_on (length (c ∷ []) - 1) c h.0 (on_leaves (length (c ∷ []) - 1) 0 c (omega arith) h.0 h.1)
  top_on (c ∷ d ∷ rest) h = head_on (length (c ∷ d ∷ rest) - 1) c h.0 (on_inners (length (c ∷ d ∷ rest) - 1) (length (d ∷ rest)) 0 d c (omega arith) h.0 h.1)

  lead_more : (c e : List ℕ) (rest : List (List ℕ)) → LevelLeads p words (c ∷ e ∷ rest) 0 → AllLead p words (e ∷ rest) → (d : ℕ) → suc d < length (c ∷ e ∷ rest) → LevelLeads p words (c ∷ e ∷ rest) d
  lead_more c e rest first below zero lt = first
  lead_more c e rest first below (suc d) lt = below d (omega (arith, lt))

  levels_lead : (levels : List (List ℕ)) → AreLevels p words levels → AllLead p words levels
  levels_lead [] h = absurd h
  levels_lead (c ∷ []) h = λ d lt. absurd (omega (arith, lt))
  levels_lead (c ∷ e ∷ rest) h =
      lead_more c e rest (λ i below j within. all_at (IsChildIn p words e) _ j no_pair (all_at (IsInnerOf p words (length (e ∷ rest)) e) c i 0 h.1 below).children within) (levels_lead (e ∷ rest) h.2)

  levels_once : (levels : List (List ℕ)) → AreLevels p words levels → AllOnce p words (leaves_of levels)
  levels_once [] h = absurd h
  levels_once (c ∷ []) h = λ i lt. (all_at (IsLeafOf p words) c i 0 h.1 lt).once
  levels_once (c ∷ e ∷ rest) h = levels_once (e ∷ rest) h.2

  -- what a tree's levels are
  pub record IsWalkedTree (levels : List (List ℕ)) : Type 0 where
    pub root : IsSpelled p words (root_of words)
    pub walked : IsWalked p words levels
    pub lead : AllLead p words levels
    pub once : AllOnce p words (leaves_of levels)

  pub tree_walked : (levels : List (List ℕ)) → IsTree p words levels → IsWalkedTree levels
  tree_walked levels h =
      let down = levels_down levels h.lawful in
      let top = top_on levels h.lawful in
      let long : 1 ≤ length levels = some levels h.lawful in
      record {
        root = subst (IsSpelled p words) (sym h.root) top.spelled;
        walked = record {
          comes_to = down.0;
          top = let e : level_at p words (root_of words) ≡ length levels - 1 = ap (level_at p words) h.root ∙ top.level_is in omega (arith, e, long);
          down = subst (λ (f : ℕ). IsDown p words 0 f levels down.0) (sym h.root) down.1;
        };
        lead = levels_lead levels h.lawful;
        once = levels_once levels h.lawful;
      }
    where
      some : (levels : List (List ℕ)) → AreLevels p words levels → 1 ≤ length levels
      some [] h = absurd h
      some (c ∷ rest) h = omega arith
