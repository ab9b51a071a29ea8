-- What a walk along a level, and one down a tree, has gathered so far.
use Rattle.std.proofs.Common.{rules, ◌≡◌, ◌≢◌, ℕ, ◌+◌, ◌<◌, ◌≤◌, List, [], ◌∷◌, ◌++◌, length, get_or, map, refl, sym, ap, subst, ◌∙◌, inl, inr, append_assoc, length-append, arith}
use Rattle.std.{proofs.{lemmas.{List.{append-nil, get_or_append_left, map-append, length-map}, Bool.{cases_lt}}, Math.Seq.{get_or-append_seam}}, specs.Prelude.{slice_index}}
use Rattle.sh_base.specs.{declared.config.ConfigParts.{ConfigParts}, Setting.{nodes, node_size, pool_words, IsNode, IsSetting}}
use Rattle.sh_base.{proofs.LayoutLemmas.{node_size_is, entry_size_is, entry_at_first, entry_high}, specs.Layout.{root_word, node_part}}
use Rattle.sh_tree.{specs.{Lists.{first_of, AreNodes}, Nodes.{next_at}, Tree.{top_of, IsChain, AreLevels, IsTree}}, proofs.ChainLemmas.{top_chain, first_node, leaf_first, inner_first}}

-- the nodes of a level so far, and the node that comes next
pub record IsAlong (p : ConfigParts) (words : List ℕ) (chain so_far : List ℕ) (node : ℕ) : Type 0 where
  pub rest : List ℕ
  pub low : ℕ
  pub whole : chain ≡ so_far ++ rest
  pub here : node ≡ first_of rest
  pub lawful : IsChain p words low rest

-- the first nodes of the levels so far, and the node that comes next
pub record IsDown (p : ConfigParts) (words : List ℕ) (levels : List (List ℕ)) (so_far : List ℕ) (node : ℕ) : Type 0 where
  pub rest : List (List ℕ)
  pub done : List (List ℕ)
  pub whole : levels ≡ done ++ rest
  pub firsts : so_far ≡ map first_of done
  pub here : node ≡ first_of (top_of rest)
  pub lawful : rest ≢ [] → AreLevels p words rest

-- the pool has a root word
pub has_root : (p : ConfigParts) → root_word < pool_words p
unfolding pool_words
has_root p = omega arith

-- a node of a setting has a word at 7
pub eight_words : (p : ConfigParts) → IsSetting p → 7 < node_size p
eight_words p lawful = omega (arith, node_size_is p, entry_at_first p, entry_size_is p, entry_high p 0 (omega (arith, lawful.ranged.leaf)))

-- so many nodes are gathered, and the one that comes next is a node or 0
pub record IsGathered (p : ConfigParts) (count : ℕ) (so_far : List ℕ) (node : ℕ) : Type 0 where
  pub long : length so_far ≡ count
  pub small : node ≤ nodes p
  pub are : AreNodes p so_far

pub gathered_none : (p : ConfigParts) (node : ℕ) → node ≤ nodes p → IsGathered p 0 [] node
gathered_none p node small = record { long = refl; small = small; are = λ i below. absurd (omega (arith, below)) }

pub gathered_more : (p : ConfigParts) (count : ℕ) (so_far : List ℕ) (node next : ℕ) → node ≢ 0 → next ≤ nodes p → IsGathered p count so_far node → IsGathered p (count + 1) (so_far ++ node ∷ []) next
gathered_more p count so_far node next some small h = record {
  long = omega (arith, length-append so_far (node ∷ []), h.long);
  small = small;
  are = λ i below. elim (cases_lt i (length so_far)) [
    | inl lt ↦ subst (IsNode p) (sym (get_or_append_left so_far (node ∷ []) 0 i lt)) (h.are i lt)
    | inr ge ↦
        let last : i ≡ length so_far = omega (arith, ge, below, length-append so_far (node ∷ [])) in
        subst (IsNode p) (sym (ap (λ k. get_or (so_far ++ node ∷ []) k 0) last ∙ get_or-append_seam so_far node [] 0)) (record { first = omega (arith, some); last = h.small })
  ];
}

module _ (p : ConfigParts) (words : List ℕ) where
  next_small : (low : ℕ) (ns : List ℕ) → IsChain p words low ns → first_of ns ≤ nodes p
  next_small low ns h = search rules

  pub along_none : (first low : ℕ) (chain : List ℕ) → first ≡ first_of chain → IsChain p words low chain → IsAlong p words chain [] first
  along_none first low chain is h = record { rest = chain; low = low; whole = refl; here = is; lawful = h }

  pub along_more : (chain so_far : List ℕ) (node next : ℕ) → node ≢ 0 → (next_at p words node ≤ nodes p → next ≡ next_at p words node) → IsAlong p words chain so_far node → IsAlong p words chain (so_far ++ node ∷ []) next
  along_more chain so_far node next some is h = search (rules, append_assoc, next_small)

  pub along_all : (chain so_far : List ℕ) (node : ℕ) → length chain ≤ nodes p → (node ≢ 0 → nodes p ≤ length so_far) → IsAlong p words chain so_far node → so_far ≡ chain
  along_all chain so_far node few end h = search (rules, append-nil, length-append)

  pub down_none : (levels : List (List ℕ)) (node : ℕ) → IsTree p words levels → (slice_index words root_word ≤ nodes p → node ≡ slice_index words root_word) → IsDown p words levels [] node
  down_none levels node h is = search (rules, first_node, top_chain)

  pub down_more : (levels : List (List ℕ)) (so_far : List ℕ) (node child : ℕ) → node ≢ 0 → (get_or (node_part p words node) 1 0 ≡ 0 → child ≡ 0) → (get_or (node_part p words node) 1 0 ≢ 0 → get_or (node_part p words node) 7 0 ≤ nodes p → child ≡ get_or (node_part p words node) 7 0) → IsDown p words levels so_far node → IsDown p words levels (so_far ++ node ∷ []) child
  down_more levels so_far node child some leaf inner h = go h.rest h.done h.whole h.firsts h.here h.lawful
    where
      word : ℕ → ℕ → ℕ
      word n i = get_or (node_part p words n) i 0

      firsts_more : (done : List (List ℕ)) (c : List ℕ) → so_far ≡ map first_of done → node ≡ first_of c → so_far ++ node ∷ [] ≡ map first_of (done ++ c ∷ [])
      firsts_more done c firsts here = (λ t. firsts t ++ here t ∷ []) ∙ sym (map-append first_of done (c ∷ []))

      go : (rest done : List (List ℕ)) → levels ≡ done ++ rest → so_far ≡ map first_of done → node ≡ first_of (top_of rest) → (rest ≢ [] → AreLevels p words rest) → IsDown p words levels (so_far ++ node ∷ []) child
      go [] done whole firsts here lawful = absurd (some here)
      go (c ∷ []) done whole firsts here lawful =
          let h = lawful (λ e. absurd (cc)) in
          record {
            rest = [];
            done = done ++ c ∷ [];
            whole = whole ∙ sym (append-nil (done ++ c ∷ []));
            firsts = firsts_more done c firsts here;
            here = leaf (ap (λ n. get_or (node_part p words n) 1 0) here ∙ leaf_first p words c h);
            lawful = λ ne. absurd (ne refl);
          }
      go (c ∷ d ∷ rest) done whole firsts here lawful =
          let h = lawful (λ e. absurd (cc)) in
          let x = inner_first p words c d rest h in
          let level : get_or (node_part p words node) 1 0 ≡ get_or (node_part p words (first_of c)) 1 0 = ap (λ n. get_or (node_part p words n) 1 0) here in
          let leads : get_or (node_part p words node) 7 0 ≡ first_of d = ap (λ n. get_or (node_part p words n) 7 0) here ∙ x.1 in
          record {
            rest = d ∷ rest;
            done = done ++ c ∷ [];
            whole = whole ∙ sym (append_assoc done (c ∷ []) (d ∷ rest));
            firsts = firsts_more done c firsts here;
            here = inner (λ z. omega (arith, z, level, x.0)) (omega (arith, leads, x.2.last)) ∙ leads;
            lawful = λ ne. h.2;
          }

  pub down_all : (levels : List (List ℕ)) (so_far : List ℕ) (node : ℕ) → length levels ≤ nodes p → (node ≢ 0 → nodes p ≤ length so_far) → IsDown p words levels so_far node → so_far ≡ map first_of levels
  down_all levels so_far node few end h = search (rules, append-nil, first_node, top_chain, length-append, length-map)
