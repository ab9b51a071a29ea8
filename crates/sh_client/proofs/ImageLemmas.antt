-- What the rules of a node give the changes of it.
use Rattle.std.proofs.Math.Nat.{mul-le-mul_right}
use Rattle.std.proofs.Common.{rules, ◌≡◌, ◌≢◌, ℕ, zero, suc, ◌+◌, ◌-◌, ◌*◌, ◌<◌, ◌≤◌, Bool, false, cond, List, [], ◌∷◌, ◌++◌, length, map, take, drop, length-append, length-drop, Some, refl, ap, sym, subst, inl, inr, ◌∙◌, arith}
use Rattle.std.{specs.{Prelude.{replicate, ◌==◌}, List.{AllByRecursion}}, proofs.lemmas.{List.{length-map, length-replicate, length-set, length-take-le}, Bool.{cases_lt}}}
use Rattle.sh_logic.proofs.{Lists.{all_set, all_take, all_drop}, Tests.{less_test, not_less_test, differ_test}}
use Rattle.sh_base.specs.{declared.config.ConfigParts.{ConfigParts}, Setting.{entry_size, node_size, nodes, IsNode, IsSetting}, Layout.{first_node, node_word}}
use Rattle.sh_base.proofs.LayoutLemmas.{entry_size_is, node_size_is, node_word_high, nodes_small}
use Rattle.sh_image.specs.{declared.{leaf.LeafEntry.{LeafEntry}, inner.Image.{Image, TheVariants.{Leaf as OfLeaf, Inner as OfInner}}}, Leaf.{HaveWords, IsLeaf, Leaf as LeafOf}, Node.{IsImage}}
use Rattle.sh_image.{proofs.LeafLemmas.{values_of}, specs.{Entries.{entry_words}, declared.inner.Pair.{Pair}, Inner.{Inner as InnerOf}}}
use Rattle.sh_edit.specs.{Held.{pairs_of}, Rewriting.{cleared, rewritten}, Splitting.{empty_like, entry_with, left_count, left_half, pairs_after, right_half, IsSplit}}
use Rattle.sh_edit.{specs.Pairing.{pairs_with, right_inner}, proofs.SplitLemmas.{all_after, length-pairs_after}}
use Rattle.sh_alloc.specs.{declared.state.NodeRange.{NodeRange}, Spares.{nodes_from, without_lowest}}
use Rattle.sh_client.specs.{declared.state.Write.{Write}, Giving.{writes_nothing}, Sound.{AreSpare, IsBody, IsFilled}}
use Rattle.sh_read.{specs.Reads.{Reads, accepted}, proofs.CauseLemmas.{image_spelled}}

pub one_pair_more : (xs : List Pair) (new : Pair) → length (pairs_with xs new) ≡ length xs + 1
one_pair_more [] new = refl
one_pair_more (x ∷ xs) new = elim (cases_lt x.separator new.separator) [
  | inl less ↦ rw (less_test x.separator new.separator less) (omega (arith, one_pair_more xs new))
  | inr not_less ↦ rw (not_less_test x.separator new.separator not_less) (omega arith)
]

module _ (p : ConfigParts) where
  cleared_words : (es : List LeafEntry) → HaveWords p es → HaveWords p (map cleared es)
  cleared_words [] h = tt
  cleared_words (e ∷ es) h = (h.0, cleared_words es h.1)

  pub rewritten_words : (a : LeafOf) (i key : ℕ) (value : List ℕ) → IsLeaf p a → length value ≡ p.value_words → HaveWords p (rewritten a i key value).entries
  rewritten_words a i key value h words = all_set (λ (e : LeafEntry). length e.value ≡ p.value_words) (map cleared a.entries) i (record { version = 0; key = key; value = value }) (cleared_words a.entries (values_of p a.low a.high a.entries h.entries)) words

  pub rewritten_count : (a : LeafOf) (i key : ℕ) (value : List ℕ) → IsLeaf p a → length (rewritten a i key value).entries ≡ p.leaf
  rewritten_count a i key value h = length-set (map cleared a.entries) i _ ∙ length-map a.entries cleared ∙ h.count

  -- a pair's value has the setting's words
  abbrev IsWide : ℕ × List ℕ → Type 0
  IsWide x = length x.1 ≡ p.value_words

  wide_either : (b : Bool) (x : ℕ × List ℕ) (xs : List (ℕ × List ℕ)) → IsWide x → AllByRecursion IsWide xs → AllByRecursion IsWide (cond b xs (x ∷ xs))
  wide_either b x xs h hs = search rules

  wide_pairs : (es : List LeafEntry) → HaveWords p es → AllByRecursion IsWide (pairs_of es)
  wide_pairs [] h = tt
  wide_pairs (e ∷ es) h = wide_either (e.key == 0) (e.key, e.value) (pairs_of es) h.0 (wide_pairs es h.1)

  wide_rest : (value : List ℕ) (k : ℕ) → length value ≡ p.value_words → HaveWords p (replicate k (empty_like value))
  wide_rest value zero words = tt
  wide_rest value (suc k) words = (length-replicate (length value) 0 ∙ words, wide_rest value k words)

  wide_filled : (value : List ℕ) (k : ℕ) (xs : List (ℕ × List ℕ)) → length value ≡ p.value_words → AllByRecursion IsWide xs → HaveWords p (map entry_with xs ++ replicate k (empty_like value))
  wide_filled value k [] words h = wide_rest value k words
  wide_filled value k (x ∷ xs) words h = (h.0, wide_filled value k xs words h.1)

  filled_count : (count : ℕ) (value : List ℕ) (xs : List (ℕ × List ℕ)) → length xs ≤ count → length (map entry_with xs ++ replicate (count - length xs) (empty_like value)) ≡ count
  filled_count count value xs room = omega (arith, length-append (map entry_with xs) (replicate (count - length xs) (empty_like value)), length-map xs entry_with, length-replicate (count - length xs) (empty_like value), room)

  module _ (a : LeafOf) (key : ℕ) (value : List ℕ) (lawful : IsLeaf p a) (split : IsSplit a key) (words : length value ≡ p.value_words) where
    all_wide : AllByRecursion IsWide (pairs_after a.entries key value)
    all_wide = all_after IsWide a.entries key value words (wide_pairs a.entries (values_of p a.low a.high a.entries lawful.entries))

    nz : key ≢ 0
    nz e = absurd (omega (arith, e, split.is_key))

    long : length (pairs_after a.entries key value) ≡ length a.entries + 1
    long = length-pairs_after a.entries key value nz split.lacks split.full split.once

    pub left_words : (right : ℕ) → HaveWords p (left_half a key value right).entries
    left_words right = wide_filled value _ (take (left_count a.entries) (pairs_after a.entries key value)) words (all_take IsWide (left_count a.entries) _ all_wide)

    pub right_words : HaveWords p (right_half a key value).entries
    right_words = wide_filled value _ (drop (left_count a.entries) (pairs_after a.entries key value)) words (all_drop IsWide (left_count a.entries) _ all_wide)

    pub left_size : (right : ℕ) → length (left_half a key value right).entries ≡ p.leaf
    left_size right = filled_count (length a.entries) value (take (left_count a.entries) (pairs_after a.entries key value)) (omega (arith, split.some, long, length-take-le (left_count a.entries) (pairs_after a.entries key value) (omega (arith, split.some, long)))) ∙ lawful.count

    pub right_size : length (right_half a key value).entries ≡ p.leaf
    right_size = filled_count (length a.entries) value (drop (left_count a.entries) (pairs_after a.entries key value)) (omega (arith, split.some, long, length-drop (left_count a.entries) (pairs_after a.entries key value))) ∙ lawful.count

  pub entry_is_whole : (words : List ℕ) (e : LeafEntry) → words ≡ entry_words e → length e.value ≡ p.value_words → length words ≡ entry_size p
  entry_is_whole words e is h = ap length is ∙ omega (arith, length-append e.value (e.version ∷ []), entry_size_is p, h)

  pub left_ready : (a x : LeafOf) (k key : ℕ) (value : List ℕ) (right : ℕ) → IsLeaf p a → IsSplit a k → key ≡ k → length value ≡ p.value_words → x ≡ left_half a key value right → HaveWords p x.entries
  left_ready a x k key value right lawful split is words left = subst (λ (l : LeafOf). HaveWords p l.entries) (sym left) (left_words a key value lawful (subst (IsSplit a) (sym is) split) words right)

  pub right_room : IsSetting p → (a r : InnerOf) (new : Pair) → length a.pairs ≡ 2 * p.leaf → r ≡ right_inner p.leaf a new → length r.pairs ≤ 2 * p.leaf
  right_room setting a r new full is = subst (λ (x : InnerOf). length x.pairs ≤ 2 * p.leaf) (sym is) (omega (arith, length-drop p.leaf (pairs_with a.pairs new), one_pair_more a.pairs new, full, setting.ranged.leaf.0))

  -- a node's word lies in the pool
  pub word_in_pool : IsSetting p → (n offset : ℕ) → IsNode p n → offset < node_size p → node_word p n + offset < 4194304
  word_in_pool setting n offset node below = omega (arith, node_word_high p n node, setting.size, below)

pub accepted_lawful : (p : ConfigParts) → IsSetting p → (r : Reads) (image : Image) → length r.loaded ≤ node_size p → accepted p r ≡ Some image → IsImage p image
accepted_lawful p setting r (OfLeaf a) within is = let s = image_spelled p setting.ranged.value_words.0 r (OfLeaf a) within is in s.lawful
accepted_lawful p setting r (OfInner a) within is = let s = image_spelled p setting.ranged.value_words.0 r (OfInner a) within is in s.lawful

-- a chunk's nodes are nodes of the setting
module _ (p : ConfigParts) (setting : IsSetting p) (server chunk : ℕ) (server_is : server < p.servers) (chunk_is : chunk < p.chunks) where
  pub chunk_low : 1 ≤ first_node p server chunk
  unfolding first_node
  chunk_low = omega arith

  pub chunk_high : first_node p server chunk + p.chunk_nodes ≤ nodes p + 1
  unfolding first_node
  chunk_high =
      let row : (server + 1) * p.chunks ≤ p.servers * p.chunks = mul-le-mul_right p.chunks (omega (arith, server_is)) in
      let split : (server + 1) * p.chunks ≡ server * p.chunks + p.chunks = grind arith in
      let all : (server * p.chunks + chunk + 1) * p.chunk_nodes ≤ p.servers * p.chunks * p.chunk_nodes = mul-le-mul_right p.chunk_nodes (omega (arith, row, split, chunk_is)) in
      let part : (server * p.chunks + chunk + 1) * p.chunk_nodes ≡ (server * p.chunks + chunk) * p.chunk_nodes + p.chunk_nodes = grind arith in
      omega (arith, all, part)

pub chunk_is_in : (p : ConfigParts) → IsSetting p → (server chunk first count : ℕ) → server < p.servers → chunk < p.chunks → first ≡ first_node p server chunk → count ≡ p.chunk_nodes → (1 ≤ first) × (first + count ≤ nodes p + 1) × (1 ≤ count) × (nodes p ≤ 8388608)
chunk_is_in p setting server chunk first count server_is chunk_is first_is count_is =
    let low = chunk_low p setting server chunk server_is chunk_is in
    let high = chunk_high p setting server chunk server_is chunk_is in
    (omega (arith, low, first_is), omega (arith, high, first_is, count_is), omega (arith, setting.ranged.chunk_nodes.0, count_is), (nodes_small p setting).1)

pub spare_left : (p : ConfigParts) (first count : ℕ) (r : NodeRange) → 1 ≤ first → first + count ≤ nodes p + 1 → 1 ≤ count → r ≡ without_lowest (nodes_from first count) → AreSpare p r
spare_left p first count r low high some is = search (rules, differ_test)

-- some words are to be stored
pub filled_some : (p : ConfigParts) (write : Write) (body : List ℕ) → IsFilled p write body → 0 < length body
filled_some p write body h = search (rules, entry_size_is, node_size_is)

-- where something is to be written, words are there for it
pub filled_body : (p : ConfigParts) (write : Write) (body : List ℕ) → IsBody p write body → writes_nothing write ≡ false → IsFilled p write body
filled_body p write body h some = search rules
