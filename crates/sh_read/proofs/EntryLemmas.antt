-- An entry that a READ loaded whole meets the rules between the fences that stand now.
use Rattle.std.{proofs.Common.{◌≡◌, ℕ, ◌+◌, ◌-◌, ◌<◌, ◌≤◌, List, length, take, drop, get_or, min, refl, sym, ap, subst, ◌∙◌, length-drop, arith}, specs.Prelude.{slice_index}}
use Rattle.std.{specs.List.{AllByRecursion}, proofs.lemmas.List.{ext_get_or, get_or-drop, get_or-take, length-take}}
use Rattle.sh_logic.proofs.Lists.{all_at}
use Rattle.sh_base.{specs.{declared.config.ConfigParts.{ConfigParts}, Setting.{entry_size, node_size}, Layout.{entry_at, entry_rear_at}}, proofs.LayoutLemmas.{entry_size_is}}
use Rattle.sh_image.{specs.{Entries.{entries_in}, Leaf.{Leaf, IsEntry, leaf_in, empty_entry}}, proofs.{EntriesLemmas.{length-entries_in}, LeafLemmas.{length-leaf_words, spelled_one, values_of}}}
use Rattle.sh_image.proofs.ReadLemmas.{entry_read}
use Rattle.sh_read.specs.{Moments.{Writing}, Reading.{IsEntryWord, IsCalm, IsLeafNode, StoodIn, StoodWith, read_entry, FitsRead, IsGoodEntry}}

module _ (p : ConfigParts) where
  -- the words of a value
  value_same : (xs ys : List ℕ) (at : ℕ) → length xs ≡ length ys → ((k : ℕ) → k < p.value_words → get_or xs (at + k) 0 ≡ get_or ys (at + k) 0) → take p.value_words (drop at xs) ≡ take p.value_words (drop at ys)
  value_same xs ys at long each =
      let lengths : length (take p.value_words (drop at xs)) ≡ length (take p.value_words (drop at ys)) = length-take p.value_words (drop at xs) ∙ ap (λ n. min p.value_words n) (length-drop at xs ∙ ap (λ n. n - at) long ∙ sym (length-drop at ys)) ∙ sym (length-take p.value_words (drop at ys)) in
      ext_get_or 0 (take p.value_words (drop at xs)) (take p.value_words (drop at ys)) lengths (λ k below.
      let few : k < p.value_words = omega (arith, below, length-take p.value_words (drop at xs)) in
      get_or-take p.value_words (drop at xs) k 0 few ∙ get_or-drop at xs k 0 ∙ each k few ∙ sym (get_or-take p.value_words (drop at ys) k 0 few ∙ get_or-drop at ys k 0))

  same_entry : (xs ys : List ℕ) (i : ℕ) → i < p.leaf → length xs ≡ length ys → ((o : ℕ) → IsEntryWord p i o → get_or xs o 0 ≡ get_or ys o 0) → read_entry p xs i ≡ read_entry p ys i
  same_entry xs ys i below long each =
      let word = λ (k : ℕ) (h : k < entry_size p). each (entry_at p i + k) (record { low = omega arith; high = omega (arith, h) }) in
      let front : get_or xs (entry_at p i) 0 ≡ get_or ys (entry_at p i) 0 = each (entry_at p i) (record { low = omega arith; high = omega (arith, entry_size_is p) }) in
      let key : get_or xs (entry_at p i + 1) 0 ≡ get_or ys (entry_at p i + 1) 0 = word 1 (omega (arith, entry_size_is p)) in
      let value = value_same xs ys (entry_at p i + 2) long (λ k h. ap (λ n. get_or xs n 0) (omega arith) ∙ word (2 + k) (omega (arith, h, entry_size_is p)) ∙ ap (λ n. get_or ys n 0) (omega arith)) in
      entry_read p xs i _ below ∙ (λ t. record { version = front t; key = key t; value = value t }) ∙ sym (entry_read p ys i _ below)

  length_leaf : (ws : List ℕ) → IsLeafNode p ws → length ws ≡ node_size p
  length_leaf ws leaf = ap length leaf.1.words ∙ length-leaf_words p leaf.0 leaf.1.lawful.count (values_of p leaf.0.low leaf.0.high leaf.0.entries leaf.1.lawful.entries)

  -- an entry of a leaf that stands
  leaf_rules : (ws : List ℕ) (i : ℕ) → i < p.leaf → IsLeafNode p ws → IsEntry p (slice_index ws 2) (slice_index ws 3) (read_entry p ws i)
  leaf_rules ws i below leaf =
      let is : leaf.0 ≡ leaf_in p ws = sym (spelled_one p ws leaf.0 leaf.1) in
      let rules = subst (λ (a : Leaf). AllByRecursion (IsEntry p a.low a.high) a.entries) is leaf.1.lawful.entries in
      all_at (IsEntry p (slice_index ws 2) (slice_index ws 3)) (entries_in p.value_words p.leaf (drop 6 ws)) i (empty_entry p) rules (omega (arith, length-entries_in p.value_words p.leaf (drop 6 ws), below))

  pub good_entry : (stood : List (List ℕ)) (s : List ℕ) (w : Writing) (from : ℕ) (got : List ℕ) → ((ws : List ℕ) → StoodIn stood ws → IsLeafNode p ws) → FitsRead p 0 (StoodWith stood s) s w from got → IsCalm p s w got → (i : ℕ) → i < p.leaf → from ≤ entry_at p i → slice_index got (entry_rear_at p i) ≡ slice_index got (entry_at p i) → IsGoodEntry p stood s got i
  good_entry stood s w from got leaves r calm i below low agree =
      let seen = r.whole refl calm i below low agree in
      let leaf = leaves seen.0 seen.1.0 in
      let same = same_entry got seen.0 i below (r.long ∙ sym (length_leaf seen.0 leaf)) seen.2 in
      let rules : IsEntry p (slice_index seen.0 2) (slice_index seen.0 3) (read_entry p got i) = subst (IsEntry p (slice_index seen.0 2) (slice_index seen.0 3)) (sym same) (leaf_rules seen.0 i below leaf) in
      record {
        node = seen.0;
        before = seen.1;
        same = same;
        rules = subst (λ (h : ℕ). IsEntry p (slice_index s 2) h (read_entry p got i)) (seen.1.1 3 (omega arith)) (subst (λ (l : ℕ). IsEntry p l (slice_index seen.0 3) (read_entry p got i)) (seen.1.1 2 (omega arith)) rules);
      }
