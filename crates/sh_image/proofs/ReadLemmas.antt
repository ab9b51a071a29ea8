-- An entry by the words that the code reads.
use Rattle.std.proofs.Common.{◌≡◌, ℕ, ◌+◌, ◌*◌, ◌<◌, ◌≤◌, List, length, get_or, take, drop, refl, sym, ap, ◌∙◌, arith}
use Rattle.std.{proofs.lemmas.List.{get_or-drop, drop-drop, length-drop}, specs.Prelude.{slice_index}}
use Rattle.sh_base.specs.{declared.config.ConfigParts.{ConfigParts}, Setting.{nodes, node_size}, Layout.{entry_at, rear_at}}
use Rattle.sh_base.proofs.LayoutLemmas.{entry_at_by_words, node_size_is, node_size_by_words}
use Rattle.sh_image.specs.{declared.leaf.LeafEntry.{LeafEntry}, Entries.{entry_in, entries_in}, Leaf.{Leaf, leaf_in, leaf_words, HaveWords, Spells}, Seen.{HasWholeEntries}}
use Rattle.sh_image.proofs.{EntriesLemmas.{get_or-entries_in, values_in, AreWhole-from_each}, LeafLemmas.{leaf_words-leaf_in}}

word_at : (ws : List ℕ) (at o n : ℕ) → at + o ≡ n → get_or (drop at ws) o 0 ≡ get_or ws n 0
word_at ws at o n e = get_or-drop at ws o 0 ∙ ap (λ k. get_or ws k 0) e

module _ (p : ConfigParts) (ws : List ℕ) where
  -- an entry of the leaf that words spell
  pub entry_read : (i : ℕ) (d : LeafEntry) → i < p.leaf → get_or (entries_in p.value_words p.leaf (drop 6 ws)) i d ≡ record { version = get_or ws (entry_at p i) 0; key = get_or ws (entry_at p i + 1) 0; value = take p.value_words (drop (entry_at p i + 2) ws) }
  entry_read i d h =
      let at = entry_at p i in
      let here : drop ((3 + p.value_words) * i) (drop 6 ws) ≡ drop at ws = drop-drop ((3 + p.value_words) * i) 6 ws ∙ ap (λ n. drop n ws) (sym (entry_at_by_words p i)) in
      get_or-entries_in p.value_words p.leaf i (drop 6 ws) d h ∙ ap (entry_in p.value_words) here
      ∙ λ t. record { version = word_at ws at 0 at (omega arith) t; key = word_at ws at 1 (at + 1) refl t; value = take p.value_words (value_words_at t) }
    where
      value_words_at : drop 2 (drop (entry_at p i) ws) ≡ drop (entry_at p i + 2) ws
      value_words_at = drop-drop 2 (entry_at p i) ws

  -- a word of an entry, in the words behind the header
  entry_word : (i o : ℕ) → get_or (drop 6 ws) ((3 + p.value_words) * i + o) 0 ≡ get_or ws (entry_at p i + o) 0
  entry_word i o = word_at ws 6 ((3 + p.value_words) * i + o) (entry_at p i + o) (omega (arith, entry_at_by_words p i))

  entry_front_word : (i : ℕ) → get_or (drop 6 ws) ((3 + p.value_words) * i) 0 ≡ get_or ws (entry_at p i) 0
  entry_front_word i = word_at ws 6 ((3 + p.value_words) * i) (entry_at p i) (omega (arith, entry_at_by_words p i))

  -- words whose version pairs agree spell what is read from them
  pub words_from_untorn : length ws ≡ node_size p → slice_index ws 1 ≡ 0 → slice_index ws 5 ≡ 0 → slice_index ws (rear_at p) ≡ slice_index ws 0 → HasWholeEntries p ws → leaf_words (leaf_in p ws) ≡ ws
  words_from_untorn long level count rear whole =
      let size : rear_at p ≡ 6 + (3 + p.value_words) * p.leaf = omega (arith, node_size_is p, node_size_by_words p) in
      leaf_words-leaf_in p ws (long ∙ node_size_by_words p) level count (ap (λ n. get_or ws n 0) (sym size) ∙ rear)
      (AreWhole-from_each p.value_words p.leaf (drop 6 ws) (λ i h. entry_word i (2 + p.value_words) ∙ sym (whole i h) ∙ sym (entry_front_word i)))

pub entries_in_have_words : (p : ConfigParts) (ws : List ℕ) → length ws ≡ node_size p → HaveWords p (entries_in p.value_words p.leaf (drop 6 ws))
entries_in_have_words p ws long = values_in p.value_words p.leaf (drop 6 ws) (simp length-drop (omega (arith, node_size_by_words p)))

-- what a spelled leaf's header says
pub header_spelled : (p : ConfigParts) (ws : List ℕ) (a : Leaf) → Spells p ws a → (get_or ws 1 0 ≡ 0) × (get_or ws 5 0 ≡ 0) × (get_or ws 4 0 ≤ nodes p)
header_spelled p ws a s = (ap (λ l. get_or l 1 0) s.words, ap (λ l. get_or l 5 0) s.words, omega (arith, ap (λ l. get_or l 4 0) s.words, s.lawful.next))
