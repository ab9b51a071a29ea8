-- Words spell one leaf at most, and words that pass the tests spell theirs.
use Rattle.std.proofs.Common.{rules, ◌≡◌, ℕ, suc, ◌+◌, ◌*◌, List, [], ◌∷◌, length, get_or, drop, ap, ◌∙◌, length-append, arith}
use Rattle.std.{specs.{Prelude.{slice_index}, List.{flat_map, AllByRecursion}}, proofs.{Math.Seq.{drop-cons}, lemmas.List.{drop_all}}}
use Rattle.sh_base.{specs.{declared.config.ConfigParts.{ConfigParts}, Setting.{node_size}}, proofs.LayoutLemmas.{node_size_by_words}}
use Rattle.sh_image.specs.{declared.leaf.LeafEntry.{LeafEntry}, Entries.{entry_words, AreWhole}, Leaf.{Leaf, leaf_words, leaf_in, HaveWords, IsEntry, Spells}}
use Rattle.sh_image.proofs.EntriesLemmas.{entries_in-words, words-entries_in, length-words}

-- a list with one element more than n
last_one : (n : ℕ) (ws : List ℕ) → length ws ≡ n + 1 → drop n ws ≡ get_or ws n 0 ∷ []
last_one n ws h = drop-cons ws n 0 (omega arith) ∙ ap (λ l. get_or ws n 0 ∷ l) (drop_all (suc n) ws (omega arith))

module _ (p : ConfigParts) where
  -- a leaf is read back from its words
  pub leaf_in-leaf_words : (a : Leaf) → length a.entries ≡ p.leaf → HaveWords p a.entries → leaf_in p (leaf_words a) ≡ a
  leaf_in-leaf_words a count h = search (rules, entries_in-words)

  -- the values of a lawful leaf's entries have the setting's words
  pub values_of : (low high : ℕ) (es : List LeafEntry) → AllByRecursion (IsEntry p low high) es → HaveWords p es
  values_of low high [] h = tt
  values_of low high (e ∷ es) h = (h.0.value, values_of low high es h.1)

  -- words spell the leaf that is read from them, and no other
  pub spelled_one : (ws : List ℕ) (a : Leaf) → Spells p ws a → leaf_in p ws ≡ a
  spelled_one ws a s = ap (leaf_in p) s.words ∙ leaf_in-leaf_words a s.lawful.count (values_of _ _ _ s.lawful.entries)

  -- words whose version pairs agree are those of the leaf that is read from them
  pub leaf_words-leaf_in : (ws : List ℕ) → length ws ≡ 7 + (3 + p.value_words) * p.leaf → slice_index ws 1 ≡ 0 → slice_index ws 5 ≡ 0 → slice_index ws (6 + (3 + p.value_words) * p.leaf) ≡ slice_index ws 0 → AreWhole p.value_words p.leaf (drop 6 ws) → leaf_words (leaf_in p ws) ≡ ws
  leaf_words-leaf_in ws long level_is count_is rear whole = search (rules, last_one, words-entries_in)

  pub length-leaf_words : (a : Leaf) → length a.entries ≡ p.leaf → HaveWords p a.entries → length (leaf_words a) ≡ node_size p
  length-leaf_words a count h = omega (arith, length-append (flat_map entry_words a.entries) (a.version ∷ []), length-words p.value_words a.entries h, node_size_by_words p, ap (λ k. (3 + p.value_words) * k) count)
