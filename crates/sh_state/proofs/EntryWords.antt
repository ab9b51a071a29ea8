-- An entry in its leaf's words.
use Rattle.std.proofs.{Common.{rules, ◌≡◌, ℕ, ◌+◌, ◌<◌, ◌≤◌, List, length, get_or, take, drop, sym, ap, ◌∙◌, arith}, lemmas.Grind.{same_number_lists}}
use Rattle.std.proofs.lemmas.List.{length-take-le, length-drop, get_or-take, get_or-drop}
use Rattle.sh_base.{specs.{declared.config.ConfigParts.{ConfigParts}, Setting.{node_size}, Layout.{entry_at}}, proofs.LayoutLemmas.{node_size_is, entry_within, entry_size_is}}
use Rattle.sh_image.{specs.declared.leaf.LeafEntry.{LeafEntry}, proofs.{EntriesLemmas.{length-entries_in}, ReadLemmas.{entry_read}}}
use Rattle.sh_read.specs.Reading.{IsEntryWord}
use Rattle.sh_state.specs.Nodes.{standing_entries}

same_take : (n at : ℕ) (a b : List ℕ) → at + n ≤ length a → at + n ≤ length b → ((o : ℕ) → o < n → get_or a (at + o) 0 ≡ get_or b (at + o) 0) → take n (drop at a) ≡ take n (drop at b)
same_take n at a b long_a long_b same = search (rules, length-take-le, length-drop, same_number_lists, get_or-take, get_or-drop)

module _ (p : ConfigParts) where
  -- an entry is known by its words
  pub same_entry : (a b : List ℕ) (i : ℕ) (d : LeafEntry) → i < p.leaf → length a ≡ node_size p → length b ≡ node_size p → ((o : ℕ) → IsEntryWord p i o → get_or a o 0 ≡ get_or b o 0) → get_or (standing_entries p a) i d ≡ get_or (standing_entries p b) i d
  same_entry a b i d h long_a long_b same =
      let at : ℕ = entry_at p i in
      let room : at + 2 + p.value_words ≤ node_size p = omega (arith, entry_within p i h, node_size_is p) in
      let word = λ (o : ℕ) (less : o < 3 + p.value_words). same (at + o) record { low = omega arith; high = omega (arith, entry_size_is p, less) } in
      let front : get_or a at 0 ≡ get_or b at 0 = same at record { low = omega arith; high = omega (arith, entry_size_is p) } in
      let value = same_take p.value_words (at + 2) a b (omega (arith, long_a, room)) (omega (arith, long_b, room)) (λ o less. let e : at + 2 + o ≡ at + (2 + o) = omega arith in ap (λ (k : ℕ). get_or a k 0) e ∙ word (2 + o) (omega (arith, less)) ∙ ap (λ (k : ℕ). get_or b k 0) (sym e)) in
      entry_read p a i d h ∙ (λ t. record { version = front t; key = word 1 (omega arith) t; value = value t }) ∙ sym (entry_read p b i d h)

  pub length-entries_of : (ws : List ℕ) → length (standing_entries p ws) ≡ p.leaf
  length-entries_of ws = length-entries_in p.value_words p.leaf (drop 6 ws)
