-- An entry in its leaf's words, and the leaf with another entry stored.
use Rattle.std.proofs.Common.{◌≡◌, ◌≢◌, ◌⊎◌, ℕ, suc, ◌+◌, ◌<◌, ◌≤◌, List, [], ◌∷◌, length, get_or, set, take, drop, sym, ap, ◌∙◌, subst, inl, inr, arith, length-set, get_or-set_same, get_or-set_other}
use Rattle.std.proofs.lemmas.{Bool.{cases_lt, cases_eq}, Grind.{same_number_lists}, List.{same_lists, length-take-le, length-drop, get_or-take, get_or-drop, get_or_append_left, get_or-append-add}}
use Rattle.sh_logic.proofs.Lists.{all_set}
use Rattle.sh_base.specs.{declared.config.ConfigParts.{ConfigParts}, Setting.{node_size}, Layout.{entry_at, entry_rear_at, rear_at}}
use Rattle.sh_base.proofs.LayoutLemmas.{node_size_is, entry_within, entry_high, entry_low, entry_apart, entry_size_is}
use Rattle.sh_image.{specs.{declared.leaf.LeafEntry.{LeafEntry}, Entries.{entry_words}, Leaf.{IsEntry, IsLeaf, leaf_in, Spells}}, proofs.EntriesLemmas.{length-entry_words}}
use Rattle.sh_image.proofs.{ReadLemmas.{entry_read, words_from_untorn, header_spelled}, UntornLemmas.{untorn_spelled}}
use Rattle.sh_read.specs.Reading.{IsEntryWord}
use Rattle.sh_state.{specs.Nodes.{standing_entries}, proofs.EntryWords.{same_entry, length-entries_of}}
use Rattle.sh_acts.{specs.Images.{patched}, proofs.StoreLemmas.{length-patched, patched_inside, patched_outside}}

module _ (p : ConfigParts) where
  module _ (ws : List ℕ) (j : ℕ) (x : LeafEntry) (long : length ws ≡ node_size p) (h : j < p.leaf) (value : length x.value ≡ p.value_words) where
    abbrev now : List ℕ
    now = patched ws (entry_at p j) (entry_words x)

    size : length (entry_words x) ≡ 3 + p.value_words
    size = length-entry_words p.value_words x value

    long_now : length now ≡ node_size p
    long_now = length-patched ws (entry_at p j) (entry_words x) ∙ long

    room : entry_at p j + length (entry_words x) ≤ length ws
    room = omega (arith, size, long, entry_within p j h, node_size_is p)

    stays : (o : ℕ) → (o < entry_at p j) ⊎ (entry_at p j + (3 + p.value_words) ≤ o) → get_or now o 0 ≡ get_or ws o 0
    stays o k = patched_outside ws (entry_at p j) (entry_words x) o (elim k [ inl lt ↦ inl lt | inr le ↦ inr (omega (arith, le, size)) ])

    word : (o : ℕ) → o < 3 + p.value_words → get_or now (entry_at p j + o) 0 ≡ get_or (entry_words x) o 0
    word o less = patched_inside ws (entry_at p j) (entry_words x) o (omega (arith, less, size)) room

    head_word : (o : ℕ) → o < 6 → get_or now o 0 ≡ get_or ws o 0
    head_word o less = stays o (inl (omega (arith, less, entry_low p j)))

    other_word : (k o : ℕ) → k ≢ j → IsEntryWord p k o → get_or now o 0 ≡ get_or ws o 0
    other_word k o ne at = stays o (elim (cases_lt k j) [ inl lt ↦ inl (omega (arith, at.high, entry_apart p k j lt)) | inr ge ↦ let lt : j < k = omega (arith, ge, ne) in inr (omega (arith, at.low, entry_apart p j k lt, entry_size_is p)) ])

    front_word : get_or now (entry_at p j) 0 ≡ x.version
    front_word = let none : entry_at p j ≡ entry_at p j + 0 = omega arith in ap (λ (o : ℕ). get_or now o 0) none ∙ word 0 (omega arith)

    rear_word : get_or now (entry_rear_at p j) 0 ≡ x.version
    rear_word = word (2 + p.value_words) (omega arith) ∙ last
      where
        last : get_or (entry_words x) (2 + p.value_words) 0 ≡ x.version
        last = let e : 2 + p.value_words ≡ suc (suc (length x.value + 0)) = omega (arith, value) in ap (λ (o : ℕ). get_or (entry_words x) o 0) e ∙ get_or-append-add x.value (x.version ∷ []) 0 0

    here : (d : LeafEntry) → get_or (standing_entries p now) j d ≡ x
    here d =
        let at : ℕ = entry_at p j in
        let whole : take p.value_words (drop (at + 2) now) ≡ x.value = same_number_lists (take p.value_words (drop (at + 2) now)) x.value
        (length-take-le p.value_words (drop (at + 2) now) (omega (arith, length-drop (at + 2) now, long_now, entry_within p j h, node_size_is p)) ∙ sym value)
        (λ k lt.
        let less : k < p.value_words = omega (arith, lt, length-take-le p.value_words (drop (at + 2) now) (omega (arith, length-drop (at + 2) now, long_now, entry_within p j h, node_size_is p))) in
        let e : at + 2 + k ≡ at + (2 + k) = omega arith in
        let two : 2 + k ≡ suc (suc k) = omega arith in
        get_or-take p.value_words (drop (at + 2) now) k 0 less ∙ get_or-drop (at + 2) now k 0 ∙ ap (λ (o : ℕ). get_or now o 0) e ∙ word (2 + k) (omega (arith, less)) ∙ ap (λ (o : ℕ). get_or (entry_words x) o 0) two ∙ get_or_append_left x.value (x.version ∷ []) 0 k (omega (arith, less, value))) in
        entry_read p now j d h ∙ (λ t. record { version = front_word t; key = word 1 (omega arith) t; value = whole t })

    -- the leaf with the entry stored
    pub entries_patched : standing_entries p now ≡ set (standing_entries p ws) j x
    entries_patched = same_lists (standing_entries p now) (set (standing_entries p ws) j x) (length-entries_of p now ∙ sym (length-set (standing_entries p ws) j x ∙ length-entries_of p ws)) (λ k d lt. elim (cases_eq k j) [
      | inl e ↦ ap (λ (z : ℕ). get_or (standing_entries p now) z d) e ∙ here d ∙ sym (ap (λ (z : ℕ). get_or (set (standing_entries p ws) j x) z d) e ∙ get_or-set_same (standing_entries p ws) j x d (omega (arith, h, length-entries_of p ws)))
      | inr ne ↦ same_entry p now ws k d (omega (arith, lt, length-entries_of p now)) long_now long (λ o at. other_word k o ne at) ∙ sym (get_or-set_other (standing_entries p ws) j k x d ne)
    ])

    pub leaf_patched : leaf_in p now ≡ record { version = get_or ws 0 0; low = get_or ws 2 0; high = get_or ws 3 0; next = get_or ws 4 0; entries = set (standing_entries p ws) j x }
    leaf_patched = λ t. record { version = head_word 0 (omega arith) t; low = head_word 2 (omega arith) t; high = head_word 3 (omega arith) t; next = head_word 4 (omega arith) t; entries = entries_patched t }

    pub spelled_patched : Spells p ws (leaf_in p ws) → IsEntry p (get_or ws 2 0) (get_or ws 3 0) x → Spells p now (leaf_in p now)
    spelled_patched s good =
        let head = header_spelled p ws (leaf_in p ws) s in
        let untorn = untorn_spelled p ws (leaf_in p ws) s in
        let l : IsLeaf p (leaf_in p ws) = s.lawful in
        let rear : get_or now (rear_at p) 0 ≡ get_or ws (rear_at p) 0 = stays (rear_at p) (inr (omega (arith, entry_high p j h, entry_size_is p))) in
        let level : get_or now 1 0 ≡ 0 = head_word 1 (omega arith) ∙ head.0 in
        record {
          words = sym (words_from_untorn p now long_now level (head_word 5 (omega arith) ∙ head.1) (rear ∙ sym untorn.node ∙ sym (head_word 0 (omega arith))) (λ k lt. elim (cases_eq k j) [
            | inl e ↦ subst (λ (z : ℕ). get_or now (entry_at p z) 0 ≡ get_or now (entry_rear_at p z) 0) (sym e) (front_word ∙ sym rear_word)
            | inr ne ↦ other_word k (entry_at p k) ne record { low = omega arith; high = omega (arith, entry_size_is p) } ∙ untorn.entries head.0 k lt ∙ sym (other_word k (entry_rear_at p k) ne record { low = omega arith; high = omega (arith, entry_size_is p) })
          ]));
          lawful = subst (IsLeaf p) (sym leaf_patched) record {
            version = l.version;
            fences = l.fences;
            next = l.next;
            end = l.end;
            count = length-set (standing_entries p ws) j x ∙ l.count;
            entries = all_set (IsEntry p (get_or ws 2 0) (get_or ws 3 0)) (standing_entries p ws) j x l.entries good;
          };
        }
