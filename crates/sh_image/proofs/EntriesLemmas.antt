-- Entries are read back from their words, and words from the entries that they spell.
use Rattle.std.proofs.Common.{rules, ◌≡◌, ℕ, zero, suc, ◌+◌, ◌*◌, ◌<◌, ◌≤◌, List, [], ◌∷◌, ◌++◌, length, get_or, take, drop, refl, sym, ap, subst, ◌∙◌, append_assoc, length-append, arith}
use Rattle.std.{specs.{Prelude.{Some, slice_get, slice_index}, List.{flat_map, AllByRecursion}}, proofs.{lemmas.Option.{same_Some}, Math.Seq.{drop-cons}}}
use Rattle.std.proofs.lemmas.List.{take_at, drop_at, drop-drop, get_or-drop, length-drop, length-take-le, take-append-drop}
use Rattle.sh_image.specs.{declared.leaf.LeafEntry.{LeafEntry}, Entries.{entry_words, entry_in, entries_in, AreWhole}}

same_at : (i j : ℕ) (ws : List ℕ) → i ≡ j → get_or ws i 0 ≡ get_or ws j 0
same_at i j ws e = ap (λ n. get_or ws n 0) e

module _ (count : ℕ) where
  none : (3 + count) * 0 ≡ 0
  none = omega arith

  pub length-entry_words : (e : LeafEntry) → length e.value ≡ count → length (entry_words e) ≡ 3 + count
  length-entry_words e h = omega (arith, h, length-append e.value (e.version ∷ []))

  -- an entry is read from its words, whatever follows
  entry_in-entry_words : (e : LeafEntry) (rest : List ℕ) → length e.value ≡ count → entry_in count (entry_words e ++ rest) ≡ e
  entry_in-entry_words e rest h = search (rules, append_assoc, take_at)

  -- so are entries in a row
  pub entries_in-words : (es : List LeafEntry) (rest : List ℕ) → AllByRecursion (λ e. length e.value ≡ count) es → entries_in count (length es) (flat_map entry_words es ++ rest) ≡ es
  entries_in-words [] rest h = refl
  entries_in-words (e ∷ es) rest h =
      let more = flat_map entry_words es ++ rest in
      let first = entry_in-entry_words e more h.0 in
      let behind = ap (entries_in count (length es)) (drop_at (entry_words e) more (3 + count) (length-entry_words e h.0)) ∙ entries_in-words es rest h.1 in
      ap (entries_in count (suc (length es))) (append_assoc (entry_words e) (flat_map entry_words es) rest) ∙ λ i. first i ∷ behind i

  -- a whole entry spells its words
  entry_words-entry_in : (ws : List ℕ) → 3 + count ≤ length ws → slice_index ws (2 + count) ≡ slice_index ws 0 → entry_words (entry_in count ws) ++ drop (3 + count) ws ≡ ws
  entry_words-entry_in [] long whole = absurd (omega arith)
  entry_words-entry_in (a ∷ []) long whole = absurd (omega arith)
  entry_words-entry_in (a ∷ b ∷ ws) long whole =
      let three : 3 + count ≡ suc (suc (suc count)) = omega arith in
      let two : 2 + count ≡ suc (suc count) = omega arith in
      let rear : get_or ws count 0 ≡ a = rw two at whole in
      let rest : a ∷ drop (suc count) ws ≡ drop count ws = ap (λ r. r ∷ drop (suc count) ws) (sym rear) ∙ sym (drop-cons ws count 0 (omega arith)) in
      rw three (ap (λ l. a ∷ b ∷ l) (append_assoc (take count ws) (a ∷ []) (drop (suc count) ws) ∙ ap (λ l. take count ws ++ l) rest ∙ take-append-drop count ws))

  pub words-entries_in : (k : ℕ) (ws : List ℕ) → (3 + count) * k ≤ length ws → AreWhole count k ws → flat_map entry_words (entries_in count k ws) ++ drop ((3 + count) * k) ws ≡ ws
  words-entries_in zero ws long whole = rw none refl
  words-entries_in (suc k) ws long whole =
      let rest = drop (3 + count) ws in
      let step : (3 + count) * suc k ≡ 3 + count + (3 + count) * k = omega arith in
      let front = entry_words (entry_in count ws) in
      let behind = words-entries_in k rest (simp length-drop (omega arith)) whole.1 in
      let tail : drop ((3 + count) * suc k) ws ≡ drop ((3 + count) * k) rest = ap (λ n. drop n ws) step ∙ sym (drop-drop ((3 + count) * k) (3 + count) ws) in
      ap (λ l. front ++ flat_map entry_words (entries_in count k rest) ++ l) tail
      ∙ append_assoc front (flat_map entry_words (entries_in count k rest)) (drop ((3 + count) * k) rest)
      ∙ ap (λ l. front ++ l) behind
      ∙ entry_words-entry_in ws (omega arith) whole.0

  -- an entry by its index
  pub get_or-entries_in : (k i : ℕ) (ws : List ℕ) (d : LeafEntry) → i < k → get_or (entries_in count k ws) i d ≡ entry_in count (drop ((3 + count) * i) ws)
  get_or-entries_in zero i ws d h = absurd (omega arith)
  get_or-entries_in (suc k) zero ws d h = rw none refl
  get_or-entries_in (suc k) (suc i) ws d h =
      let step : (3 + count) * suc i ≡ 3 + count + (3 + count) * i = omega arith in
      get_or-entries_in k i (drop (3 + count) ws) d (omega arith) ∙ ap (entry_in count) (drop-drop ((3 + count) * i) (3 + count) ws ∙ ap (λ n. drop n ws) (sym step))

  pub length-entries_in : (k : ℕ) (ws : List ℕ) → length (entries_in count k ws) ≡ k
  length-entries_in zero ws = refl
  length-entries_in (suc k) ws = ap suc (length-entries_in k (drop (3 + count) ws))

  -- all entries are whole, by their indexes
  pub AreWhole-from_each : (k : ℕ) (ws : List ℕ) → ((i : ℕ) → i < k → slice_index ws ((3 + count) * i + (2 + count)) ≡ slice_index ws ((3 + count) * i)) → AreWhole count k ws
  AreWhole-from_each zero ws each = tt
  AreWhole-from_each (suc k) ws each =
      let first : slice_index ws (2 + count) ≡ slice_index ws 0 = same_at (2 + count) ((3 + count) * 0 + (2 + count)) ws (omega arith) ∙ each 0 (omega arith) ∙ same_at ((3 + count) * 0) 0 ws none in (
        first,
        AreWhole-from_each k (drop (3 + count) ws) (λ i h.
            get_or-drop (3 + count) ws ((3 + count) * i + (2 + count)) 0
            ∙ same_at (3 + count + ((3 + count) * i + (2 + count))) ((3 + count) * suc i + (2 + count)) ws (omega arith)
            ∙ each (suc i) (omega arith)
            ∙ same_at ((3 + count) * suc i) (3 + count + (3 + count) * i) ws (omega arith)
            ∙ sym (get_or-drop (3 + count) ws ((3 + count) * i) 0)),
      )

  pub length-words : (es : List LeafEntry) → AllByRecursion (λ e. length e.value ≡ count) es → length (flat_map entry_words es) ≡ (3 + count) * length es
  length-words [] h = sym none
  length-words (e ∷ es) h = omega (arith, length-append (entry_words e) (flat_map entry_words es), length-entry_words e h.0, length-words es h.1)

  -- the values that are read have count words
  pub values_in : (k : ℕ) (ws : List ℕ) → (3 + count) * k ≤ length ws → AllByRecursion (λ e. length e.value ≡ count) (entries_in count k ws)
  values_in zero ws long = tt
  values_in (suc k) ws long =
      let step : (3 + count) * suc k ≡ 3 + count + (3 + count) * k = omega arith in
      (length-take-le count (drop 2 ws) (simp length-drop (omega arith)), values_in k (drop (3 + count) ws) (simp length-drop (omega arith)))

  -- the value of an entry by its index
  pub value_at : (es : List LeafEntry) (i : ℕ) (e : LeafEntry) → AllByRecursion (λ x. length x.value ≡ count) es → slice_get es i ≡ Some e → length e.value ≡ count
  value_at [] i e h is = absurd (cc)
  value_at (x ∷ es) zero e h is = subst (λ (y : LeafEntry). length y.value ≡ count) (same_Some x e is) h.0
  value_at (x ∷ es) (suc i) e h is = value_at es i e h.1 is
