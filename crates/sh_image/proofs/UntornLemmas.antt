-- Words that spell a leaf are untorn: the two versions of the node and of each entry agree.
use Rattle.std.proofs.Common.{rules, ◌≡◌, ℕ, zero, suc, ◌+◌, ◌*◌, ◌<◌, ◌≤◌, List, [], ◌∷◌, ◌++◌, length, get_or, refl, sym, ap, ◌∙◌, append_assoc, arith}
use Rattle.std.{specs.List.{flat_map, AllByRecursion}, proofs.lemmas.List.{drop_at, get_or-drop}}
use Rattle.sh_base.{specs.{declared.config.ConfigParts.{ConfigParts}, Layout.{rear_at}}, proofs.LayoutLemmas.{entry_at_by_words, node_size_is, node_size_by_words}}
use Rattle.sh_image.specs.{declared.leaf.LeafEntry.{LeafEntry}, Entries.{entry_words}, Leaf.{Leaf, Spells, leaf_words}, Inner.{Inner, SpellsInner}}
use Rattle.sh_image.{proofs.InnerLemmas.{inner_spelled, inner_spelled_one, rear_spelled}, specs.declared.read.Seen.{Seen, TheVariants.{Leaf as LeafSeen, Inner as InnerSeen, Torn, TornEntry, Odd}}}
use Rattle.sh_image.{specs.Seen.{IsUntorn, SeenBy}, proofs.{EntriesLemmas.{length-entry_words, length-words}, LeafLemmas.{values_of, spelled_one}}}

-- the word behind a list
behind : (xs rest : List ℕ) (y n : ℕ) → length xs ≡ n → get_or (xs ++ y ∷ rest) n 0 ≡ y
behind xs rest y n e = ap (λ k. get_or (xs ++ y ∷ rest) k 0) (sym e) ∙ at_end xs
  where
    at_end : (xs : List ℕ) → get_or (xs ++ y ∷ rest) (length xs) 0 ≡ y
    at_end [] = refl
    at_end (x ∷ xs) = at_end xs

module _ (count : ℕ) where
  none : (3 + count) * 0 ≡ 0
  none = omega arith

  -- the words of one entry, whatever follows
  whole_one : (e : LeafEntry) (rest : List ℕ) → length e.value ≡ count → get_or (entry_words e ++ rest) 0 0 ≡ get_or (entry_words e ++ rest) (2 + count) 0
  whole_one e rest h = search (rules, append_assoc, behind)

  past_one : (e : LeafEntry) (rest : List ℕ) (k : ℕ) → length e.value ≡ count → get_or (entry_words e ++ rest) (3 + count + k) 0 ≡ get_or rest k 0
  past_one e rest k h = sym (get_or-drop (3 + count) (entry_words e ++ rest) k 0) ∙ ap (λ l. get_or l k 0) (drop_at (entry_words e) rest (3 + count) (length-entry_words count e h))

  whole_each : (es : List LeafEntry) (rest : List ℕ) (i : ℕ) → AllByRecursion (λ e. length e.value ≡ count) es → i < length es → get_or (flat_map entry_words es ++ rest) ((3 + count) * i) 0 ≡ get_or (flat_map entry_words es ++ rest) ((3 + count) * i + (2 + count)) 0
  whole_each [] rest i h below = absurd (omega arith)
  whole_each (e ∷ es) rest zero h below =
      let more = flat_map entry_words es ++ rest in
      let zero_is : 0 + (2 + count) ≡ 2 + count = omega arith in
      rw (append_assoc (entry_words e) (flat_map entry_words es) rest, none, zero_is) (whole_one e more h.0)
  whole_each (e ∷ es) rest (suc i) h below =
      let more = flat_map entry_words es ++ rest in
      let front : (3 + count) * suc i ≡ 3 + count + (3 + count) * i = omega arith in
      let rear : (3 + count) * suc i + (2 + count) ≡ 3 + count + ((3 + count) * i + (2 + count)) = omega arith in
      rw (append_assoc (entry_words e) (flat_map entry_words es) rest, front) (past_one e more ((3 + count) * i) h.0 ∙ whole_each es rest i h.1 (omega arith) ∙ sym (past_one e more ((3 + count) * i + (2 + count)) h.0) ∙ ap (λ k. get_or (entry_words e ++ more) k 0) (omega arith))

module _ (p : ConfigParts) (ws : List ℕ) (a : Leaf) (s : Spells p ws a) where
  values : AllByRecursion (λ e. length e.value ≡ p.value_words) a.entries
  values = values_of p _ _ _ s.lawful.entries

  six_on : (k : ℕ) → get_or ws (6 + k) 0 ≡ get_or (flat_map entry_words a.entries ++ a.version ∷ []) k 0
  six_on k = ap (λ l. get_or l (6 + k) 0) s.words ∙ sym (get_or-drop 6 (leaf_words a) k 0)

  pub untorn_spelled : IsUntorn p ws
  untorn_spelled = record {
    node =
        let size : rear_at p ≡ 6 + (3 + p.value_words) * p.leaf = omega (arith, node_size_is p, node_size_by_words p) in
        let long : length (flat_map entry_words a.entries) ≡ (3 + p.value_words) * p.leaf = length-words p.value_words a.entries values ∙ ap (λ k. (3 + p.value_words) * k) s.lawful.count in
        ap (λ l. get_or l 0 0) s.words ∙ sym (ap (λ k. get_or ws k 0) size ∙ six_on ((3 + p.value_words) * p.leaf) ∙ behind (flat_map entry_words a.entries) [] a.version _ long);
    entries = λ leaf i below.
        ap (λ k. get_or ws k 0) (entry_at_by_words p i) ∙ six_on ((3 + p.value_words) * i)
        ∙ whole_each p.value_words a.entries (a.version ∷ []) i values (omega (arith, s.lawful.count))
        ∙ sym (ap (λ k. get_or ws k 0) (omega (arith, entry_at_by_words p i)) ∙ six_on ((3 + p.value_words) * i + (2 + p.value_words)));
  }

-- The causes of a reader's answers shut each other out: of words that spell a leaf it answers that leaf.
pub seen_spelled : (p : ConfigParts) (ws : List ℕ) (a : Leaf) (seen : Seen) → Spells p ws a → SeenBy p ws seen → seen ≡ LeafSeen a
seen_spelled p ws a (LeafSeen b) s h = ap LeafSeen (sym (spelled_one p ws b h) ∙ spelled_one p ws a s)
seen_spelled p ws a (InnerSeen b) s h = absurd (omega (arith, ap (λ l. get_or l 1 0) s.words, ap (λ l. get_or l 1 0) h.words, h.lawful.level))
seen_spelled p ws a (Torn rear front) s h = absurd (h.2 (h.0 ∙ sym (untorn_spelled p ws a s).node ∙ sym h.1))
seen_spelled p ws a (TornEntry index rear front) s h = absurd (h.torn.differ ((untorn_spelled p ws a s).entries h.leaf index h.torn.in_range))
seen_spelled p ws a Odd s h = absurd (h.1 a s)

pub untorn_inner : (p : ConfigParts) (ws : List ℕ) (a : Inner) → 1 ≤ p.value_words → SpellsInner p ws a → IsUntorn p ws
untorn_inner p ws a some s = search (rules, rear_spelled, inner_spelled)

pub seen_inner : (p : ConfigParts) (ws : List ℕ) (a : Inner) (seen : Seen) → 1 ≤ p.value_words → SpellsInner p ws a → SeenBy p ws seen → seen ≡ InnerSeen a
seen_inner p ws a (LeafSeen b) some s h = absurd (omega (arith, ap (λ l. get_or l 1 0) h.words, (inner_spelled p ws a s).3))
seen_inner p ws a (InnerSeen b) some s h = ap InnerSeen (sym (inner_spelled_one p ws b h) ∙ inner_spelled_one p ws a s)
seen_inner p ws a (Torn rear front) some s h = absurd (h.2 (h.0 ∙ sym (untorn_inner p ws a some s).node ∙ sym h.1))
seen_inner p ws a (TornEntry index rear front) some s h = absurd (omega (arith, h.leaf, (inner_spelled p ws a s).3))
seen_inner p ws a Odd some s h = absurd (h.2 a s)
