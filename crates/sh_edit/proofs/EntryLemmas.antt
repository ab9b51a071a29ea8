-- A leaf with one entry written holds the put or the del, keeps its keys apart, meets the rules, and has its words from
-- before but for that entry's.
use Rattle.std.proofs.Common.{rules, ◌≡◌, ◌≢◌, ℕ, zero, suc, ◌+◌, ◌*◌, ◌<◌, List, [], ◌∷◌, ◌++◌, length, set, take, drop, inl, inr, refl, sym, ap, ◌∙◌, append_assoc, arith}
use Rattle.std.{proofs.{Math.Seq.{take-append-add, drop-append-add}, lemmas.{Bool.{cases_lt}, List.{drop_at, length-set}}}, specs.List.{flat_map, AllByRecursion}}
use Rattle.sh_logic.proofs.Lists.{all_set}
use Rattle.sh_base.{specs.{declared.config.ConfigParts.{ConfigParts}, Setting.{entry_size}, Layout.{entry_at}}, proofs.LayoutLemmas.{entry_at_by_words, entry_size_is}}
use Rattle.sh_map.specs.Map.{put, del}
use Rattle.sh_image.{specs.{declared.leaf.LeafEntry.{LeafEntry}, Entries.{entry_words}, Leaf.{Leaf, header, leaf_words, IsEntry, IsLeaf}}, proofs.EntriesLemmas.{length-entry_words}}
use Rattle.sh_image.proofs.LeafLemmas.{values_of}
use Rattle.sh_edit.specs.{Held.{map_of_entries, key_at, HasKeysOnce}, Placing.{IsFirstWith, IsPlaceFor}, Rewriting.{rewritten, with_entry}}
use Rattle.sh_edit.proofs.{HeldLemmas.{over_is_put, new_is_put, removed_is_del, once-set}, RewriteLemmas.{rewritten_once}}

-- no other entry has the key that is put at its place
module _ (es : List LeafEntry) (key i : ℕ) (once : HasKeysOnce es) (at : IsPlaceFor es key i) where
  place_within : i < length es
  place_within = elim at [ inl here ↦ here.in_range | inr new ↦ new.1.in_range ]

  place_apart : (j : ℕ) → j < length es → j ≢ i → key_at es j ≡ key → key ≡ 0
  place_apart j below ne is = search (rules, cases_lt)

module _ (a : Leaf) (i : ℕ) (once : HasKeysOnce a.entries) where
  pub rewritten_placed_once : (key : ℕ) (value : List ℕ) → IsPlaceFor a.entries key i → HasKeysOnce (rewritten a i key value).entries
  rewritten_placed_once key value at = rewritten_once a i key value (place_within a.entries key i once at) once (place_apart a.entries key i once at)

  pub rewritten_removed_once : (zeros : List ℕ) → i < length a.entries → HasKeysOnce (rewritten a i 0 zeros).entries
  rewritten_removed_once zeros below = rewritten_once a i 0 zeros below once (λ j in_range ne is. refl)

  pub entry_placed_once : (e : LeafEntry) → IsPlaceFor a.entries e.key i → HasKeysOnce (with_entry a i e).entries
  entry_placed_once e at = once-set a.entries i e (place_within a.entries e.key i once at) once (place_apart a.entries e.key i once at)

  pub entry_removed_once : (e : LeafEntry) → e.key ≡ 0 → i < length a.entries → HasKeysOnce (with_entry a i e).entries
  entry_removed_once e empty below = once-set a.entries i e below once (λ j in_range ne is. empty)

pub entry_placed : (a : Leaf) (i : ℕ) (e : LeafEntry) → e.key ≢ 0 → IsPlaceFor a.entries e.key i → map_of_entries (with_entry a i e).entries ≡ put (map_of_entries a.entries) e.key e.value
entry_placed a i e nz at = elim at [ inl here ↦ over_is_put a.entries i e nz here | inr new ↦ new_is_put a.entries i e nz new.0 new.1 ]

pub entry_removed : (a : Leaf) (i key : ℕ) (e : LeafEntry) → key ≢ 0 → e.key ≡ 0 → HasKeysOnce a.entries → IsFirstWith a.entries key i → map_of_entries (with_entry a i e).entries ≡ del (map_of_entries a.entries) key
entry_removed a i key e nz empty once at = removed_is_del a.entries i key e empty nz once at

pub entry_lawful : (p : ConfigParts) (a : Leaf) (i : ℕ) (e : LeafEntry) → IsLeaf p a → IsEntry p a.low a.high e → IsLeaf p (with_entry a i e)
entry_lawful p a i e h lawful = search (rules, length-set, all_set)

-- ---- the words
module _ (count : ℕ) where
  none : (3 + count) * 0 ≡ 0
  none = omega arith

  set_words : (es : List LeafEntry) (i : ℕ) (e : LeafEntry) (rest : List ℕ) → AllByRecursion (λ x. length x.value ≡ count) es → i < length es → flat_map entry_words (set es i e) ++ rest ≡ take ((3 + count) * i) (flat_map entry_words es ++ rest) ++ (entry_words e ++ drop ((3 + count) * i + (3 + count)) (flat_map entry_words es ++ rest))
  set_words [] i e rest h below = absurd (omega arith)
  set_words (x ∷ es) zero e rest h below =
      let more = flat_map entry_words es ++ rest in
      let all = (entry_words x ++ flat_map entry_words es) ++ rest in
      let size : (3 + count) * 0 + (3 + count) ≡ 3 + count = omega arith in
      let cut : drop ((3 + count) * 0 + (3 + count)) all ≡ more = ap (λ n. drop n all) size ∙ ap (drop (3 + count)) (append_assoc (entry_words x) (flat_map entry_words es) rest) ∙ drop_at (entry_words x) more (3 + count) (length-entry_words count x h.0) in
      append_assoc (entry_words e) (flat_map entry_words es) rest
      ∙ ap (λ l. entry_words e ++ l) (sym cut)
      ∙ ap (λ n. take n all ++ (entry_words e ++ drop ((3 + count) * 0 + (3 + count)) all)) (sym none)
  set_words (x ∷ es) (suc i) e rest h below =
      let more = flat_map entry_words es ++ rest in
      let all = (entry_words x ++ flat_map entry_words es) ++ rest in
      let here = (3 + count) * i in
      let long = length-entry_words count x h.0 in
      let step : (3 + count) * suc i ≡ 3 + count + here = omega arith in
      let front_at : (3 + count) * suc i ≡ length (entry_words x) + here = step ∙ ap (λ n. n + here) (sym long) in
      let behind_at : (3 + count) * suc i + (3 + count) ≡ length (entry_words x) + (here + (3 + count)) = omega (arith, front_at) in
      let front : take ((3 + count) * suc i) all ≡ entry_words x ++ take here more = ap (λ n. take n all) front_at ∙ ap (take (length (entry_words x) + here)) (append_assoc (entry_words x) (flat_map entry_words es) rest) ∙ take-append-add (entry_words x) more here in
      let behind : drop ((3 + count) * suc i + (3 + count)) all ≡ drop (here + (3 + count)) more = ap (λ n. drop n all) behind_at ∙ ap (drop (length (entry_words x) + (here + (3 + count)))) (append_assoc (entry_words x) (flat_map entry_words es) rest) ∙ drop-append-add (entry_words x) more (here + (3 + count)) in
      append_assoc (entry_words x) (flat_map entry_words (set es i e)) rest
      ∙ ap (λ l. entry_words x ++ l) (set_words es i e rest h.1 (omega arith))
      ∙ sym (append_assoc (entry_words x) (take here more) (entry_words e ++ drop (here + (3 + count)) more))
      ∙ (λ t. sym front t ++ (entry_words e ++ sym behind t))

-- a leaf's words with one entry written are those from before but for that entry's
pub entry_written : (p : ConfigParts) (a : Leaf) (i : ℕ) (e : LeafEntry) → IsLeaf p a → i < p.leaf → leaf_words (with_entry a i e) ≡ take (entry_at p i) (leaf_words a) ++ (entry_words e ++ drop (entry_at p i + entry_size p) (leaf_words a))
entry_written p a i e h below =
    let rest = flat_map entry_words a.entries ++ a.version ∷ [] in
    let here = (3 + p.value_words) * i in
    let six : length (header a) ≡ 6 = refl in
    let front_at : entry_at p i ≡ length (header a) + here = omega (arith, six, entry_at_by_words p i) in
    let behind_at : entry_at p i + entry_size p ≡ length (header a) + (here + (3 + p.value_words)) = omega (arith, front_at, entry_size_is p) in
    let front : take (entry_at p i) (leaf_words a) ≡ header a ++ take here rest = ap (λ n. take n (leaf_words a)) front_at ∙ take-append-add (header a) rest here in
    let behind : drop (entry_at p i + entry_size p) (leaf_words a) ≡ drop (here + (3 + p.value_words)) rest = ap (λ n. drop n (leaf_words a)) behind_at ∙ drop-append-add (header a) rest (here + (3 + p.value_words)) in
    ap (λ l. header a ++ l) (set_words p.value_words a.entries i e (a.version ∷ []) (values_of p _ _ _ h.entries) (omega (arith, below, h.count)))
    ∙ sym (append_assoc (header a) (take here rest) (entry_words e ++ drop (here + (3 + p.value_words)) rest))
    ∙ (λ t. sym front t ++ (entry_words e ++ sym behind t))
