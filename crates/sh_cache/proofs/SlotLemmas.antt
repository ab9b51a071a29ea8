-- The rows whose images lie in slots, after a slot takes another image, and after a slot goes behind the others.
use Rattle.std.{proofs.Common.{rules, ◌≡◌, ◌≢◌, ℕ, suc, ◌+◌, ◌-◌, ◌<◌, ◌≤◌, List, [], ◌∷◌, ◌++◌, length, get_or, set, take, refl, sym, ap, ◌∙◌, inl, inr, length-append, arith}, specs.List.{remove}}
use Rattle.std.proofs.lemmas.Bool.{cases_lt, cases_eq}
use Rattle.std.proofs.lemmas.List.{same_lists, get_or-map, get_or-take, get_or-set_same, get_or-set_other, get_or_append_left, get_or_at, get_or_default, length-map, length-take-le, length-set}
use Rattle.std.proofs.lemmas.List.{Edits.{get_or-remove_below, get_or-remove_above, length-remove}, Elements.{All-append, All-cons, All-nil, All-take, All-drop}}
use Rattle.std.proofs.lemmas.List.Quantifiers.{all_pairs_push, all_pairs_remove}
use Rattle.sh_image.specs.Inner.{Inner}
use Rattle.sh_cache.specs.Columns.{no_row, row_in, rows_in, AreNumbers, AreSlots}

module _ (images : List Inner) (slots : List ℕ) where
  pub length_rows : (count : ℕ) → count ≤ length slots → length (rows_in images slots count) ≡ count
  unfolding rows_in
  length_rows count few = length-map (take count slots) (row_in images) ∙ length-take-le count slots few

  pub row_of : (count i : ℕ) (d : Inner) → i < count → count ≤ length slots → get_or (rows_in images slots count) i d ≡ row_in images (get_or slots i 0)
  unfolding rows_in
  row_of count i d below few =
      get_or-map (row_in images) (take count slots) i 0 d (omega (arith, length-take-le count slots few))
      ∙ ap (row_in images) (get_or-take count slots i 0 below)

pub no_rows : (images : List Inner) (slots : List ℕ) → rows_in images slots 0 ≡ []
unfolding rows_in
no_rows images slots = refl

-- two places of slots are one where they hold one slot
pub one_slot : (room : ℕ) (slots : List ℕ) → AreSlots room slots → (i j : ℕ) → i < room → j < room → i ≢ j → get_or slots i 0 ≢ get_or slots j 0
one_slot room slots h i j a b differ same = search (rules, cases_lt)

module _ (room : ℕ) (images : List Inner) (slots : List ℕ) (own : AreSlots room slots) (filled : length images ≡ room) (count : ℕ) (few : count ≤ room) where
  image_at : (at : ℕ) (a : Inner) → at < room → row_in (set images (get_or slots at 0) a) (get_or slots at 0) ≡ a
  image_at at a here = get_or-set_same images (get_or slots at 0) a no_row (omega (arith, own.within at 0 (omega (arith, own.count))))

  image_else : (at i : ℕ) (a : Inner) → at < room → i < room → i ≢ at → row_in (set images (get_or slots at 0) a) (get_or slots i 0) ≡ row_in images (get_or slots i 0)
  image_else at i a here there differ = get_or-set_other images (get_or slots at 0) (get_or slots i 0) a no_row (one_slot room slots own i at there here differ)

  -- an image in the slot of a row
  pub rows_set : (at : ℕ) (a : Inner) → at < count → rows_in (set images (get_or slots at 0) a) slots count ≡ set (rows_in images slots count) at a
  rows_set at a here =
      let news = set images (get_or slots at 0) a in
      let rows = rows_in images slots count in
      let long = length_rows images slots count (omega (arith, own.count)) in
      same_lists _ _ (length_rows news slots count (omega (arith, own.count)) ∙ sym (length-set rows at a ∙ long)) (λ k d h.
      let below : k < count = omega (arith, length_rows news slots count (omega (arith, own.count))) in
      row_of news slots count k d below (omega (arith, own.count))
      ∙ elim (cases_eq k at) [
        | inl is ↦ ap (λ i. row_in news (get_or slots i 0)) is ∙ image_at at a (omega arith) ∙ sym (ap (λ i. get_or (set rows at a) i d) is ∙ get_or-set_same rows at a d (omega (arith, long)))
        | inr differ ↦ image_else at k a (omega arith) (omega arith) differ ∙ sym (get_or-set_other rows at k a d differ ∙ row_of images slots count k d below (omega (arith, own.count)))
      ])

  -- an image in the first slot that is free
  pub rows_push : (a : Inner) → count < room → rows_in (set images (get_or slots count 0) a) slots (count + 1) ≡ rows_in images slots count ++ a ∷ []
  rows_push a less =
      let news = set images (get_or slots count 0) a in
      let rows = rows_in images slots count in
      let long = length_rows images slots count (omega (arith, own.count)) in
      let new_long = length_rows news slots (count + 1) (omega (arith, own.count)) in
      same_lists _ _ (new_long ∙ sym (length-append rows (a ∷ []) ∙ ap (λ n. n + 1) long)) (λ k d h.
      let below : k < count + 1 = omega (arith, new_long) in
      row_of news slots (count + 1) k d below (omega (arith, own.count))
      ∙ elim (cases_eq k count) [
        | inl is ↦ ap (λ i. row_in news (get_or slots i 0)) is ∙ image_at count a less ∙ sym (get_or_at rows a [] d k (omega (arith, long)))
        | inr differ ↦ image_else count k a less (omega arith) differ ∙ sym (get_or_append_left rows (a ∷ []) d k (omega (arith, long)) ∙ row_of images slots count k d (omega arith) (omega (arith, own.count)))
      ])

  -- the slot of a row goes behind the others
  pub rows_remove : (at slot : ℕ) → at < count → rows_in images (remove slots at ++ slot ∷ []) (count - 1) ≡ remove (rows_in images slots count) at
  rows_remove at slot here =
      let moved = remove slots at ++ slot ∷ [] in
      let rows = rows_in images slots count in
      let long = length_rows images slots count (omega (arith, own.count)) in
      let left = length-remove slots at (omega (arith, own.count)) in
      let enough : count - 1 ≤ length moved = omega (arith, left, own.count, length-append (remove slots at) (slot ∷ [])) in
      let fewer = length-remove rows at (omega (arith, long)) in
      same_lists _ _ (length_rows images moved (count - 1) enough ∙ omega (arith, fewer, long)) (λ k d h.
      let below : k < count - 1 = omega (arith, length_rows images moved (count - 1) enough) in
      row_of images moved (count - 1) k d below enough
      ∙ ap (row_in images) (get_or_append_left (remove slots at) (slot ∷ []) 0 k (omega (arith, left, own.count)))
      ∙ elim (cases_lt k at) [
        | inl before ↦ ap (row_in images) (get_or-remove_below slots at 0 k before (omega (arith, own.count))) ∙ sym (get_or-remove_below rows at d k before (omega (arith, long)) ∙ row_of images slots count k d (omega arith) (omega (arith, own.count)))
        | inr behind ↦ ap (row_in images) (get_or-remove_above slots at 0 k behind (omega (arith, own.count))) ∙ sym (get_or-remove_above rows at d k behind (omega (arith, long)) ∙ row_of images slots count (k + 1) d (omega arith) (omega (arith, own.count)))
      ])

-- the slots stay the same numbers
pub slots_moved : (room : ℕ) (slots : List ℕ) (at slot : ℕ) → AreSlots room slots → at < room → slot ≡ get_or slots at 0 → AreSlots room (remove slots at ++ slot ∷ [])
slots_moved room slots at slot h here is =
    let inside : at < length slots = omega (arith, h.count) in
    let left = length-remove slots at inside in
    let others : (k d : ℕ) → k < length (remove slots at) → get_or (remove slots at) k d ≢ slot = λ k d lt same. elim (cases_lt k at) [
      | inl before ↦ h.apart k at d before inside (sym (get_or-remove_below slots at d k before inside) ∙ same ∙ is ∙ sym (get_or_default slots at d 0 inside))
      | inr behind ↦ h.apart at (k + 1) d (omega arith) (omega (arith, left)) (get_or_default slots at d 0 inside ∙ sym is ∙ sym same ∙ get_or-remove_above slots at d k behind inside)
    ] in
    record {
      count = length-append (remove slots at) (slot ∷ []) ∙ left ∙ h.count;
      within = All-append (λ s. s < room) (remove slots at) (slot ∷ []) (All-append (λ s. s < room) (take at slots) _ (All-take (λ s. s < room) at slots h.within) (All-drop (λ s. s < room) (suc at) slots h.within)) (All-cons (λ s. s < room) slot [] (omega (arith, is, h.within at 0 inside)) (All-nil (λ s. s < room)));
      apart = all_pairs_push (λ a b. a ≢ b) (remove slots at) slot (all_pairs_remove (λ a b. a ≢ b) slots at inside h.apart) others;
    }

pub numbers_slots : (room : ℕ) (slots : List ℕ) → AreNumbers room slots → AreSlots room slots
numbers_slots room slots h = search (rules, get_or_default)
