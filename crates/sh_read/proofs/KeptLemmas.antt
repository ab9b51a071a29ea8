-- The words that a READ keeps, as they are loaded.
use Rattle.std.proofs.Common.{rules, ◌≡◌, ◌≢◌, ℕ, zero, suc, ◌+◌, ◌-◌, ◌<◌, ◌≤◌, Bool, true, false, List, [], ◌∷◌, length, take, drop, set, refl, sym, ap, ◌∙◌, length-drop, arith}
use Rattle.std.{specs.Prelude.{nat_lt, slice_index, Some, None}, proofs.lemmas.{Bool.Decides.{nat_tests}, List.{drop_all, get_or-take, length-set, length-take-le}}}
use Rattle.sh_logic.proofs.Tests.{less_test, not_less_test}
use Rattle.sh_base.specs.{declared.config.ConfigParts.{ConfigParts}, Setting.{node_size, IsNode, IsSetting}, Layout.{node_word}}
use Rattle.sh_base.proofs.LayoutLemmas.{node_size_is, node_word_high, rear_at_low, rear_at_small, take_set_in}
use Rattle.sh_image.specs.declared.{read.Seen.{Seen}, inner.Image.{Image}}
use Rattle.sh_image.specs.{declared.read.Found.{Found}, Node.{seen_with}}
use Rattle.sh_read.specs.{declared.state.Progress.{Progress, TheVariants.{More}}, Judging.{seen_of}}
use Rattle.sh_read.specs.{Reads.{reads_with, answer_to, read_fed, image_in, reads_left, progress_of, wanted}, Kept.{kept_answer, image_at, loaded_in, left_after, reader_of, IsKeptRead, KeepsImage}}
use Rattle.sh_read.specs.Loads.{IsInside, IsNext}

-- the words behind a word that is set
set_front : (xs : List ℕ) (k w : ℕ) → k < length xs → drop k (set xs k w) ≡ w ∷ drop (suc k) xs
set_front [] k w h = absurd (omega arith)
set_front (x ∷ xs) zero w h = refl
set_front (x ∷ xs) (suc k) w h = set_front xs k w (omega arith)

module _ (p : ConfigParts) (setting : IsSetting p) where
  pub size_small : node_size p ≤ 711
  size_small = omega (arith, node_size_is p, rear_at_small p setting)

  pub size_some : 1 ≤ node_size p
  size_some = omega (arith, node_size_is p)

  module _ (left : ℕ) (words : List ℕ) (room : length words ≡ 711) (within : left ≤ node_size p) where
    length_taken : length (take (node_size p) words) ≡ node_size p
    length_taken = length-take-le (node_size p) words (omega (arith, room, size_small))

    pub length_loaded : length (loaded_in p left words) ≡ node_size p - left
    length_loaded = length-drop left (take (node_size p) words) ∙ ap (λ n. n - left) length_taken

    -- one word more
    pub loaded_more : (word : ℕ) → 1 ≤ left → loaded_in p (left - 1) (set words (left - 1) word) ≡ word ∷ loaded_in p left words
    loaded_more word some =
        let front : suc (left - 1) ≡ left = omega (arith, some) in
        ap (drop (left - 1)) (take_set_in (node_size p) words (left - 1) word (omega (arith, some, within)))
        ∙ set_front (take (node_size p) words) (left - 1) word (omega (arith, length_taken, some, within))
        ∙ ap (λ n. word ∷ drop n (take (node_size p) words)) front

    -- a word is wanted where one is left
    pub some_left : (node : ℕ) → wanted p (reads_with node (loaded_in p left words)) ≢ None → 1 ≤ left
    some_left node h = by (nat_lt (length (loaded_in p left words)) (node_size p)) refl
      where
        by : (b : Bool) → nat_lt (length (loaded_in p left words)) (node_size p) ≡ b → 1 ≤ left
        by true e = grind (arith, nat_tests, e, length_loaded, within)
        by false e = absurd (h (rw e refl))

    pub wants : (node : ℕ) → 0 < left → Some (node_word p node + (left - 1)) ≡ wanted p (reads_with node (loaded_in p left words))
    wants node some = rw (length_loaded, less_test (node_size p - left) (node_size p) (omega (arith, some, within))) (ap Some (omega (arith, some, within)))

    pub wants_none : (node : ℕ) → left ≡ 0 → None ≡ wanted p (reads_with node (loaded_in p left words))
    wants_none node none = rw (length_loaded, not_less_test (node_size p - left) (node_size p) (omega (arith, none))) refl

    module _ (node word : ℕ) (some : 1 ≤ left) where
      length_fed : length (word ∷ loaded_in p left words) ≡ suc (node_size p - left)
      length_fed = ap suc length_loaded

      pub fed_more : 0 < left - 1 → reader_of p node (left - 1) (set words (left - 1) word) ≡ record { setting = p; reads = read_fed p (reads_with node (loaded_in p left words)) word }
      fed_more more =
          let test : nat_lt (length (word ∷ loaded_in p left words)) (node_size p) ≡ true = ap (λ n. nat_lt n (node_size p)) length_fed ∙ less_test _ _ (omega (arith, some, within, more)) in
          rw (loaded_more word some, test) refl

      pub answers_more : 0 < left - 1 → More ≡ progress_of p (reads_with node (loaded_in p left words)) word
      answers_more more =
          let test : nat_lt (length (word ∷ loaded_in p left words)) (node_size p) ≡ true = ap (λ n. nat_lt n (node_size p)) length_fed ∙ less_test _ _ (omega (arith, some, within, more)) in
          rw test refl

      full : left - 1 ≡ 0 → nat_lt (length (word ∷ loaded_in p left words)) (node_size p) ≡ false
      full last = ap (λ n. nat_lt n (node_size p)) length_fed ∙ not_less_test _ _ (omega (arith, some, within, last))

      all_is : left - 1 ≡ 0 → take (node_size p) (set words (left - 1) word) ≡ word ∷ loaded_in p left words
      all_is last = sym (ap (λ n. drop n (take (node_size p) (set words (left - 1) word))) last) ∙ loaded_more word some

      pub answers_last : (seen : Seen) → left - 1 ≡ 0 → seen ≡ seen_of p (take (node_size p) (set words (left - 1) word)) → answer_to seen ≡ progress_of p (reads_with node (loaded_in p left words)) word
      answers_last seen last is = rw (full last) (ap answer_to (is ∙ ap (seen_of p) (all_is last)))

-- a word is wanted that isn't the last one
pub next_is : (p : ConfigParts) (setting : IsSetting p) (left : ℕ) (words : List ℕ) (room : length words ≡ 711) (within : left ≤ node_size p) (node : ℕ) (here : IsNode p node) (at : ℕ) → 1 < left → at ≡ node_word p node + (left - 1) → IsNext (reader_of p node left words) at
next_is p setting left words room within node here at more at_is = record {
  here = sym (wants p setting left words room within node (omega (arith, more))) ∙ ap Some (sym at_is);
  within = omega (arith, at_is, node_word_high p node here, within, more);
  left = omega (arith, length_loaded p setting left words room within, more, within);
}

-- such a word is taken
pub inside_is : (p : ConfigParts) (setting : IsSetting p) (left : ℕ) (words : List ℕ) (room : length words ≡ 711) (within : left ≤ node_size p) (node word : ℕ) → length (loaded_in p left words) + 1 < node_size p → (1 < left) × IsInside (reader_of p node left words) (reader_of p node (left - 1) (set words (left - 1) word)) word
inside_is p setting left words room within node word inside =
    let more : 1 < left = omega (arith, inside, length_loaded p setting left words room within) in
    let again : 0 < left - 1 = omega (arith, more) in (
      more,
      record {
        fed = fed_more p setting left words room within node word (omega (arith, more)) again;
        answer = sym (answers_more p setting left words room within node word (omega (arith, more)) again);
        more = λ none. absurd (omega_some (sym none ∙ sym (wants p setting (left - 1) (set words (left - 1) word) (length-set words (left - 1) word ∙ room) (omega (arith, within)) node again)));
      },
    )
  where
    omega_some : {x : ℕ} → None ≡ Some x → ⊥
    omega_some e = cc

-- no more than the last word is wanted
pub loads_none : (p : ConfigParts) (setting : IsSetting p) (left : ℕ) (words : List ℕ) (room : length words ≡ 711) (within : left ≤ node_size p) → left ≤ 1 → node_size p ≤ length (loaded_in p left words) + 1
loads_none p setting left words room within last = let l = length_loaded p setting left words room within in omega (arith, l, last, within)

module _ (p : ConfigParts) (setting : IsSetting p) (node : ℕ) (words : List ℕ) (room : length words ≡ 711) where
  all_words : length (take (node_size p) words) ≡ node_size p
  all_words = length-take-le (node_size p) words (omega (arith, room, size_small p setting))

  none_words : loaded_in p (node_size p) words ≡ []
  none_words = drop_all (node_size p) (take (node_size p) words) (omega (arith, all_words))

  -- the READ that a reader's answer leaves
  ended : (seen : Seen) → reads_with node (loaded_in p (left_after (answer_to seen) (node_size p)) words) ≡ reads_left seen (reads_with node (take (node_size p) words))
  ended seen = search (rules, none_words)

module _ (p : ConfigParts) (setting : IsSetting p) (left node word : ℕ) (words : List ℕ) (room : length words ≡ 711) (within : left ≤ node_size p) (some : 1 ≤ left) where
  pub fed_last : (seen : Seen) (after : ℕ) → left - 1 ≡ 0 → seen ≡ seen_of p (take (node_size p) (set words (left - 1) word)) → after ≡ left_after (answer_to seen) (node_size p) → reader_of p node after (set words (left - 1) word) ≡ record { setting = p; reads = read_fed p (reads_with node (loaded_in p left words)) word }
  fed_last seen after last is after_is =
      let all = all_is p setting left words room within node word some last in
      let step : reads_with node (loaded_in p after (set words (left - 1) word)) ≡ read_fed p (reads_with node (loaded_in p left words)) word =
      ap (λ n. reads_with node (loaded_in p n (set words (left - 1) word))) after_is
      ∙ ended p setting node (set words (left - 1) word) (length-set words (left - 1) word ∙ room) seen
      ∙ (λ i. reads_left ((is ∙ ap (seen_of p) all) i) (reads_with node (all i)))
      ∙ sym (rw (full p setting left words room within node word some last) refl) in
      λ i. record { setting = p; reads = step i }

module _ (p : ConfigParts) (setting : IsSetting p) (node first : ℕ) (words : List ℕ) (leaf inner : Image) (here : IsNode p node) (address : first ≡ node_word p node) (room : length words ≡ 711) where
  -- some words are left to load
  pub kept_under_way : (left : ℕ) → left ≤ node_size p → 0 < left → IsKeptRead p node first left words leaf inner
  kept_under_way left within some = search rules

  -- nothing is loaded yet
  pub kept_new : (left : ℕ) → left ≡ node_size p → IsKeptRead p node first left words leaf inner
  kept_new left is = kept_under_way left (omega (arith, is)) (omega (arith, is, size_some p setting))

  -- all words were judged
  pub kept_judged : (after : ℕ) → after ≤ node_size p → KeepsImage (image_in (seen_of p (take (node_size p) words))) (image_at (slice_index (take (node_size p) words) 1) leaf inner) → IsKeptRead p node first after words leaf inner
  kept_judged after within keeps = search (rules, not_less_test, all_words, get_or-take, node_size_is, rear_at_low)

-- how many words are left behind an answer
pub left_after_within : (a : Progress) (size after : ℕ) → after ≡ left_after a size → after ≤ size
left_after_within a size after is = search rules

-- what is answered to what was found, and the image that is kept, are those of what a reader sees
pub found_seen : (found : Found) (image : Image) (seen : Seen) → seen_with found image ≡ seen → (kept_answer found ≡ answer_to seen) × KeepsImage (image_in seen) image
found_seen found image seen is = search rules
