-- Where a text is cut at a byte.
use Rattle.std.{proofs.Common.{rules, ℕ, ◌≡◌, ◌<◌, ◌≤◌, ◌+◌, ◌-◌, ◌==◌, Bool, List, [], ◌∷◌, length, take, drop, Option, Some, None, refl, arith}, specs.List.{position, position_or_len}}
use Rattle.std.proofs.lemmas.{Bool.Decides.{nat_tests}, List.{take_rest, Splits.{slice_split_first, length-slice_split}}, Option.{cond_some}}
use Rattle.sh_judge.specs.Fields.{parts_at, text_parts, one_of}

module _ (code : ℕ) where
  abbrev is_here : ℕ → Bool
  is_here b = b == code

  no_part_more : (b : ℕ) (bs : List ℕ) (t : Bool) → is_here b ≡ t → length (b ∷ bs) ≤ position_or_len is_here (b ∷ bs)
      → (length bs ≤ position_or_len is_here bs → parts_at code bs ≡ bs ∷ []) → parts_at code (b ∷ bs) ≡ (b ∷ bs) ∷ []
  no_part_more b bs t e h rest = search rules

  no_part : (text : List ℕ) → length text ≤ position_or_len is_here text → parts_at code text ≡ text ∷ []
  no_part [] h = refl
  no_part (b ∷ bs) h = no_part_more b bs (is_here b) refl h (no_part bs)

  -- without such a byte the text is its one part
  pub none_here : (text : List ℕ) → position is_here text ≡ None → parts_at code text ≡ text ∷ []
  none_here text h = no_part text (grind (arith, nat_tests))

  -- at the first one, the text before it, and the parts behind it
  pub first_here : (text : List ℕ) (at : ℕ) → position is_here text ≡ Some at → parts_at code text ≡ take at text ∷ parts_at code (take (length text - (at + 1)) (drop (at + 1) text))
  first_here text at h =
      let found = cond_some _ _ _ h in
      let within : position_or_len is_here text < length text = grind (arith, nat_tests) in
      rw (take_rest, ← found.1) (slice_split_first is_here text 0 within)

  -- a text has at least one part
  pub has_part : (text : List ℕ) → 1 ≤ length (parts_at code text)
  has_part text = let some = length-slice_split is_here text in omega arith

two_parts : (first : List ℕ) (parts : List (List ℕ)) → 1 ≤ length parts → None ≡ one_of (first ∷ parts)
two_parts first parts some = search rules

pub not_one : (code : ℕ) (first more : List ℕ) → None ≡ one_of (first ∷ parts_at code more)
not_one code first more = two_parts first (parts_at code more) (has_part code more)

pub not_last : (code : ℕ) (first more : List ℕ) (rest : Option (List ℕ)) (parts : List (List ℕ)) → parts ≡ first ∷ text_parts code rest → rest ≡ Some more → None ≡ one_of parts
not_last code first more rest parts are is = rw (are, is) (not_one code first more)
