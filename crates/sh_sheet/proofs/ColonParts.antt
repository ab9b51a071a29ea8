-- Where a text is cut at its colons.
use Rattle.std.proofs.Common.{rules, ℕ, ◌≡◌, ◌<◌, ◌≤◌, ◌+◌, ◌-◌, ◌==◌, Bool, List, [], ◌∷◌, length, take, drop, Option, Some, None, refl, arith, ◌++◌, option_map, append_assoc}
use Rattle.std.{specs.List.{position, position_or_len}, proofs.lemmas.{Bool.Decides.{nat_tests}, List.{take_rest, Splits.{slice_split_first, length-slice_split}}, Option.{cond_some}}}
use Rattle.sh_sheet.specs.{Number.{number_of}, Row.{colon_parts, joined, numbers_of, value_in}}

-- a byte that is a colon
abbrev is_colon : ℕ → Bool
is_colon b = b == 58

no_part_more : (b : ℕ) (bs : List ℕ) (t : Bool) → is_colon b ≡ t → length (b ∷ bs) ≤ position_or_len is_colon (b ∷ bs)
    → (length bs ≤ position_or_len is_colon bs → colon_parts bs ≡ bs ∷ []) → colon_parts (b ∷ bs) ≡ (b ∷ bs) ∷ []
no_part_more b bs t e h rest = search rules

no_part : (text : List ℕ) → length text ≤ position_or_len is_colon text → colon_parts text ≡ text ∷ []
no_part [] h = refl
no_part (b ∷ bs) h = no_part_more b bs (is_colon b) refl h (no_part bs)

-- without a colon the text is its one part
pub no_colon : (text : List ℕ) → position is_colon text ≡ None → colon_parts text ≡ text ∷ []
no_colon text h = no_part text (grind (arith, nat_tests))

-- at the first colon, the text before it, and the parts behind it
pub first_colon : (text : List ℕ) (at : ℕ) → position is_colon text ≡ Some at → colon_parts text ≡ take at text ∷ colon_parts (take (length text - (at + 1)) (drop (at + 1) text))
first_colon text at h =
    let found = cond_some _ _ _ h in
    let within : position_or_len is_colon text < length text = grind (arith, nat_tests) in
    rw (take_rest, ← found.1) (slice_split_first is_colon text 0 within)

-- behind these numbers, if there are more
abbrev pub behind : List ℕ → Option (List ℕ) → Option (List ℕ)
behind ns more = option_map (λ ms. ns ++ ms) more

-- the first parts of a text were so many numbers, and these parts are left
pub record IsCut (text ns : List ℕ) (at : ℕ) (left : List (List ℕ)) : Type 0 where
  pub count : length (colon_parts text) ≡ at + length left
  pub numbers : numbers_of (colon_parts text) ≡ behind ns (numbers_of left)

behind_more : (ns : List ℕ) (n : ℕ) (o : Option (List ℕ)) → behind ns (joined (Some n) o) ≡ behind (ns ++ n ∷ []) o
behind_more ns n o = search (rules, append_assoc)

-- one number more
pub cut_more : (text ns part : List ℕ) (at n : ℕ) (left more : List (List ℕ)) → IsCut text ns at left → left ≡ part ∷ more → Some n ≡ number_of part → IsCut text (ns ++ n ∷ []) (at + 1) more
cut_more text ns part at n left more was parts number = search (rules, behind_more)

-- more parts than words; a text has at least one part
pub too_many_parts : (text ns more : List ℕ) (at count : ℕ) → IsCut text ns at (colon_parts more) → at ≡ count → None ≡ value_in count text
too_many_parts text ns more at count was full = search (rules, length-slice_split)
