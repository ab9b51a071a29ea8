-- What digits say, and words joined by colons.
use Rattle.std.proofs.Common.{rules, ℕ, ◌≡◌, ◌≤◌, ◌<◌, ◌+◌, ◌^◌, false, true, List, [], ◌∷◌, ◌++◌, length, Option, Some, None, arith, option_map, append_assoc}
use Rattle.std.proofs.lemmas.Bool.Decides.{nat_tests}
use Rattle.sh_sheet.specs.{Number.{are_digits, value_from}, Row.{joined}}
use Rattle.sh_judge.{specs.Fields.{has_zero, parts_at, value_of, wide_of, word_of, words_spelled}, proofs.Parts.{has_part}}

-- what is too large is no number
pub wide_of_large : (bs : List ℕ) → 2 ^ 128 ≤ value_from 0 bs → None ≡ wide_of bs
wide_of_large bs h = grind (arith, nat_tests)

-- what is all digits and not too large is a number
pub wide_of_digits : (bs : List ℕ) (n : ℕ) → 0 < length bs → false ≡ has_zero bs → are_digits bs ≡ true → value_from 0 bs ≡ n → n < 2 ^ 128 → Some n ≡ wide_of bs
wide_of_digits bs n some plain digits value small = simp (← plain, digits) (grind (arith, nat_tests))

-- behind these words, if there are more
abbrev pub behind : List ℕ → Option (List ℕ) → Option (List ℕ)
behind ns more = option_map (λ ms. ns ++ ms) more

-- the first parts of a text were so many words, and these parts are left
pub record IsCut (text ns : List ℕ) (at : ℕ) (left : List (List ℕ)) : Type 0 where
  pub count : length (parts_at 58 text) ≡ at + length left
  pub words : words_spelled (parts_at 58 text) ≡ behind ns (words_spelled left)

behind_more : (ns : List ℕ) (n : ℕ) (o : Option (List ℕ)) → behind ns (joined (Some n) o) ≡ behind (ns ++ n ∷ []) o
behind_more ns n o = search (rules, append_assoc)

-- one word more
pub cut_more : (text ns part : List ℕ) (at n : ℕ) (left more : List (List ℕ)) → IsCut text ns at left → left ≡ part ∷ more → Some n ≡ word_of part → IsCut text (ns ++ n ∷ []) (at + 1) more
cut_more text ns part at n left more was parts word = search (rules, behind_more)

-- more parts than words; a text has at least one part
pub too_many_parts : (text ns more : List ℕ) (at count : ℕ) → IsCut text ns at (parts_at 58 more) → at ≡ count → None ≡ value_of count text
too_many_parts text ns more at count was full = search (rules, has_part)
