-- The number that digits say, byte by byte.
use Rattle.std.proofs.Common.{ℕ, ◌≡◌, ◌≤◌, ◌<◌, ◌+◌, ◌-◌, ◌*◌, ◌^◌, true, List, [], ◌∷◌, length, drop, get_or, Some, None, ap, arith}
use Rattle.std.proofs.lemmas.{Bool.Decides.{nat_tests}, List.{drop_more}}
use Rattle.sh_sheet.specs.Number.{are_digits, value_from, number_of}

-- more digits make no smaller number
pub value_from-ge : (n : ℕ) (bs : List ℕ) → n ≤ value_from n bs
value_from-ge n [] = omega arith
value_from-ge n (b ∷ bs) = omega (arith, value_from-ge (n * 10 + (b - 48)) bs)

-- one digit on
pub value_from_more : (n : ℕ) (bs : List ℕ) (i : ℕ) → i < length bs → value_from n (drop i bs) ≡ value_from (n * 10 + (get_or bs i 0 - 48)) (drop (i + 1) bs)
value_from_more n bs i h = ap (value_from n) (drop_more bs i 0 h)

-- what is too large is no number
pub number_of_large : (bs : List ℕ) → 2 ^ 64 ≤ value_from 0 bs → None ≡ number_of bs
number_of_large bs h = grind (arith, nat_tests)

-- what is all digits, not too long and not too large is a number
pub number_of_digits : (bs : List ℕ) (n : ℕ) → 0 < length bs → length bs ≤ 20 → are_digits bs ≡ true → value_from 0 bs ≡ n → n < 2 ^ 64 → Some n ≡ number_of bs
number_of_digits bs n some few digits value small = grind (arith, nat_tests)
