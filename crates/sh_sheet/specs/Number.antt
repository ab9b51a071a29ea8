-- What a field of decimal digits says.
use Rattle.std.specs.Prelude.{ℕ, ◌+◌, ◌-◌, ◌*◌, ◌^◌, List, [], ◌∷◌, length, Bool, true, ◌&&◌, nat_lt, nat_le, Option, Some, None, if◌then◌else◌}

-- a byte from `0` to `9`
abbrev pub is_digit : ℕ → Bool
is_digit b = nat_le 48 b && nat_le b 57

abbrev pub are_digits : List ℕ → Bool
are_digits [] = true
are_digits (b ∷ bs) = is_digit b && are_digits bs

-- the value of these digits, behind digits of the value n
abbrev pub value_from : ℕ → List ℕ → ℕ
value_from n [] = n
value_from n (b ∷ bs) = value_from (n * 10 + (b - 48)) bs

-- 1 to 20 digits whose value is below 2^64; leading zeros are allowed
abbrev pub is_number : List ℕ → Bool
is_number bs = nat_lt 0 (length bs) && nat_le (length bs) 20 && are_digits bs && nat_lt (value_from 0 bs) (2 ^ 64)

-- the number that a field says, if it says one
abbrev pub number_of : List ℕ → Option ℕ
number_of bs = if is_number bs then Some (value_from 0 bs) else None
