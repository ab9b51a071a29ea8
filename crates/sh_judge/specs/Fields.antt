-- The fields of a printed line, and what a field says. Numbers are decimal, without leading zeros.
use Rattle.std.specs.{Prelude.{ℕ, ◌==◌, ◌^◌, Bool, not, ◌&&◌, nat_lt, List, [], ◌∷◌, length, get_or, Option, Some, None, option_map, if◌then◌else◌}, List.{slice_split}}
use Rattle.sh_sheet.specs.{Number.{are_digits, number_of, value_from}, Row.{joined}}

-- the parts of a text between its bytes of this code
abbrev pub parts_at : ℕ → List ℕ → List (List ℕ)
parts_at code text = slice_split (λ b. b == code) text

-- the parts behind such a byte, if there is one
abbrev pub text_parts : ℕ → Option (List ℕ) → List (List ℕ)
text_parts code None = []
text_parts code (Some text) = parts_at code text

-- the parts of a line between its commas
abbrev pub fields_of : List ℕ → List (List ℕ)
fields_of line = parts_at 44 line

-- it has several bytes, and the first is a zero
abbrev pub has_zero : List ℕ → Bool
has_zero text = nat_lt 1 (length text) && (get_or text 0 0 == 48)

-- the word that a field says: a number below 2^64
abbrev pub word_of : List ℕ → Option ℕ
word_of text = if has_zero text then None else number_of text

-- digits whose value is below 2^128
abbrev pub is_wide : List ℕ → Bool
is_wide text = nat_lt 0 (length text) && are_digits text && nat_lt (value_from 0 text) (2 ^ 128)

-- the number below 2^128 that a field says
abbrev pub wide_of : List ℕ → Option ℕ
wide_of text = if not (has_zero text) && is_wide text then Some (value_from 0 text) else None

-- the words of these parts, if each is one
abbrev pub words_spelled : List (List ℕ) → Option (List ℕ)
words_spelled [] = Some []
words_spelled (part ∷ parts) = joined (word_of part) (words_spelled parts)

-- the value of so many words that a field says: its words joined by colons
abbrev pub value_of : ℕ → List ℕ → Option (List ℕ)
value_of count text = if length (parts_at 58 text) == count then words_spelled (parts_at 58 text) else None

-- one field and no more, two, three and seven
abbrev pub one_of : List (List ℕ) → Option (List ℕ)
one_of (a ∷ []) = Some a
one_of fields = None

pub record Two : Type 0 where
  pub first : List ℕ
  pub second : List ℕ

abbrev pub two_of : List (List ℕ) → Option Two
two_of [] = None
two_of (a ∷ rest) = option_map (λ b. record { first = a; second = b }) (one_of rest)

pub record Three : Type 0 where
  pub first : List ℕ
  pub second : List ℕ
  pub third : List ℕ

abbrev pub three_of : List (List ℕ) → Option Three
three_of [] = None
three_of (a ∷ rest) = option_map (λ f. record { first = a; second = f.first; third = f.second }) (two_of rest)

-- the fields of a call's line behind its number
pub record Seven : Type 0 where
  pub seat : List ℕ
  pub op : List ℕ
  pub a : List ℕ
  pub b : List ℕ
  pub reply : List ℕ
  pub value : List ℕ
  pub point : List ℕ

abbrev pub seven_of : List (List ℕ) → Option Seven
seven_of (seat ∷ op ∷ a ∷ b ∷ rest) = option_map (λ f. record { seat = seat; op = op; a = a; b = b; reply = f.first; value = f.second; point = f.third }) (three_of rest)
seven_of fields = None
