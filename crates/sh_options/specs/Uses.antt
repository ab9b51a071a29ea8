-- What the words of a command line say, by the names of the program's own options.
use Rattle.std.specs.Prelude.{ℕ, Bool, true, ◌==◌, ◌&&◌, not, List, [], ◌∷◌, ◌++◌, Option, Some, None, if◌then◌else◌, option_map, option_and_then, find}
use Rattle.std.specs.{List.{list_all, list_any, before_first, after_first}, Option.{option_map_or}, Str.{bytes_eq}}
use Rattle.sh_sheet.specs.Number.{is_number, number_of}

abbrev pub Text : Type 0
Text = List ℕ

-- the names of a program's options: those that take a value, and the flags
pub record Names : Type 0 where
  pub options : List Text
  pub flags : List Text

-- one use of an option with its value, or of a flag
pub record Use : Type 0 where
  pub name : Text
  pub value : Option Text

abbrev pub option_use : Text → Text → Use
option_use name v = record { name = name; value = Some v }

abbrev pub flag_use : Text → Use
flag_use name = record { name = name; value = None }

abbrev pub is_among : Text → List Text → Bool
is_among name names = list_any (λ n. bytes_eq n name) names

-- ---- one word

-- what follows a first hyphen
abbrev pub after_hyphen : Text → Option Text
after_hyphen [] = None
after_hyphen (x ∷ xs) = if x == 45 then Some xs else None

-- what stands before the first `=`, and what stands after it if there is one
abbrev pub name_and_value : Text → Text × Option Text
name_and_value text = (
  before_first (λ x. x == 61) text,
  if list_any (λ x. x == 61) text
      then Some (after_first (λ x. x == 61) text) else None,
)

-- `--name` or `--name=value`, as the name and the value
abbrev pub spelled : Text → Option (Text × Option Text)
spelled word = option_map name_and_value (option_and_then after_hyphen (after_hyphen word))

-- what a word says: an option with its value or a flag, an option whose value is the next word, or nothing
-- that the program knows
pub data Said : Type 0 where
  gives : Text → Option Text → Said
  asks : Text → Said
  strange : Said

abbrev pub said_by : Names → Text → Option Text → Said
said_by n name (Some v) = if is_among name n.options then gives name (Some v) else strange
said_by n name None = if is_among name n.options then asks name
    else (if is_among name n.flags then gives name None else strange)

abbrev pub said_of : Names → Option (Text × Option Text) → Said
said_of n None = strange
said_of n (Some p) = said_by n p.0 p.1

-- ---- all the words

abbrev pub with_use : Text → Option Text → Option (List Use) → Option (List Use)
with_use name v = option_map (λ us. record { name = name; value = v } ∷ us)

abbrev pub after_word : Said → (Option Text → Option (List Use)) → Option (List Use)
after_word (gives name v) next = with_use name v (next None)
after_word (asks name) next = next (Some name)
after_word strange next = None

-- the uses that the words from here on make, where `waiting` is the option whose value comes next; none where
-- they are refused
unfoldable pub uses_from : Names → Option Text → List Text → Option (List Use)
uses_from n None [] = Some []
uses_from n (Some name) [] = None
uses_from n None (word ∷ rest) = after_word (said_of n (spelled word)) (λ waiting. uses_from n waiting rest)
uses_from n (Some name) (word ∷ rest) = with_use name (Some word) (uses_from n None rest)

abbrev pub uses_of : Names → List Text → Option (List Use)
uses_of n words = uses_from n None words

-- ---- what is asked of the uses

abbrev pub has_use : Text → List Use → Bool
has_use name us = list_any (λ u. bytes_eq u.name name) us

-- no option stands again that stood before
abbrev pub is_once_after : List Use → List Use → Bool
is_once_after seen [] = true
is_once_after seen (u ∷ us) = not (has_use u.name seen) && is_once_after (seen ++ u ∷ []) us

-- each option stands at most once
abbrev pub is_once : List Use → Bool
is_once us = is_once_after [] us

-- the value of an option, where it stands
abbrev pub option_value : Text → List Use → Option Text
option_value name us = option_and_then (λ u. u.value) (find (λ u. bytes_eq u.name name) us)

-- each value is a number
abbrev pub all_numbers : List Use → Bool
all_numbers us = list_all (λ u. option_map_or is_number u.value true) us

-- the uses that the words make, where each option stands at most once and each value is a number
abbrev pub told_if : List Use → Option (List Use)
told_if us = if is_once us && all_numbers us then Some us else None

abbrev pub told_by : Names → List Text → Option (List Use)
told_by n words = option_and_then told_if (uses_of n words)

-- no name is empty, and no option is a flag
abbrev pub is_lawful : Names → Bool
is_lawful n = not (is_among [] n.options) && (not (is_among [] n.flags) && list_all (λ name. not (is_among name n.flags)) n.options)

-- the number that an option is given
abbrev pub option_number : Text → List Use → Option ℕ
option_number name us = option_and_then number_of (option_value name us)
