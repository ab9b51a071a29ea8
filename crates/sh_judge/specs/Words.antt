-- What the words of the judge ask for.
use Rattle.std.specs.Prelude.{ℕ, ◌&&◌, nat_le, List, [], ◌∷◌, codes, Option, Some, None, option_and_then, unwrap_or, if◌then◌else◌}
use Rattle.sh_options.specs.Uses.{Names, Text, Use, option_number, told_by}

-- the one option of the judge
abbrev pub judge_names : Names
judge_names = record { options = codes "value-words" ∷ []; flags = [] }

-- a value has 1 to 8 words
abbrev pub width_if : ℕ → Option ℕ
width_if n = if nat_le 1 n && nat_le n 8 then Some n else None

-- the words of a value, by the option, else 1
abbrev pub width_in : List Use → Option ℕ
width_in us = width_if (unwrap_or (option_number (codes "value-words") us) 1)

-- How many words a value has, as the words of the judge say. None is where they are refused.
unfoldable pub width_of : List Text → Option ℕ
width_of words = option_and_then width_in (told_by judge_names words)
