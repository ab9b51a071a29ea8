-- The parts of a text between its colons, one by one.
use Rattle.std.specs.Prelude.{ℕ, List, [], Option, None, Some}
use Rattle.sh_sheet.specs.Row.{colon_parts}

-- the parts of the text behind a colon, if there is a colon
abbrev pub parts_behind : Option (List ℕ) → List (List ℕ)
parts_behind None = []
parts_behind (Some text) = colon_parts text
