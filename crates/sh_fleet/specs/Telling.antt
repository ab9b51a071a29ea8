-- How far the answers of the seats were told.
use Rattle.std.specs.Prelude.{◌≡◌, ℕ, zero, suc, ◌+◌, Option, Some, None, List, [], ◌∷◌, drop, length, slice_get}
use Rattle.sh_fleet.specs.declared.{answers.{Answer.{Answer}, Answers.{Answers}}, cursor.Cursor.{Cursor}}
use Rattle.sh_fleet.specs.Sharing.{answers_in, rows_told, Told}

abbrev pub cursor : (reply row : ℕ) → Cursor
cursor reply row = record { reply = reply; row = row }

-- nothing was told
abbrev pub at_first : Cursor
at_first = cursor 0 0

-- the answers of a seat that are still to be told
abbrev pub rest_at : Answers → Cursor → List Told
rest_at a at = answers_in (drop at.reply a.replies.items) (drop at.row a.rows.items)

-- the rows that are left are those of the answers that are still to be told
abbrev pub IsAt : Answers → Cursor → Type 0
IsAt a at = at.row + rows_told (drop at.reply a.replies.items) ≡ length a.rows.items

-- behind the next answer, where there is one
abbrev pub behind_answer : Cursor → Option Answer → Cursor
behind_answer at None = at
behind_answer at (Some x) = cursor (at.reply + 1) (at.row + x.rows)

abbrev pub behind : Answers → Cursor → Cursor
behind a at = behind_answer at (slice_get a.replies.items at.reply)

-- the answers of each seat that are still to be told
abbrev pub rest_by : List Answers → List Cursor → (seat : ℕ) → List Told
rest_by [] cs seat = []
rest_by (a ∷ more) [] seat = []
rest_by (a ∷ more) (c ∷ cs) zero = rest_at a c
rest_by (a ∷ more) (c ∷ cs) (suc seat) = rest_by more cs seat

-- each seat is somewhere among its answers
abbrev pub AreAt : List Answers → List Cursor → Type 0
AreAt [] [] = Unit {0}
AreAt (a ∷ more) (c ∷ cs) = IsAt a c × AreAt more cs
AreAt more cs = ⊥
