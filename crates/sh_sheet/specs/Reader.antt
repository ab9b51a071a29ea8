-- How far a sheet is read.
use Rattle.std.specs.{Prelude.{ℕ, ◌≡◌, Bool, true, false, List, [], if◌then◌else◌}, BTreeSet.{BTreeSet, contains}, Ordering.{nat_cmp}}
use Rattle.sh_base.specs.declared.config.ConfigParts.{ConfigParts}
use Rattle.sh_sheet.specs.{Row.{is_marked}, Sheet.{Reading, marks_in, rows_from, rows_in}, declared.item.{Mode.{Mode}, Item.{Item}}}

-- no row is taken yet
abbrev pub is_start : Bool → List Item → Bool
is_start false [] = true
is_start heading found = false

-- the reading of these rows behind a heading and items, or of all rows at the start
abbrev pub rows_behind : ConfigParts → Mode → Bool → List Item → List (List (List ℕ)) → Reading
rows_behind p mode heading found rows = if is_start heading found then rows_in p mode rows else rows_from p mode heading found rows

-- the set has just the numbers of the marks among these items
abbrev pub HasMarks : BTreeSet ℕ → List Item → Type 0
HasMarks marks found = (n : ℕ) → contains nat_cmp marks n ≡ is_marked (marks_in found) n
