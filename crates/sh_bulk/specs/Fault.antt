-- Why rows give no pool, and what they give else.
use Rattle.std.specs.{Prelude.{◌≡◌, ℕ, zero, suc, ◌<◌, ◌≤◌, true, false, List, length, map}, FinMap.{entries}}
use Rattle.sh_base.specs.{declared.config.ConfigParts.{ConfigParts}, Setting.{nodes, pool_words}}
use Rattle.sh_map.specs.{declared.book.Row.{Row}, Map.{row_pair}, Rows.{row_key}}
use Rattle.sh_sheet.specs.Row.{is_key}
use Rattle.sh_tree.specs.Tree.{map_in, IsTree}
use Rattle.sh_picture.specs.{Fault.{IsIdle}, Tree.{IsFirstBad}}
use Rattle.sh_bulk.specs.{Shape.{need_of}, declared.fault.BulkFault.{BulkFault, TheVariants.{BadKey, NotRising, NoRoom, NoMemory}}}

-- the key of the row before one, or 0 before the first
abbrev pub key_before : List Row → ℕ → ℕ
key_before rows zero = 0
key_before rows (suc i) = row_key rows i

-- the key of a row is one, and lies above that of the row before
pub record IsGoodRow (rows : List Row) (i : ℕ) : Type 0 where
  pub key : is_key (row_key rows i) ≡ true
  pub rises : key_before rows i < row_key rows i

abbrev pub AreGood : List Row → Type 0
AreGood rows = (i : ℕ) → i < length rows → IsGoodRow rows i

-- the first row that isn't good, by what it fails first
pub record HasBadKey (rows : List Row) (at : ℕ) : Type 0 where
  pub first_bad : IsFirstBad (IsGoodRow rows) (length rows) at
  pub key : is_key (row_key rows at) ≡ false

pub record IsNotRising (rows : List Row) (at : ℕ) : Type 0 where
  pub first_bad : IsFirstBad (IsGoodRow rows) (length rows) at
  pub key : is_key (row_key rows at) ≡ true
  pub still : row_key rows at ≤ key_before rows at

-- the causes of the faults: they shut each other out, but for want of memory
abbrev pub IsBulkFault : ConfigParts → List Row → BulkFault → Type 0
IsBulkFault p rows (BadKey at) = HasBadKey rows at
IsBulkFault p rows (NotRising at) = IsNotRising rows at
IsBulkFault p rows (NoRoom need count) = AreGood rows × (need ≡ need_of p (length rows)) × (count ≡ nodes p) × (nodes p < need_of p (length rows))
IsBulkFault p rows NoMemory = Unit {0}

-- words that hold a lawful tree at rest, whose map is the rows
pub record HoldRows (p : ConfigParts) (rows : List Row) (words : List ℕ) : Type 0 where
  pub levels : List (List ℕ)
  pub tree : IsTree p words levels
  pub map_is : entries (map_in p words levels) ≡ map row_pair rows
  pub long : length words ≡ pool_words p
  pub idle : IsIdle p words
