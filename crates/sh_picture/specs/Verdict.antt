-- What a picture's bytes are: lawful, with the map of their words, or not, by the first place that says so.
use Rattle.std.specs.{Prelude.{◌≡◌, ◌<◌, ◌^◌, ℕ, List, length, map, slice_index}, FinMap.{entries}}
use Rattle.sh_base.specs.{declared.config.ConfigParts.{ConfigParts}, Parts.{parts_of}, Setting.{pool_words, IsSetting}}
use Rattle.sh_map.specs.{Map.{row_pair}, declared.book.Row.{Row}}
use Rattle.sh_tree.specs.Tree.{map_in, IsTree}
use Rattle.sh_picture.specs.{Picture.{picture_of}, Fault.{IsFirstPlace, IsIdle}, declared.verdict.Verdict.{Verdict, TheVariants.{Lawful, Refused}}}

-- The bytes are the picture of a lawful setting and of words that are a tree at rest: as many as the setting's pool has,
-- each of 64 bits, with word 0 and all lock words 0. The rows are the pairs of the tree's map, rising.
pub record IsTreePicture (bytes : List ℕ) (p : ConfigParts) (rows : List Row) : Type 0 where
  pub words : List ℕ
  pub levels : List (List ℕ)
  pub setting : IsSetting p
  pub long : length words ≡ pool_words p
  pub small : (i : ℕ) → slice_index words i < 2 ^ 64
  pub picture : bytes ≡ picture_of p words
  pub idle : IsIdle p words
  pub tree : IsTree p words levels
  pub rows_are : map row_pair rows ≡ entries (map_in p words levels)

abbrev pub VerdictOf : List ℕ → Verdict → Type 0
VerdictOf bytes (Lawful cfg pairs) = IsTreePicture bytes (parts_of cfg) pairs
VerdictOf bytes (Refused place) = IsFirstPlace bytes place

-- the words hold a tree
pub record HoldTree (p : ConfigParts) (words : List ℕ) : Type 0 where
  pub levels : List (List ℕ)
  pub tree : IsTree p words levels

-- and word 0 and the lock words are 0
pub record IsGoodPool (p : ConfigParts) (words : List ℕ) : Type 0 where
  pub idle : IsIdle p words
  pub holds : HoldTree p words

-- the verdict is lawful, with this setting and the map of this tree
abbrev pub HasMapOf : ConfigParts → List ℕ → List (List ℕ) → Verdict → Type 0
HasMapOf p words levels (Lawful cfg pairs) = (parts_of cfg ≡ p) × (map row_pair pairs ≡ entries (map_in p words levels))
HasMapOf p words levels (Refused place) = ⊥
