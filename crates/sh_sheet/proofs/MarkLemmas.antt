-- The numbers of marks, as a set and as a list.
use Rattle.std.proofs.{Common.{ℕ, ◌≡◌, ◌∷◌, ◌++◌, [], List, Some, None, true, arith}, lemmas.{Grind.{common_steps}, List.{Elements.{filter_map-append}, Folds.{list_any-append}}}}
use Rattle.std.specs.{BTreeSet.{BTreeSet, Updates}, Ordering.{nat_cmp}}
use Rattle.sh_sheet.specs.{Sheet.{mark_of}, Reader.{HasMarks}, declared.item.Item.{Item}}

-- an item that is no mark
pub marks_kept : (s : BTreeSet ℕ) (found : List Item) (item : Item) → HasMarks s found → mark_of item ≡ None → HasMarks s (found ++ item ∷ [])
marks_kept s found item has none = λ n. grind (arith, common_steps, filter_map-append, list_any-append, has n)

-- a mark, and its number in the set
pub marks_added : (s t : BTreeSet ℕ) (found : List Item) (item : Item) (number : ℕ) → HasMarks s found → mark_of item ≡ Some number → Updates nat_cmp s t number true → HasMarks t (found ++ item ∷ [])
marks_added s t found item number has some added = λ n. grind (arith, common_steps, filter_map-append, list_any-append, has n, added.0 n)
