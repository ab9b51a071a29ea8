-- The rows that a range has gathered are no more than its buffer holds.
use Rattle.std.proofs.Common.{ℕ, ◌-◌, ◌≤◌, List, length, ◌++◌, length-append, arith}
use Rattle.sh_image.specs.declared.leaf.LeafEntry.{LeafEntry}
use Rattle.sh_map.specs.declared.book.Row.{Row}
use Rattle.sh_edit.{specs.Ranging.{taken}, proofs.RangeLemmas.{taken_within}}

pub still_few : (most high place : ℕ) (es : List LeafEntry) (rows : List Row) → length rows ≤ most → length (rows ++ taken es high (most - length rows) place) ≤ most
still_few most high place es rows few = omega (arith, few, length-append rows (taken es high (most - length rows) place), taken_within es high (most - length rows) place)
