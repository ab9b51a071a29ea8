use Rattle.std.{proofs.Common.{◌≡◌, ◌≤◌, ◌+◌, ◌-◌, map, vec_len}, specs.{List.{range_with_len}, Vec.{vec_capacity}}}
use Rattle.sh_base.specs.Parts.{parts_of}
use Rattle.sh_sheet.specs.Generate.{made_item, drawn_number}
use Rattle.sh_sheet.proofs.made.made_items.Given as goal

abbrev pub invariant-loop-place : goal.invariant-loop-place
invariant-loop-place l = (l.items.items ≡ map (made_item (parts_of l.cfg) l.n l.seed) (range_with_len 1 l.place))
    × (l.x ≡ drawn_number l.seed l.place)
    × (vec_len l.items + (l.n - l.place) ≤ vec_capacity l.items)
