use Rattle.std.{proofs.Common.{◌≡◌, ◌-◌, ◌^◌, take}, specs.{Prelude.{min}, List.{sum_by}}}
use Rattle.sh_base.specs.Parts.{parts_of}
use Rattle.sh_sheet.specs.Sheet.{item_calls, rows_of, item_turns}
use Rattle.sh_sheet.proofs.totals.are_few.Given as goal

abbrev pub invariant-loop-item : goal.invariant-loop-item
invariant-loop-item l = (l.calls ≡ min (sum_by item_calls (take l.item-index l.items)) (2 ^ 64 - 1))
    × (l.turns ≡ min (sum_by item_turns (take l.item-index l.items)) (2 ^ 64 - 1))
    × (l.rows ≡ min (sum_by (rows_of (parts_of l.cfg)) (take l.item-index l.items)) (2 ^ 64 - 1))
