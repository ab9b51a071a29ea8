use Rattle.std.proofs.Common.{◌≡◌, ◌+◌, take, vec_len}
use Rattle.std.specs.List.{sum_by}
use Rattle.sh_base.specs.{Parts.{parts_of}, Setting.{all_seats}}
use Rattle.sh_sheet.specs.Sheet.{item_calls}
use Rattle.sh_fleet.specs.Sharing.{AreShares}
use Rattle.sh_fleet.proofs.sharing.divide.Given as goal

abbrev pub invariant-loop-at : goal.invariant-loop-at
invariant-loop-at l = (vec_len l.shares ≡ all_seats (parts_of l.cfg)) × (l.n ≡ sum_by item_calls (take l.at l.items) + 1) × AreShares (parts_of l.cfg) l.items (take l.at l.items) 0 l.shares.items
