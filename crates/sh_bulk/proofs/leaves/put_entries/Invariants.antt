use Rattle.std.{proofs.Common.{◌≡◌, ◌++◌, map, take}, specs.List.{flat_map}}
use Rattle.sh_base.specs.Layout.{entry_at}
use Rattle.sh_map.specs.Map.{row_pair}
use Rattle.sh_image.specs.Entries.{entry_words}
use Rattle.sh_edit.specs.Splitting.{entry_with}
use Rattle.sh_bulk.proofs.leaves.put_entries.Given as goal

-- the entries so far
abbrev pub invariant-loop-i : goal.invariant-loop-i
invariant-loop-i l = (l.at ≡ entry_at l.cfg.parts l.i) × (take l.at l.out ≡ take 6 l.fn.out ++ flat_map entry_words (take l.i (map entry_with (map row_pair l.rows))))
