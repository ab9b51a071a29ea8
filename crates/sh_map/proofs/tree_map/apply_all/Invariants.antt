use Rattle.std.proofs.Common.{◌≡◌, take}
use Rattle.sh_map.specs.Log.{map_from}
use Rattle.sh_map.proofs.tree_map.apply_all.Given as goal

abbrev pub invariant-loop-entry : goal.invariant-loop-entry
invariant-loop-entry l = l.map ≡ map_from l.fn.map (take l.entry-index l.entries)
