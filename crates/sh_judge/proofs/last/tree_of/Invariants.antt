use Rattle.std.proofs.Common.{◌≡◌, take}
use Rattle.sh_map.specs.Log.{map_of}
use Rattle.sh_judge.specs.Trees.{tree_map}
use Rattle.sh_judge.proofs.last.tree_of.Given as goal

abbrev pub invariant-loop-entry : goal.invariant-loop-entry
invariant-loop-entry l = tree_map l.tree ≡ map_of (take l.entry-index l.log)
