use Rattle.std.proofs.Common.{◌-◌, drop, length}
use Rattle.sh_tree.specs.Adding.{Adds}
use Rattle.sh_tree.proofs.pairs.add_entries.Given as goal

abbrev pub invariant-loop-step : goal.invariant-loop-step
invariant-loop-step l = Adds l.fn.map (drop (length l.leaf.entries - l.step) l.leaf.entries) l.map
