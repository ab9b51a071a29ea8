use Rattle.std.proofs.Common.{◌≡◌, ◌≤◌, ◌++◌, take, length, map}
use Rattle.sh_map.specs.Map.{row_pair}
use Rattle.sh_map.proofs.tree_map.TreeMap.has_rows.Given as goal

-- the rows so far and the pairs that are left are the pairs of the part
abbrev pub invariant-loop-key : goal.invariant-loop-key
invariant-loop-key l = (map row_pair (take l.at l.rows) ++ l.key-iterator ≡ l.initial.key-iterator) × (l.at ≤ length l.rows)
