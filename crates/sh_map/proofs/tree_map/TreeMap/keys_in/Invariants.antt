use Rattle.std.{proofs.Common.{◌≡◌, ◌++◌}, specs.Map.{keys_of}}
use Rattle.sh_map.proofs.tree_map.TreeMap.keys_in.Given as goal

-- the keys so far and those that are left are the keys of the part
abbrev pub invariant-loop-key : goal.invariant-loop-key
invariant-loop-key l = l.keys.items ++ keys_of l.key-iterator ≡ keys_of l.initial.key-iterator
