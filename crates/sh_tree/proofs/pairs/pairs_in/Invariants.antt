use Rattle.std.{proofs.Common.{◌≡◌, ℕ, List, take}, specs.FinMap.{from_entries}}
use Rattle.sh_tree.specs.Tree.{pairs_along, IsTree}
use Rattle.sh_tree.proofs.pairs.pairs_in.Given as goal

abbrev pub invariant-loop-leaf : goal.invariant-loop-leaf
invariant-loop-leaf l = (levels : List (List ℕ)) → IsTree l.cfg.parts l.words levels → l.map ≡ from_entries (pairs_along l.cfg.parts l.words (take l.leaf-index l.leaf-items))
