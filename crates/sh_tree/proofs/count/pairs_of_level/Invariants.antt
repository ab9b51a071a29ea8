use Rattle.std.proofs.Common.{◌≡◌, ◌*◌, ◌≤◌, ℕ, List, length, take}
use Rattle.std.specs.List.{AllByRecursion}
use Rattle.sh_tree.specs.Tree.{children_of, IsInnerOf}
use Rattle.sh_tree.proofs.count.pairs_of_level.Given as goal

abbrev pub invariant-loop-node : goal.invariant-loop-node
invariant-loop-node l = (l.pairs ≤ l.node-index * 128)
    × ((above : ℕ) (below : List ℕ) → AllByRecursion (IsInnerOf l.cfg.parts l.words above below) l.level → l.pairs ≡ length (children_of l.cfg.parts l.words (take l.node-index l.level)))
