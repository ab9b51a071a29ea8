use Rattle.std.proofs.Common.{◌<◌, ℕ}
use Rattle.sh_picture.specs.Tree.{IsOnce}
use Rattle.sh_picture.proofs.keys.first_twice.Given as goal

abbrev pub invariant-loop-leaf : goal.invariant-loop-leaf
invariant-loop-leaf l = (i : ℕ) → i < l.leaf-index → IsOnce l.cfg.parts l.words l.leaves i
