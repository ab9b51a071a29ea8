use Rattle.std.proofs.Common.{◌≡◌, ◌+◌, ℕ, List, drop}
use Rattle.sh_tree.{specs.Tree.{IsTree}, proofs.CountLemmas.{left_over}}
use Rattle.sh_tree.proofs.count.unposted.Given as goal

abbrev pub invariant-loop-first : goal.invariant-loop-first
invariant-loop-first l = (levels : List (List ℕ)) → IsTree l.cfg.parts l.words levels → l.count + left_over l.cfg.parts l.words l.named (drop l.first-index levels) ≡ left_over l.cfg.parts l.words 1 levels
