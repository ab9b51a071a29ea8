use Rattle.std.proofs.Common.{ℕ, List}
use Rattle.sh_tree.{specs.Tree.{IsTree}, proofs.WalkLemmas.{IsGathered, IsDown}}
use Rattle.sh_tree.proofs.levels.firsts.Given as goal

abbrev pub invariant-loop : goal.invariant-loop
invariant-loop l = IsGathered l.cfg.parts l.counter l.firsts.items l.node
    × ((levels : List (List ℕ)) → IsTree l.cfg.parts l.words levels → IsDown l.cfg.parts l.words levels l.firsts.items l.node)
