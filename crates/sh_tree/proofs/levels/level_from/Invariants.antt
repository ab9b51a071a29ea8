use Rattle.std.proofs.Common.{◌≡◌, ℕ, List}
use Rattle.sh_tree.{specs.{Lists.{first_of}, Tree.{IsChain}}, proofs.WalkLemmas.{IsGathered, IsAlong}}
use Rattle.sh_tree.proofs.levels.level_from.Given as goal

abbrev pub invariant-loop : goal.invariant-loop
invariant-loop l = IsGathered l.cfg.parts l.counter l.level.items l.node
    × ((low : ℕ) (chain : List ℕ) → IsChain l.cfg.parts l.words low chain → l.first ≡ first_of chain → IsAlong l.cfg.parts l.words chain l.level.items l.node)
