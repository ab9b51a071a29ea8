use Rattle.std.proofs.Common.{◌≡◌, ◌*◌, take}
use Rattle.sh_base.specs.Setting.{node_size}
use Rattle.sh_bulk.specs.Words.{words_from}
use Rattle.sh_bulk.proofs.leaves.build_leaves.Given as goal

-- the leaves so far
abbrev pub invariant-loop-k : goal.invariant-loop-k
invariant-loop-k l = (l.at ≡ l.k * node_size l.cfg.parts) × (take l.at l.out ≡ words_from l.cfg.parts l.rows 0 l.from l.k)
