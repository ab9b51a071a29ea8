use Rattle.std.proofs.Common.{◌≡◌, ◌*◌, suc, take}
use Rattle.sh_base.specs.Setting.{node_size}
use Rattle.sh_bulk.specs.Words.{words_from}
use Rattle.sh_bulk.proofs.inner.build_above.Given as goal

-- the nodes so far
abbrev pub invariant-loop-j : goal.invariant-loop-j
invariant-loop-j l = (l.at ≡ l.j * node_size l.cfg.parts) × (take l.at l.out ≡ words_from l.cfg.parts l.rows (suc l.below.number) 0 l.j)
