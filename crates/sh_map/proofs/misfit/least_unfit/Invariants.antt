use Rattle.std.proofs.Common.{take}
use Rattle.sh_map.{specs.Judge.{FitsRule}, proofs.JudgeLemmas.{SoFar}}
use Rattle.sh_map.proofs.misfit.least_unfit.Given as goal

abbrev pub invariant-loop-at : goal.invariant-loop-at
invariant-loop-at l = SoFar (FitsRule l.fn.rule l.fn.log) (take l.at l.dones) l.least
