use Rattle.sh_image.proofs.FillLemmas.{IsFilled}
use Rattle.sh_image.proofs.read_leaf.fill.Given as goal

abbrev pub invariant-loop-index : goal.invariant-loop-index
invariant-loop-index l = IsFilled l.cfg.parts l.words l.fn.image l.index l.image
