use Rattle.sh_image.proofs.InnerLemmas.{IsDecoded}
use Rattle.sh_image.proofs.read_inner.fill.Given as goal

abbrev pub invariant-loop-index : goal.invariant-loop-index
invariant-loop-index l = IsDecoded l.cfg.parts l.words l.next l.index l.image
