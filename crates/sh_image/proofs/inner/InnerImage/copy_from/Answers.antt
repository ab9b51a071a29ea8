use Rattle.std.proofs.Common.{rules}
use Rattle.sh_image.proofs.PairLemmas.{pairs_of_front}
use Rattle.sh_image.proofs.inner.InnerImage.copy_from.Goals as goal

pub returns : goal.returns
returns c = search (rules, pairs_of_front)
