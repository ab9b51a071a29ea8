use Rattle.std.proofs.Common.{rules}
use Rattle.sh_image.proofs.PairLemmas.{no_pairs_of}
use Rattle.sh_image.proofs.inner.InnerImage.begin.Goals as goal

pub returns : goal.returns
returns c = search (rules, no_pairs_of)
