use Rattle.std.proofs.Common.{rules}
use Rattle.sh_image.{proofs.PairLemmas.{length_pairs_of}}
use Rattle.sh_image.proofs.inner.InnerImage.pairs.Goals as goal

pub returns-clause-pairs : goal.returns-clause-pairs
returns-clause-pairs c = search (rules, length_pairs_of)
