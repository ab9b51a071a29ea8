use Rattle.std.proofs.Common.{rules}
use Rattle.sh_image.{proofs.PairLemmas.{length_pairs_of, pairs_of_push}}
use Rattle.sh_image.proofs.inner.InnerImage.push.Goals as goal

pub prove-unreachable-requires : goal.prove-unreachable-requires
prove-unreachable-requires c = search (rules, length_pairs_of)

pub returns : goal.returns
returns c = search (rules, pairs_of_push)
