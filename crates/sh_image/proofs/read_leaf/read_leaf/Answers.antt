use Rattle.std.proofs.Common.{rules}
use Rattle.sh_image.{proofs.{FillLemmas.{read_whole}, LeafLemmas.{spelled_one}, ReadLemmas.{words_from_untorn}}}
use Rattle.sh_image.proofs.read_leaf.read_leaf.Goals as goal

pub returns-then-not-is_leaf-clause-always : goal.returns-then-not-is_leaf-clause-always
returns-then-not-is_leaf-clause-always c = search (rules, spelled_one)

pub returns-clause-spelled : goal.returns-clause-spelled
returns-clause-spelled c = search (rules, read_whole, words_from_untorn)
