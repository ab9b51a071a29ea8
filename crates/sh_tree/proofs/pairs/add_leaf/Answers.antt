use Rattle.std.{proofs.Common.{rules}}
use Rattle.sh_image.{proofs.UntornLemmas.{seen_spelled}}
use Rattle.sh_tree.{proofs.HoldLemmas.{leaf_read, part_is}}
use Rattle.sh_tree.proofs.pairs.add_leaf.Goals as goal

pub returns-in-Leaf : goal.returns-in-Leaf
returns-in-Leaf c = search (rules, leaf_read)

pub returns-in_default : goal.returns-in_default
returns-in_default c = search (rules, part_is, seen_spelled)
