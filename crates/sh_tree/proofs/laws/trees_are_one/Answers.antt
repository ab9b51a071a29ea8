use Rattle.sh_tree.proofs.ChainLemmas.{nodes_are_one, trees_are_one}
use Rattle.sh_tree.proofs.laws.trees_are_one.Goals as goal

pub returns-clause-node : goal.returns-clause-node
returns-clause-node c = nodes_are_one c.args.cfg.now.parts

pub returns-clause-tree : goal.returns-clause-tree
returns-clause-tree c = trees_are_one c.args.cfg.now.parts
