use Rattle.sh_map.proofs.TreeLemmas.{tree_put, tree_del}
use Rattle.sh_judge.proofs.last.apply.Goals as goal

pub returns-in_ok-insert-in-Put : goal.returns-in_ok-insert-in-Put
returns-in_ok-insert-in-Put c = rw c.in-Put.is (tree_put c.args.tree.now c.insert.new.self c.in-Put.key c.in-Put.value c.in_ok-insert-in-Put.ensures.updates)

pub returns-in-Del : goal.returns-in-Del
returns-in-Del c = rw c.in-Del.is (tree_del c.args.tree.now c.remove.new.self c.in-Del.key c.remove.ensures.updates)
