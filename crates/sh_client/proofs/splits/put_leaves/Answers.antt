use Rattle.sh_client.proofs.ImageLemmas.{left_ready}
use Rattle.sh_client.proofs.splits.put_leaves.Goals as goal

pub set_leaf-requires-clause-values : goal.set_leaf-requires-clause-values
set_leaf-requires-clause-values c = left_ready c.args.cfg.now.parts c.args.leaf.now _ _ _ _ _ c.requires.leaf c.requires.split c.written_key.ensures c.written_value.ensures.size c.split_leaf-halves.ensures.left
