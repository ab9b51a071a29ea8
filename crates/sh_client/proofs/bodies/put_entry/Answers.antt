use Rattle.sh_client.proofs.ImageLemmas.{entry_is_whole}
use Rattle.sh_client.proofs.bodies.put_entry.Goals as goal

pub returns-in-Leaf-clause-size : goal.returns-in-Leaf-clause-size
returns-in-Leaf-clause-size c = entry_is_whole c.args.cfg.now.parts _ _ c.set_entry.ensures c.written_value.ensures.size
