use Rattle.sh_client.proofs.ImageLemmas.{right_room}
use Rattle.sh_client.proofs.splits.put_inners.Goals as goal

pub set_inner-requires-2 : goal.set_inner-requires-2
set_inner-requires-2 c = right_room c.args.cfg.now.parts c.args.cfg.now.lawful c.args.inner.now _ _ c.requires.full c.split_inner-halves.ensures.right
