use Rattle.sh_read.proofs.KeptLemmas.{kept_new}
use Rattle.sh_read.proofs.state.Reading.new.Goals as goal

pub invariant_of-result : goal.invariant_of-result
invariant_of-result c = kept_new c.args.cfg.now.parts c.args.cfg.now.lawful c.args.node _ _ _ _ c.requires c.node_word.ensures c.blank.ensures _ c.node_size.ensures
