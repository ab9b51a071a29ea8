use Rattle.sh_read.proofs.EntryLemmas.{good_entry}
use Rattle.sh_read.proofs.laws.entries_under_way.Goals as goal

pub returns : goal.returns
returns c = good_entry c.args.cfg.now.parts
