use Rattle.sh_options.specs.Order.{asked_of}
use Rattle.sh_replay.proofs.ReplayLemmas.{read_of}
use Rattle.sh_replay.proofs.replay.read_items.Goals as goal

pub returns-clause-are : goal.returns-clause-are
returns-clause-are g c = read_of (asked_of c.args.order.now) _ _ _ _ _ _ _ _ c.requires c.in-Ok.ensures c.deref.ensures.value c.in-Ok-read_sheet.ensures.reads
