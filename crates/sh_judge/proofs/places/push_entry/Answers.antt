use Rattle.std.proofs.{Common.{sym}, lemmas.{List.{append-nil}, Option.{slice_get_past}}}
use Rattle.sh_judge.proofs.places.push_entry.Goals as goal

pub returns-else-at-dones-clause-items : goal.returns-else-at-dones-clause-items
returns-else-at-dones-clause-items c = rw (slice_get_past c.args.dones.now c.args.at c.if-at-dones.false) (sym (append-nil c.args.log.now.items))
