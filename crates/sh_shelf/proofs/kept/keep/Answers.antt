use Rattle.sh_cache.proofs.RowLemmas.{kept_there, no_low}
use Rattle.sh_shelf.proofs.kept.keep.Goals as goal

pub returns-in-Some-clause-rows : goal.returns-in-Some-clause-rows
returns-in-Some-clause-rows c = kept_there c.args.room c.args.rows.now.items c.args.row c.in-Some.at (rw (← c.row.view_is, ← c.deref.ensures.value) c.in-Some.ensures)

pub returns-in-None-clause-rows : goal.returns-in-None-clause-rows
returns-in-None-clause-rows c = rw (no_low c.args.rows.now.items c.args.row.low (rw (← c.row.view_is, ← c.deref.ensures.value) c.in-None.ensures)) c.add.ensures.rows
