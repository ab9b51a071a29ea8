use Rattle.sh_map.proofs.RowsLemmas.{found_in, missed_in}
use Rattle.sh_map.proofs.plain_map.value_in.Goals as goal

pub returns-in-Ok : goal.returns-in-Ok
returns-in-Ok c = found_in c.args.rows.now c.args.key c.in-Ok.at _ c.requires c.in-Ok.ensures.found

pub returns-in-Err : goal.returns-in-Err
returns-in-Err c = missed_in c.args.rows.now c.args.key _ c.in-Err.ensures.absent
