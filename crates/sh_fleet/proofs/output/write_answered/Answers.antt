use Rattle.sh_text.proofs.Fronts.{front_behind, front_first}
use Rattle.sh_fleet.proofs.output.write_answered.Goals as goal

pub returns-in-Ok-clause-err : goal.returns-in-Ok-clause-err
returns-in-Ok-clause-err g c = front_behind _ _ _ _ _ c.write_rows.result c.in-Ok.ensures.ok c.write_rows.ensures.err

pub returns-in-Err-clause-err : goal.returns-in-Err-clause-err
returns-in-Err-clause-err g c = front_first _ _ _ _ c.in-Err.ensures.err
