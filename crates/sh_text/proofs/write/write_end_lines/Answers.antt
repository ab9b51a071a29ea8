use Rattle.sh_text.proofs.Fronts.{front_behind, front_first}
use Rattle.sh_text.proofs.write.write_end_lines.Goals as goal

pub returns-in-Ok-clause-err : goal.returns-in-Ok-clause-err
returns-in-Ok-clause-err g c =
    let written = rw c.sum_of.ensures at c.write_end.ensures.err in
    front_behind _ _ _ _ _ c.write_end.result c.in-Ok.ensures.ok written

pub returns-in-Err-clause-err : goal.returns-in-Err-clause-err
returns-in-Err-clause-err g c = front_first _ _ _ _ c.in-Err.ensures.err
