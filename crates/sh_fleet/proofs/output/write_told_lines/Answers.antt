use Rattle.sh_fleet.specs.Output.{text_from}
use Rattle.sh_text.proofs.Fronts.{front_behind, front_first}
use Rattle.sh_fleet.proofs.output.write_told_lines.Goals as goal

pub returns-in-Ok-clause-err : goal.returns-in-Ok-clause-err
unfolding text_from
returns-in-Ok-clause-err g c =
    let written = rw (c.from.ensures, c.in-Ok.ensures.calls) at c.write_end_lines.ensures.err in
    front_behind _ _ _ _ _ c.write_end_lines.result c.in-Ok.ensures.ok written

pub returns-in-Err-clause-err : goal.returns-in-Err-clause-err
unfolding text_from
returns-in-Err-clause-err g c = front_first _ _ _ _ c.in-Err.ensures.err
