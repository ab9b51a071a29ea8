use Rattle.sh_replay.{specs.Output.{lines_behind}, proofs.OutputLemmas.{front_of_first}}
use Rattle.sh_text.proofs.Fronts.{front_behind}
use Rattle.sh_replay.proofs.output.write_lines.Goals as goal

pub returns-in-Ok-clause-err : goal.returns-in-Ok-clause-err
unfolding lines_behind
returns-in-Ok-clause-err g c =
    front_behind _ _ _ _ _ c.write_last_lines.result c.in-Ok.ensures.ok c.write_last_lines.ensures.err

pub returns-in-Err-clause-err : goal.returns-in-Err-clause-err
unfolding lines_behind
returns-in-Err-clause-err g c = front_of_first _ _ _ _ c.in-Err.ensures.err
