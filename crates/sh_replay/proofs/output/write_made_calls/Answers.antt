use Rattle.std.proofs.Common.{rules}
use Rattle.sh_text.proofs.Fronts.{front_behind}
use Rattle.sh_replay.proofs.OutputLemmas.{front_of_first}
use Rattle.sh_replay.proofs.output.write_made_calls.Goals as goal

pub returns-in-Ok-clause-err : goal.returns-in-Ok-clause-err
returns-in-Ok-clause-err g c = search (rules, front_behind)

pub returns-in-Err-clause-err : goal.returns-in-Err-clause-err
returns-in-Err-clause-err g c = front_of_first _ _ _ _ c.in-Err.ensures.err
