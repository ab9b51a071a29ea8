use Rattle.std.proofs.Common.{rules}
use Rattle.sh_text.proofs.Fronts.{front_behind, front_first}
use Rattle.sh_picture.proofs.writing.write_lawful.Goals as goal

pub returns-in-Ok-clause-err : goal.returns-in-Ok-clause-err
returns-in-Ok-clause-err g c = search (rules, front_behind)

pub returns-in-Err-clause-err : goal.returns-in-Err-clause-err
returns-in-Err-clause-err g c = front_first _ _ _ _ c.in-Err.ensures.err
