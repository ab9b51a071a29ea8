use Rattle.std.proofs.Common.{rules}
use Rattle.sh_port.proofs.Fronts.{front_of_line, text_of_line}
use Rattle.sh_port.proofs.loops.write_line.Goals as goal

pub returns-in-Ok-clause-err : goal.returns-in-Ok-clause-err
returns-in-Ok-clause-err g c = search (rules, text_of_line)

pub returns-in-Err-clause-err : goal.returns-in-Err-clause-err
returns-in-Err-clause-err g c = search (rules, front_of_line)
