use Rattle.std.proofs.Common.{sym, ◌∙◌}
use Rattle.sh_judge.proofs.Parts.{none_here, first_here}
use Rattle.sh_judge.proofs.read.next_line.Goals as goal

pub returns-in-Some-clause-parts : goal.returns-in-Some-clause-parts
returns-in-Some-clause-parts c = first_here 10 c.args.text.now c.in-Some.at (sym c.find.ensures ∙ c.in-Some.is)

pub returns-in-None-clause-parts : goal.returns-in-None-clause-parts
returns-in-None-clause-parts c = none_here 10 c.args.text.now (sym c.find.ensures ∙ c.in-None.is)
