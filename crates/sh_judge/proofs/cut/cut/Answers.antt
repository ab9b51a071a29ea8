use Rattle.std.proofs.Common.{sym, ◌∙◌}
use Rattle.sh_judge.proofs.Parts.{none_here, first_here}
use Rattle.sh_judge.proofs.cut.cut.Goals as goal

pub returns-in-Some : goal.returns-in-Some
returns-in-Some c = first_here c.args.code c.args.text.now c.in-Some.at (sym c.find.ensures ∙ c.in-Some.is)

pub returns-in-None : goal.returns-in-None
returns-in-None c = none_here c.args.code c.args.text.now (sym c.find.ensures ∙ c.in-None.is)
