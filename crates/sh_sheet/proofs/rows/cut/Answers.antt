use Rattle.std.proofs.Common.{sym, ◌∙◌}
use Rattle.sh_sheet.proofs.ColonParts.{no_colon, first_colon}
use Rattle.sh_sheet.proofs.rows.cut.Goals as goal

pub returns-in-Some : goal.returns-in-Some
returns-in-Some c = first_colon c.args.text.now c.in-Some.at (sym c.find_colon.ensures ∙ c.in-Some.is)

pub returns-in-None : goal.returns-in-None
returns-in-None c = no_colon c.args.text.now (sym c.find_colon.ensures ∙ c.in-None.is)
