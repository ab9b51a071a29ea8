use Rattle.std.proofs.Common.{rules}
use Rattle.sh_sheet.proofs.MadeLemmas.{made_lawful, made_marks, made_rows}
use Rattle.sh_sheet.proofs.made.generate.Goals as goal

pub returns-clause-lawful : goal.returns-clause-lawful
returns-clause-lawful c = made_lawful c.args.cfg.now.parts c.args.n c.args.seed c.args.cfg.now.lawful c.requires.low c.requires.high _ c.in_ok-items.ensures

pub returns-clause-marks : goal.returns-clause-marks
returns-clause-marks c = made_marks c.args.cfg.now.parts c.args.n c.args.seed _ c.in_ok-items.ensures

pub returns-then-not-are_few-clause-made : goal.returns-then-not-are_few-clause-made
returns-then-not-are_few-clause-made c = search (rules, made_rows)
