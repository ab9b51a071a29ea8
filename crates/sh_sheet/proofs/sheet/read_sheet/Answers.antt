use Rattle.sh_base.specs.Parts.{parts_of}
use Rattle.sh_sheet.{specs.Records.{records_in}, proofs.Lawful.{rows_lawful}}
use Rattle.sh_sheet.proofs.sheet.read_sheet.Goals as goal

pub returns-clause-lawful : goal.returns-clause-lawful
returns-clause-lawful c = (rows_lawful (parts_of c.args.cfg.now) c.args.mode _ (records_in c.args.bytes.now) _ c.in_ok-sheet.ensures).each

pub returns-clause-marks : goal.returns-clause-marks
returns-clause-marks c = (rows_lawful (parts_of c.args.cfg.now) c.args.mode _ (records_in c.args.bytes.now) _ c.in_ok-sheet.ensures).marks
