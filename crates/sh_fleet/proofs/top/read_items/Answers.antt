use Rattle.sh_base.specs.Parts.{parts_of}
use Rattle.sh_fleet.proofs.TopLemmas.{bad_row, read_of}
use Rattle.sh_fleet.proofs.top.read_items.Goals as goal

pub returns-in-Err-Row-clause-are : goal.returns-in-Err-Row-clause-are
returns-in-Err-Row-clause-are g c =
    let reads = rw c.in-Err-Row.field-0-is at c.in-Err-Row.ensures.reads in
    bad_row (parts_of c.args.order.now.cfg) _ _ _ _ _ _ c.in-Ok.ensures c.deref.ensures.value c.in-Err-Row.row c.in-Err-Row.cause reads

pub returns-in-Ok-read_sheet-clause-are : goal.returns-in-Ok-read_sheet-clause-are
returns-in-Ok-read_sheet-clause-are g c = read_of (parts_of c.args.order.now.cfg) _ _ _ _ _ _ c.in-Ok.ensures c.deref.ensures.value _ _ c.in-Ok-read_sheet.ensures.reads c.in-Ok-read_sheet.ensures.few
