use Rattle.std.proofs.Common.{Bor, List, ℕ, Some}
use Rattle.sh_base.specs.Parts.{parts_of}
use Rattle.sh_sheet.{specs.Reader.{HasMarks}, proofs.RowSteps.{IsTaking}}
use Rattle.sh_sheet.proofs.sheet.read_rows.Given as goal

abbrev pub invariant-loop-read : goal.invariant-loop-read
invariant-loop-read l = HasMarks l.found.marks l.found.items.items
    × IsTaking (λ (s : Bor (List ℕ)). Some s.now) (parts_of l.cfg) l.mode l.fn.bytes l.found.headed l.found.items.items l.read-iterator.rdr l.read-iterator.left
