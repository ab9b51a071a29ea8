use Rattle.std.proofs.Common.{Bor, List, ℕ, Some}
use Rattle.sh_base.specs.Parts.{parts_of}
use Rattle.sh_bulk.{specs.{Fault.{AreGood}, Nodes.{HaveValues}}, proofs.SheetLemmas.{IsGathering}}
use Rattle.sh_bulk.proofs.gather.gather_rows.Given as goal

-- the rows so far
abbrev pub invariant-loop-read : goal.invariant-loop-read
invariant-loop-read l = AreGood l.found.items × HaveValues (parts_of l.cfg) l.found.items
    × IsGathering (λ (s : Bor (List ℕ)). Some s.now) (parts_of l.cfg) l.fn.bytes l.found.items l.read-iterator.rdr l.read-iterator.left
