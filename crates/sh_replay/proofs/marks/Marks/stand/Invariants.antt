use Rattle.std.proofs.Common.{◌≡◌, ◌≤◌, ◌<◌, ℕ, true, length, get_or, Some}
use Rattle.std.specs.Prelude.{slice_get}
use Rattle.sh_replay.specs.{declared.marks.AfterRow.{AfterRow}, Course.{ended_of}, Standing.{stop_of}}
use Rattle.sh_sheet.specs.Marks.{is_passed}
use Rattle.sh_replay.proofs.marks.Marks.stand.Given as goal

abbrev pub invariant-loop-at : goal.invariant-loop-at
invariant-loop-at l = (i : ℕ) (r : AfterRow) → get_or l.self.next l.seat 0 ≤ i → i < l.at → slice_get l.self.rows.items i ≡ Some r → r.seat ≡ l.seat → is_passed (ended_of l.world) (length l.world.seats) (stop_of r) ≡ true
