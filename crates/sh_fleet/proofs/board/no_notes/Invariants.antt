use Rattle.std.proofs.Common.{◌≡◌, ◌≤◌, replicate, None, vec_capacity}
use Rattle.sh_fleet.proofs.board.no_notes.Given as goal

abbrev pub invariant-loop : goal.invariant-loop
invariant-loop l = (l.notes.items ≡ replicate l.counter None) × (l.count ≤ vec_capacity l.notes)
