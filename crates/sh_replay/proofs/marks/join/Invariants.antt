use Rattle.std.proofs.Common.{◌≡◌, ◌<◌, ◌≤◌, ℕ, get_or}
use Rattle.sh_sheet.specs.Marks.{greater}
use Rattle.sh_replay.proofs.marks.join.Given as goal

abbrev pub invariant-loop-seat : goal.invariant-loop-seat
invariant-loop-seat l = ((of : ℕ) → of < l.seat → get_or l.clock.counts of 0 ≡ greater (get_or l.fn.clock.counts of 0) (get_or l.other.counts of 0)) × ((of : ℕ) → l.seat ≤ of → get_or l.clock.counts of 0 ≡ get_or l.fn.clock.counts of 0)
