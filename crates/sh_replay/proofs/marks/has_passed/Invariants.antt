use Rattle.std.{proofs.Common.{◌≡◌, true, get_or}, specs.{Prelude.{nat_le}, List.{list_all, range_with_len}}}
use Rattle.sh_replay.specs.Course.{ended_of}
use Rattle.sh_replay.proofs.marks.has_passed.Given as goal

abbrev pub invariant-loop-seat : goal.invariant-loop-seat
invariant-loop-seat l = list_all (λ of. nat_le (get_or l.clock.counts of 0) (ended_of l.world of)) (range_with_len 0 l.seat) ≡ true
