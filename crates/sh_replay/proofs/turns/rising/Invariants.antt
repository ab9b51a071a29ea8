use Rattle.std.{proofs.Common.{◌≡◌, length, take}, specs.List.{range_with_len}}
use Rattle.sh_replay.proofs.turns.rising.Given as goal

abbrev pub invariant-loop-seat : goal.invariant-loop-seat
invariant-loop-seat l = (length l.seats ≡ 64) × (take l.seat l.seats ≡ range_with_len 0 l.seat)
