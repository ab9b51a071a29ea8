use Rattle.std.proofs.Common.{◌≡◌}
use Rattle.sh_world.specs.States.{fresh_from}
use Rattle.sh_world.proofs.laid.fresh_seats.Given as goal

abbrev pub invariant-loop-seat : goal.invariant-loop-seat
invariant-loop-seat l = l.seats.items ≡ fresh_from l.cfg.parts 0 l.seat
