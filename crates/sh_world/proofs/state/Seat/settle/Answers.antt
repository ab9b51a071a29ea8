use Rattle.std.proofs.Common.{rules}
use Rattle.sh_world.proofs.{PointLemmas.{can_end, place_going, point_fits, point_made, point_stays, seen_is}, state.Seat.settle.Goals.{then-seen-log, else-seen-log}}
use Rattle.sh_client.proofs.Wanting.{ended_in, going_in}
use Rattle.sh_world.proofs.state.Seat.settle.Goals as goal

pub overflow_cast-point : goal.overflow_cast-point
overflow_cast-point c = search (rules, ended_in, can_end, point_fits)

pub returns-after-seen-log-clause-seat : goal.returns-after-seen-log-clause-seat
returns-after-seen-log-clause-seat c = search (rules, going_in, then-seen-log, place_going, seen_is, point_made, else-seen-log, point_stays)
