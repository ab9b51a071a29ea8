use Rattle.std.proofs.Common.{rules}
use Rattle.sh_local.{proofs.Regroup.{splits}}
use Rattle.sh_local.proofs.queues.seat_all.Goals as goal

pub split_seat-requires : goal.split_seat-requires
split_seat-requires g c = search (rules, splits)
