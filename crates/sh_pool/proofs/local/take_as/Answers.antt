use Rattle.std.proofs.Common.{rules}
use Rattle.sh_pool_rule.{proofs.TakeLemmas.{taking}}
use Rattle.sh_pool.proofs.local.take_as.Goals as goal

pub join_seat-requires : goal.join_seat-requires
join_seat-requires g c = search (rules, taking)
