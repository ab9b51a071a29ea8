use Rattle.std.proofs.Common.{rules}
use Rattle.sh_judge.{proofs.{Owners.{owners_kept_at, owners_set_at}, places.owners.Goals.{then-is_below, else-is_below}}}
use Rattle.sh_judge.proofs.places.owners.Goals as goal

pub loop-at-preserved : goal.loop-at-preserved
loop-at-preserved c = search (rules, then-is_below, owners_set_at, else-is_below, owners_kept_at)
