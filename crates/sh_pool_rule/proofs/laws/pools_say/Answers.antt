use Rattle.std.proofs.Common.{subst}
use Rattle.sh_map.specs.Log.{IsLegal}
use Rattle.sh_core_says.proofs.{Books.{books_are_lawful, refusals_have_causes}, Moments.{each_moment}}
use Rattle.sh_pool_rule.specs.Views.{Has, Out}
use Rattle.sh_pool_rule.proofs.laws.pools_say.Goals as goal

pub returns : goal.returns
returns c = λ words views r. let p = c.args.cfg.now.parts in record {
  log = r.log;
  legal = subst IsLegal r.inv.log_is r.inv.ground.legal;
  fronts = λ id v at. (r.each id v at).begins;
  whole = r.top;
  moment = each_moment p words r.log (Has views) (Out views) r.inv;
  book = λ dones of. books_are_lawful p words r.log (Has views) (Out views) dones r.inv of;
  causes = λ dones of. refusals_have_causes p words r.log (Has views) (Out views) dones r.inv of;
}
