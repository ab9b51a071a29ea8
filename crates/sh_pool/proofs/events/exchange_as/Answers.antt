use Rattle.sh_base.specs.{Parts.{parts_of}, declared.event.Event.TheVariants.{Exchange}}
use Rattle.sh_pool_rule.proofs.Allowed.{allows_turn}
use Rattle.sh_pool.proofs.events.exchange_as.Goals as goal

pub compare_exchange-requires : goal.compare_exchange-requires
compare_exchange-requires g c = (
  c.requires.table.0,
  c.requires.table.1,
  allows_turn (parts_of c.args.words.now.key) c.args.words.now.table_id.slots c.args.seat.now.id c.args.seat.now.me g.J.TurnOf.actor (Exchange c.args.at c.args.old c.args.new) g.J.TurnOf.tale c.requires.actor c.requires.wants,
)
