use Rattle.sh_base.specs.{Parts.{parts_of}, declared.event.Event.TheVariants.{Store}}
use Rattle.sh_pool_rule.proofs.Allowed.{allows_turn}
use Rattle.sh_pool.proofs.events.store_as.Goals as goal

pub store-requires : goal.store-requires
store-requires g c = (
  c.requires.table.0,
  c.requires.table.1,
  allows_turn (parts_of c.args.words.now.key) c.args.words.now.table_id.slots c.args.seat.now.id c.args.seat.now.me g.J.TurnOf.actor (Store c.args.at c.args.word) g.J.TurnOf.tale c.requires.actor c.requires.wants,
)
