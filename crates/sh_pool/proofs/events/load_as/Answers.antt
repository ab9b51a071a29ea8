use Rattle.sh_base.specs.{Parts.{parts_of}, declared.event.Event.TheVariants.{Load}}
use Rattle.sh_pool_rule.proofs.Allowed.{allows_turn}
use Rattle.sh_pool.proofs.events.load_as.Goals as goal

pub load-requires : goal.load-requires
load-requires g c = (
  c.requires.table.0,
  c.requires.table.1,
  allows_turn (parts_of c.args.words.now.key) c.args.words.now.table_id.slots c.args.seat.now.id c.args.seat.now.me g.J.TurnOf.actor (Load c.args.at) g.J.TurnOf.tale c.requires.actor c.requires.wants,
)
