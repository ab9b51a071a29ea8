use Rattle.sh_base.specs.Parts.{parts_of}
use Rattle.sh_pool_rule.proofs.PartLemmas.{parting}
use Rattle.sh_pool.proofs.local.part_as.Goals as goal

pub split_seat-seat-requires : goal.split_seat-seat-requires
split_seat-seat-requires g c = (c.requires.table.0, c.requires.table.1, parting (parts_of c.args.words.now.key) c.args.seat.now.id c.args.seat.now.me.0 g.A.TurnOf.actor g.A.TurnOf.tale c.requires.actor c.requires.hands)
