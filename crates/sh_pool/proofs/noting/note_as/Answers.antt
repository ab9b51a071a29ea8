use Rattle.sh_base.specs.Parts.{parts_of}
use Rattle.sh_pool_rule.proofs.NotingLemmas.{noting}
use Rattle.sh_pool.proofs.noting.note_as.Goals as goal

pub split_seat-requires : goal.split_seat-requires
split_seat-requires g c = (c.requires.table.0, c.requires.table.1, noting (parts_of c.args.words.now.key) c.args.seat.now.id c.args.seat.now.me.0 g.A.TurnOf.actor g.A.TurnOf.tale c.requires.actor)
