use Rattle.sh_base.specs.Parts.{parts_of}
use Rattle.sh_replay.proofs.{EndLemmas.{few_seats}, ServeLemmas.{all_within}}
use Rattle.sh_replay.proofs.replay.replay.Goals as goal

pub of-requires-clause-seats : goal.of-requires-clause-seats
of-requires-clause-seats g c = all_within (parts_of c.args.order.now.cfg) c.in-Ok.sheet.items (few_seats (parts_of c.args.order.now.cfg) c.args.order.now.cfg.lawful) c.in-Ok.ensures.lawful

pub serve-requires-clause-ready : goal.serve-requires-clause-ready
serve-requires-clause-ready g c = record { items = c.in-Ok.sheet.items; plan_is = c.in-Ok-of.ensures; given_is = c.in-Ok-world_of.ensures.given; can = c.in-Ok.ensures.lawful; few = c.in-Ok.ensures.few }

pub serve-requires-else-order-clause-ready : goal.serve-requires-else-order-clause-ready
serve-requires-else-order-clause-ready g c = record { items = c.in-Ok.sheet.items; plan_is = c.in-Ok-of.ensures; given_is = c.in-Ok-world_of.ensures.given; can = c.in-Ok.ensures.lawful; few = c.in-Ok.ensures.few }

pub returns-then-order : goal.returns-then-order
returns-then-order g c = c.serve.ensures c.in-Ok.sheet.items c.args.world.now _ _ _ _ c.in-Ok-of.ensures c.in-Ok-world_of.ensures.given c.in-Ok.ensures.lawful c.in-Ok.ensures.are c.in-Ok.ensures.few

pub returns-else-order : goal.returns-else-order
returns-else-order g c = c.serve-else-order.ensures c.in-Ok.sheet.items c.args.world.now _ _ _ _ c.in-Ok-of.ensures c.in-Ok-world_of.ensures.given c.in-Ok.ensures.lawful c.in-Ok.ensures.are c.in-Ok.ensures.few
