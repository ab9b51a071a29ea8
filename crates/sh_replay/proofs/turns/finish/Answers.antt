use Rattle.std.{proofs.{Common.{rules, length, ap, arith}, lemmas.List.{length-map}}}
use Rattle.sh_replay.{specs.{Served.{item_of}}, proofs.{ServeLemmas.{calls_counted}}}
use Rattle.sh_replay.proofs.turns.finish.Goals as goal

pub of-requires-clause-few : goal.of-requires-clause-few
of-requires-clause-few c = omega (arith, calls_counted c.args.sheet.items, ap length c.requires.calls, length-map c.args.world.now.calls item_of, c.keeps_the_laws.ensures.running.few)

pub returns-in-Ok : goal.returns-in-Ok
returns-in-Ok c = search rules
