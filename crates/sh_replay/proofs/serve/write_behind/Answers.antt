use Rattle.std.proofs.Common.{refl, inr, length, sym, subst, ◌≤◌}
use Rattle.sh_options.specs.Order.{asked_of}
use Rattle.sh_text.specs.declared.write.WriteError.TheVariants as error
use Rattle.sh_replay.proofs.{ReplayLemmas.{none_behind}, ServeLemmas.{few_rows, some_rows}}
use Rattle.sh_replay.proofs.serve.write_behind.Goals as goal

pub returns-in_default : goal.returns-in_default
returns-in_default g c =
    let some = some_rows c.args.world.now c.args.finish (c.keeps_the_laws.ensures.lawful, c.keeps_the_laws.ensures.running) c.requires.ended in
    record { rows = some.0; holds = some.1; ends = inr (error.NoMemory, none_behind (asked_of c.args.order.now) c.args.world.now.calls some.0 (g.K.Sink.held c.args.sink.now), refl, refl) }

pub write_lines-requires-clause-rows : goal.write_lines-requires-clause-rows
write_lines-requires-clause-rows g c = subst (λ l. length l ≤ 4294967296) (sym c.as_slice.ensures) (few_rows c.args.world.now c.args.finish c.in-Ok.rows (c.keeps_the_laws.ensures.lawful, c.keeps_the_laws.ensures.running) c.requires.few c.in-Ok.ensures)
