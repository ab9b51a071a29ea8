use Rattle.std.proofs.{Common.{◌∙◌, length, refl, subst, sym}, lemmas.Option.{slice_get_read}}
use Rattle.sh_fleet.{specs.{Output.{lines_from}, Telling.{rest_by}}, proofs.OutputLemmas.{next_lines, next_number, tell_front, tell_more, Telling}}
use Rattle.sh_fleet.proofs.output.write_items.Goals as goal

pub returns-in-Err-clause-err : goal.returns-in-Err-clause-err
returns-in-Err-clause-err g c =
    let here = slice_get_read c.args.items.now (length c.args.items.now) c.loop-item.item-index c.item-item.result refl c.loop-item-test.true c.item-item.is in
    let lines = next_lines c.args.items.now c.loop-item.item-index c.item-item.result here c.loop-item.n (rest_by c.args.answers.now c.loop-item.cursors) (rest_by c.args.answers.now c.write_item.new.cursors) c.write_item.ensures.rest in
    let told = subst (Telling (g.K.Sink.held c.args.sink.now) (g.K.Sink.held c.loop-item.sink) (lines_from 1 c.args.items.now (rest_by c.args.answers.now c.args.cursors.now))) lines c.loop-item.invariant.0 in
    tell_front _ _ _ _ _ _ told c.in-Err.ensures.err

pub loop-item-preserved : goal.loop-item-preserved
loop-item-preserved g c =
    let here = slice_get_read c.args.items.now (length c.args.items.now) c.loop-item.item-index c.item-item.result refl c.loop-item-test.true c.item-item.is in
    let lines = next_lines c.args.items.now c.loop-item.item-index c.item-item.result here c.loop-item.n (rest_by c.args.answers.now c.loop-item.cursors) (rest_by c.args.answers.now c.write_item.new.cursors) c.write_item.ensures.rest in
    let told = subst (Telling (g.K.Sink.held c.args.sink.now) (g.K.Sink.held c.loop-item.sink) (lines_from 1 c.args.items.now (rest_by c.args.answers.now c.args.cursors.now))) lines c.loop-item.invariant.0 in
    let number = sym (next_number c.args.items.now c.loop-item.item-index c.item-item.result here c.loop-item.n) ∙ c.loop-item.invariant.2 in
    rw c.number_behind-n.ensures (tell_more _ _ _ _ _ _ told c.in-Ok.ensures.ok, c.in-Ok.ensures.cause ∙ c.loop-item.invariant.1, number, c.write_item.ensures.at)
