use Rattle.std.{proofs.Common.{◌∙◌, ap, length, replicate, subst, sym, OnErr, OnOk}, specs.Io.KnownBytes.{Appends}}
use Rattle.sh_port.{specs.Port.{AppendsFront}, proofs.Fronts.{front_none}}
use Rattle.sh_fleet.{specs.{Output.{text_from}, Sharing.{told_by}, Telling.{at_first, rest_by, AreAt}}, proofs.{OutputLemmas.{none_told}, TextLemmas.{text_same, text_some}}}
use Rattle.sh_fleet.proofs.output.write_lines.Goals as goal

pub returns-in_default-clause-err : goal.returns-in_default-clause-err
returns-in_default-clause-err g c = front_none _ _ (text_some c.args.asked c.args.items.now (told_by c.args.answers.now) c.args.rows.now)

pub write_told_lines-requires-clause-at : goal.write_told_lines-requires-clause-at
write_told_lines-requires-clause-at g c =
    let first = c.deref_mut.ensures.value ∙ c.in-Ok.ensures in
    subst (AreAt c.args.answers.now) (sym first) (none_told c.args.answers.now c.requires.enough.counted).0

pub returns-clause-ok : goal.returns-clause-ok
returns-clause-ok g c =
    let first = c.deref_mut.ensures.value ∙ c.in-Ok.ensures in
    let none = none_told c.args.answers.now c.requires.enough.counted in
    let text = ap (λ cs. text_from c.args.asked c.args.items.now (rest_by c.args.answers.now cs) c.args.rows.now) first ∙ text_same c.args.asked c.args.items.now (rest_by c.args.answers.now (replicate (length c.args.answers.now) at_first)) (told_by c.args.answers.now) c.args.rows.now none.1 in
    subst (λ t. OnOk c.write_told_lines.result (Appends (g.K.Sink.held c.args.sink.now) (g.K.Sink.held c.write_told_lines.new.sink) t)) text c.write_told_lines.ensures.ok

pub returns-clause-err : goal.returns-clause-err
returns-clause-err g c =
    let first = c.deref_mut.ensures.value ∙ c.in-Ok.ensures in
    let none = none_told c.args.answers.now c.requires.enough.counted in
    let text = ap (λ cs. text_from c.args.asked c.args.items.now (rest_by c.args.answers.now cs) c.args.rows.now) first ∙ text_same c.args.asked c.args.items.now (rest_by c.args.answers.now (replicate (length c.args.answers.now) at_first)) (told_by c.args.answers.now) c.args.rows.now none.1 in
    subst (λ t. OnErr c.write_told_lines.result (AppendsFront (g.K.Sink.held c.args.sink.now) (g.K.Sink.held c.write_told_lines.new.sink) t)) text c.write_told_lines.ensures.err
