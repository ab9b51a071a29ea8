use Rattle.std.{proofs.Common.{◌∙◌, ap, subst}, specs.Io.KnownBytes.{Appends}}
use Rattle.sh_options.specs.Order.{asked_of}
use Rattle.sh_port.specs.Port.{AppendsFront}
use Rattle.sh_fleet.{specs.{Output.{text_from}, Sharing.{told_by}}, proofs.TopLemmas.{ended_unwritten, ended_well}}
use Rattle.sh_fleet.proofs.top.run.Goals as goal

pub returns-in-Ok-write_lines : goal.returns-in-Ok-write_lines
returns-in-Ok-write_lines g c =
    let o = asked_of c.args.order.now in
    let has = rw c.as_slice.ensures at c.in-Ok-serve.ensures.ok in
    let text = ap (λ items. text_from o.map items (told_by c.deref.result.now) c.as_slice-3.result.now) c.as_slice-2.ensures ∙ ap (λ answers. text_from o.map c.in-Ok.sheet.items (told_by answers) c.as_slice-3.result.now) c.deref.ensures.value ∙ ap (text_from o.map c.in-Ok.sheet.items (told_by c.in-Ok-serve.answers.items)) c.as_slice-3.ensures in
    ended_well o c.args.pool.now _ _ _ _ _ _ _ _ _ c.in-Ok.sheet.items c.in-Ok.ensures.are _ _ has (subst (Appends (g.K.Sink.held c.args.sink.now) (g.K.Sink.held c.write_lines.new.sink)) text c.in-Ok-write_lines.ensures.ok) c.in-Ok-write_lines.ensures.cause

pub returns : goal.returns
returns g c =
    let o = asked_of c.args.order.now in
    let has = rw c.as_slice.ensures at c.in-Ok-serve.ensures.ok in
    let text = ap (λ items. text_from o.map items (told_by c.deref.result.now) c.as_slice-3.result.now) c.as_slice-2.ensures ∙ ap (λ answers. text_from o.map c.in-Ok.sheet.items (told_by answers) c.as_slice-3.result.now) c.deref.ensures.value ∙ ap (text_from o.map c.in-Ok.sheet.items (told_by c.in-Ok-serve.answers.items)) c.as_slice-3.ensures in
    rw c.unwritten.ensures (ended_unwritten o c.args.pool.now _ _ _ _ _ _ _ _ _ c.in-Ok.sheet.items c.in-Ok.ensures.are _ _ has c.in-Err-write_lines.error (subst (AppendsFront (g.K.Sink.held c.args.sink.now) (g.K.Sink.held c.write_lines.new.sink)) text c.in-Err-write_lines.ensures.err) c.in-Err-write_lines.ensures.cause)
