use Rattle.std.proofs.Common.{rules}
use Rattle.std.{proofs.Common.{List, subst, ap, Err, arith}, specs.Io.KnownBytes.{Appends}}
use Rattle.sh_map.specs.declared.book.Row.{Row}
use Rattle.sh_port.specs.Port.{AppendsFront}
use Rattle.sh_bulk.{specs.{Order.{asked_of}, Top.{built_text}}, proofs.TopLemmas.{has_built}}
use Rattle.sh_bulk.proofs.top.build_input.Goals as goal

pub returns-in-Ok-write_built : goal.returns-in-Ok-write_built
returns-in-Ok-write_built g c =
    let built = has_built c.args.order.now.cfg.parts c.args.order.now.cfg.lawful c.in-Ok.ensures c.deref.ensures.value c.in-Ok-gather_rows.ensures.reads c.in-Ok-gather_rows.ensures.good c.in-Ok-gather_rows.ensures.values (omega (arith, c.if-len-gt-MOST_BULK_ROWS.false, c.len.ensures)) c.deref-2.ensures.value c.in-Ok-build_good.ensures.room in
    (c.in-Ok-gather_rows.rows.items, built, subst (λ (rs : List Row). Appends (g.K.Sink.held c.args.sink.now) (g.K.Sink.held c.write_built.new.sink) (built_text (asked_of c.args.order.now) rs)) c.deref-3.ensures.value c.in-Ok-write_built.ensures.ok, c.in-Ok-write_built.ensures.cause)

pub returns : goal.returns
returns g c =
    let built = has_built c.args.order.now.cfg.parts c.args.order.now.cfg.lawful c.in-Ok.ensures c.deref.ensures.value c.in-Ok-gather_rows.ensures.reads c.in-Ok-gather_rows.ensures.good c.in-Ok-gather_rows.ensures.values (omega (arith, c.if-len-gt-MOST_BULK_ROWS.false, c.len.ensures)) c.deref-2.ensures.value c.in-Ok-build_good.ensures.room in
    rw c.unwritten.ensures (search rules)
