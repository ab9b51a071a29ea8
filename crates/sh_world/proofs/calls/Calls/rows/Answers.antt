use Rattle.std.proofs.{Common.{rules, ◌<◌, ◌∙◌, ap, arith, drop, length, refl, sym}, lemmas.Option.{slice_get_read}}
use Rattle.sh_world.{specs.{States.{rows_at}, Columns.{Listed}}, proofs.RowLemmas.{rows_of_call, length_rows, kept_long}}
use Rattle.sh_world.proofs.calls.Calls.rows.Goals as goal

pub prove-unreachable-requires : goal.prove-unreachable-requires
prove-unreachable-requires c = search (rules, kept_long)

pub returns : goal.returns
returns c =
    let i = c.self.inside in
    let k = c.index.result.now in
    let W = i.cfg.parts.value_words in
    let lt : c.args.index < length i.kept.items = omega (arith, c.if-prove.false, c.len.ensures, i.kept.ok.0) in
    sym (ap (λ (l : Listed). length (rows_at l.calls c.args.index)) (sym c.self.view_is) ∙ ap length (rows_of_call W i.kept.items i.words.items i.rows.items c.args.index k (slice_get_read i.kept.items _ c.args.index k refl lt c.index.ensures)) ∙ length_rows W k.count (drop k.start i.rows.items))
