use Rattle.std.proofs.Common.{◌*◌, ap, sym, ◌∙◌, length, arith}
use Rattle.sh_map.specs.Rows.{row_key}
use Rattle.sh_bulk.{specs.Nodes.{low_in}, proofs.{ShapeLemmas.{inner_fill_small, node_begins}, RowLemmas.{low_first, low_more}}}
use Rattle.sh_bulk.proofs.inner.low_of.Goals as goal

pub overflow_mul-j : goal.overflow_mul-j
overflow_mul-j c = let p = c.args._cfg.now.parts in let l = c.args.level in omega (arith, node_begins p c.args._cfg.now.lawful (length c.args.rows.now) l.number c.args.j (omega (arith, c.requires.node, c.requires.level.count_is)) c.if-j-eq0.false, ap (λ s. c.args.j * s) c.requires.level.span_is)

pub key_at-requires : goal.key_at-requires
key_at-requires c = let p = c.args._cfg.now.parts in let l = c.args.level in omega (arith, node_begins p c.args._cfg.now.lawful (length c.args.rows.now) l.number c.args.j (omega (arith, c.requires.node, c.requires.level.count_is)) c.if-j-eq0.false, ap (λ s. c.args.j * s) c.requires.level.span_is)

pub returns-then-j-eq0 : goal.returns-then-j-eq0
returns-then-j-eq0 c = sym (ap (low_in c.args._cfg.now.parts c.args.rows.now c.args.level.number) c.if-j-eq0.true ∙ low_first c.args._cfg.now.parts c.args.rows.now c.args.level.number)

pub returns-else-j-eq0 : goal.returns-else-j-eq0
returns-else-j-eq0 c = let p = c.args._cfg.now.parts in c.key_at.ensures ∙ (ap (λ s. row_key c.args.rows.now (c.args.j * s)) c.requires.level.span_is ∙ sym (low_more p c.args.rows.now (inner_fill_small p c.args._cfg.now.lawful).0 c.args.level.number c.args.j c.if-j-eq0.false))
