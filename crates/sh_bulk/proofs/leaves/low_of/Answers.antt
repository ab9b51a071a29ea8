use Rattle.std.proofs.Common.{ap, sym, ◌∙◌, arith}
use Rattle.sh_map.specs.Rows.{row_key}
use Rattle.sh_bulk.{specs.Nodes.{low_in}, proofs.{ShapeLemmas.{leaf_begins}, RowLemmas.{leaf_low, low_first}}}
use Rattle.sh_bulk.proofs.leaves.low_of.Goals as goal

pub key_at-requires : goal.key_at-requires
key_at-requires c = omega (arith, c.requires.from, leaf_begins c.args._cfg.now.parts c.args._cfg.now.lawful _ c.args.j c.requires.leaf c.if-j-eq0.false)

pub returns-then-j-eq0 : goal.returns-then-j-eq0
returns-then-j-eq0 c = sym (ap (low_in c.args._cfg.now.parts c.args.rows.now 0) c.if-j-eq0.true ∙ low_first c.args._cfg.now.parts c.args.rows.now 0)

pub returns-else-j-eq0 : goal.returns-else-j-eq0
returns-else-j-eq0 c = c.key_at.ensures ∙ (ap (row_key c.args.rows.now) c.requires.from ∙ sym (leaf_low c.args._cfg.now.parts c.args.rows.now c.args.j c.if-j-eq0.false))
