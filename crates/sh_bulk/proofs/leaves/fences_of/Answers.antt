use Rattle.std.proofs.Common.{rules, ◌≡◌, ◌+◌, ◌∙◌, ap, sym, length, min, arith}
use Rattle.sh_map.specs.Rows.{row_key}
use Rattle.sh_bulk.{specs.{Shape.{leaf_fill}, Nodes.{high_in, next_in}}, proofs.{LevelLemmas.{leaf_last, leaf_next}, RowLemmas.{high_last, high_more, leaf_low, next_last, next_more}}}
use Rattle.sh_bulk.proofs.ShapeLemmas.{leaves_few}
use Rattle.sh_bulk.proofs.leaves.fences_of.Goals as goal

pub overflow_add-result : goal.overflow_add-result
overflow_add-result c = omega (arith, c.requires.leaf, c.requires.few, leaves_few c.args.cfg.now.parts c.args.cfg.now.lawful (length c.args.rows.now))

pub returns-then-to-rows : goal.returns-then-to-rows
returns-then-to-rows c =
    let p = c.args.cfg.now.parts in
    let rows = c.args.rows.now in
    let j = c.args.j in
    let (at, more) = leaf_next p c.args.cfg.now.lawful (length rows) j c.args.to c.requires.leaf (c.requires.to ∙ ap (λ k. min (k + leaf_fill p) (length rows)) c.requires.from) c.if-to-rows.true in
    let high : c.key_at.result ≡ high_in p rows 0 j = c.key_at.ensures ∙ (ap (row_key rows) at ∙ (sym (leaf_low p rows (j + 1) (λ e. omega arith)) ∙ sym (high_more p rows 0 j more))) in
    let next : j + 2 ≡ next_in p rows 0 j = omega (arith, next_more p rows 0 j more) in
    λ t. record { low = c.low_of-low.ensures t; high = high t; next = next t }

pub returns-else-to-rows : goal.returns-else-to-rows
returns-else-to-rows c = search (rules, leaf_last, high_last, next_last)
