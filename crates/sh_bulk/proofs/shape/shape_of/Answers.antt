use Rattle.std.proofs.Common.{◌∙◌, ap, arith}
use Rattle.sh_bulk.{specs.Shape.{div_up}, proofs.ShapeLemmas.{climb_start, climb_more, climb_end, halves, leaves_few}}
use Rattle.sh_bulk.proofs.shape.shape_of.Goals as goal

pub levels-init : goal.levels-init
levels-init c = climb_start c.args.cfg.now.parts c.args.cfg.now.lawful c.args.rows _ c.leaf_count-count.ensures

pub overflow_add-need : goal.overflow_add-need
overflow_add-need c = let few = leaves_few c.args.cfg.now.parts c.args.cfg.now.lawful c.args.rows in omega (arith, few, c.requires, c.levels.invariant.small, c.levels-test.true)

pub levels-smaller : goal.levels-smaller
levels-smaller c = let half = halves c.levels.count c.inner_fill-fill.result c.inner_fill-fill.ensures.low c.levels-test.true in omega (arith, half, c.div_up-count.ensures, c.levels-test.true)

pub levels-preserved : goal.levels-preserved
levels-preserved c = climb_more c.args.cfg.now.parts c.args.cfg.now.lawful c.args.rows _ _ _ _ c.levels-test.true (c.div_up-count.ensures ∙ ap (div_up c.levels.count) c.inner_fill-fill.ensures.fill) c.levels.invariant

pub returns-clause-need : goal.returns-clause-need
returns-clause-need c = (climb_end c.args.cfg.now.parts c.args.cfg.now.lawful c.args.rows _ _ _ (c.levels-test.false) c.levels.invariant).0

pub returns-clause-top : goal.returns-clause-top
returns-clause-top c = (climb_end c.args.cfg.now.parts c.args.cfg.now.lawful c.args.rows _ _ _ (c.levels-test.false) c.levels.invariant).1
