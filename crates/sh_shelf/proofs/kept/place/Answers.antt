use Rattle.std.proofs.{Common.{ap, arith}, lemmas.Bool.Decides.{nat_tests}}
use Rattle.sh_image.specs.Inner.{Inner}
use Rattle.sh_shelf.proofs.RowLemmas.{lacks_more}
use Rattle.sh_shelf.proofs.kept.place.Goals as goal

pub loop-at-preserved : goal.loop-at-preserved
loop-at-preserved c = lacks_more c.args.rows.now c.args.low c.loop-at.at c.index-rows-at.result c.loop-at-test.true c.index-rows-at.is (λ e. grind (arith, nat_tests, ap (λ (r : Inner). r.low) c.row.view_is, c.if-row-low.false, e)) c.loop-at.invariant
