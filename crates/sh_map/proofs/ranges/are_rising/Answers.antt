use Rattle.std.{proofs.{Common.{rules, arith, ap}, lemmas.List.{take_all}}}
use Rattle.sh_map.{specs.declared.book.Row.{Row}, proofs.{RangeLemmas.{rising_more}, ranges.are_rising.Goals.{else-at-gt0-via-then-at-gt0+else-row-rows, else-at-gt0-via-else-at-gt0}}}
use Rattle.sh_map.proofs.ranges.are_rising.Goals as goal

pub loop-at-preserved : goal.loop-at-preserved
loop-at-preserved c =
    let rows = c.args.rows.now in
    let at = c.loop-at.at in
    rising_more rows at c.index-rows-at.result c.loop-at-test.true c.index-rows-at.is c.loop-at.invariant (λ positive. elim c.else-at-gt0.branch [
      | else-at-gt0-via-then-at-gt0+else-row-rows w ↦ (w.index-rows-at-then-at-gt0.result, w.index-rows-at-then-at-gt0.is, omega (arith, ap (λ (r : Row). r.key) w.index-rows-at-then-at-gt0.is, w.if-row-rows.false))
      | else-at-gt0-via-else-at-gt0 w ↦ absurd (omega arith)
    ])

pub returns : goal.returns
returns c = search (rules, take_all)
