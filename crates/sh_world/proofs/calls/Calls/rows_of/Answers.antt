use Rattle.std.proofs.{Common.{◌∙◌, ◌++◌, ◌∷◌, [], arith, sym}, lemmas.{List.{take_more}, Option.{get_or_from_slice_get}}}
use Rattle.sh_world.specs.States.{rows_at}
use Rattle.sh_world.proofs.calls.Calls.rows_of.Goals as goal

pub loop-row-preserved : goal.loop-row-preserved
loop-row-preserved c =
    let rows = rows_at c.args.self.now.calls c.args.index in
    let read = sym (get_or_from_slice_get rows c.loop-row.row c.row.result c.row.result c.row.ensures) in
    c.in_ok-push.ensures.ok ∙ (λ t. c.loop-row.invariant t ++ read t ∷ []) ∙ sym (take_more rows c.loop-row.row c.row.result (omega (arith, c.loop-row-test.true, c.rows-row-end.ensures)))
