use Rattle.std.proofs.Common.{ap, map, ◌∙◌}
use Rattle.sh_judge.proofs.TreeRows.{rows_all, to_row}
use Rattle.sh_judge.proofs.last.rows_in.Goals as goal

pub returns : goal.returns
returns c = rows_all _ _ c.args.tree.now.entries (c.loop-key.invariant ∙ ap (map to_row) (c.into_iter-key-iterator.ensures.into_iter_gives ∙ c.iter-key-items.ensures.rest)) c.in-None.ensures.steps.0 c.iter-key-items.ensures.ordered
