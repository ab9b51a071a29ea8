use Rattle.std.proofs.Common.{ap, sym, ◌∙◌}
use Rattle.sh_map.{specs.Log.{changed}, proofs.LogLemmas.{map_from_more}}
use Rattle.sh_map.proofs.tree_map.apply_all.Goals as goal

pub loop-entry-preserved : goal.loop-entry-preserved
loop-entry-preserved c = c.in_ok-apply.ensures.ok ∙ ap (λ m. changed m c.entry-item.result.change) c.loop-entry.invariant ∙ sym (map_from_more c.args.map.now c.args.entries.now c.loop-entry.entry-index c.entry-item.result c.loop-entry-test.true c.entry-item.is)
