use Rattle.std.proofs.Common.{ap, sym, ◌∙◌}
use Rattle.sh_map.{specs.Map.{get}, proofs.TreeLemmas.{tree_get}}
use Rattle.sh_map.proofs.tree_map.TreeMap.get.Goals as goal

pub returns : goal.returns
returns c = c.copied.ensures ∙ c.get.ensures.value ∙ sym (tree_get c.self.inside.tree c.args.key) ∙ ap (λ m. get m c.args.key) c.self.view_is
