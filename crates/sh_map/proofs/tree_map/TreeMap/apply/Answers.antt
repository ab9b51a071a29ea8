use Rattle.std.proofs.Common.{ap, sym, ◌∙◌}
use Rattle.sh_map.{specs.Map.{get, put, del}, proofs.TreeLemmas.{tree_get, tree_put, tree_del}}
use Rattle.sh_map.proofs.tree_map.TreeMap.apply.Goals as goal

pub returns-in_ok-insert-in-Put-clause-ok : goal.returns-in_ok-insert-in-Put-clause-ok
returns-in_ok-insert-in-Put-clause-ok c = rw c.in-Put.is (tree_put c.self.inside.tree c.insert.new.self c.in-Put.key c.in-Put.value c.in_ok-insert-in-Put.ensures.updates ∙ ap (λ m. put m c.in-Put.key c.in-Put.value) c.self.view_is)

pub returns-in-Del-clause-ok : goal.returns-in-Del-clause-ok
returns-in-Del-clause-ok c = rw c.in-Del.is (tree_del c.self.inside.tree c.remove.new.self c.in-Del.key c.remove.ensures.updates ∙ ap (λ m. del m c.in-Del.key) c.self.view_is)

pub returns-in_ok-insert-in-Put-clause-before : goal.returns-in_ok-insert-in-Put-clause-before
returns-in_ok-insert-in-Put-clause-before c = rw c.in-Put.is (c.in_ok-insert-in-Put.ensures.old ∙ sym (tree_get c.self.inside.tree c.in-Put.key) ∙ ap (λ m. get m c.in-Put.key) c.self.view_is)

pub returns-in-Del-clause-before : goal.returns-in-Del-clause-before
returns-in-Del-clause-before c = rw c.in-Del.is (c.remove.ensures.value ∙ sym (tree_get c.self.inside.tree c.in-Del.key) ∙ ap (λ m. get m c.in-Del.key) c.self.view_is)
