use Rattle.std.{proofs.Common.{◌≡◌, ◌∙◌, get_or, subst, sym}, specs.List.{AllByRecursion}}
use Rattle.sh_tree.{specs.{Nodes.{leaf_at}, Tree.{leaves_of, IsChain, IsLeafOf}}, proofs.{ChainLemmas.{leaf_chain}, HoldLemmas.{leaf_more}}}
use Rattle.sh_logic.proofs.Lists.{all_at}
use Rattle.sh_tree.proofs.pairs.pairs_in.Goals as goal

pub loop-leaf-preserved : goal.loop-leaf-preserved
loop-leaf-preserved c = λ levels h.
    let p = c.args.cfg.now.parts in
    let words = c.args.words.now in
    let nodes = c.deref-leaf-items.result.now in
    let i = c.loop-leaf.leaf-index in
    let are : leaves_of levels ≡ nodes = sym (c.deref-leaf-items.ensures.value ∙ c.in_ok-leaves.ensures.leaves levels h) in
    let chain : IsChain p words 0 nodes = subst (IsChain p words 0) are (leaf_chain p words levels h.lawful).0 in
    let lawful : AllByRecursion (IsLeafOf p words) nodes = subst (AllByRecursion (IsLeafOf p words)) are (leaf_chain p words levels h.lawful).1 in
    let leaf : IsLeafOf p words (get_or nodes i 0) = all_at (IsLeafOf p words) nodes i 0 lawful c.loop-leaf-test.true in
    leaf_more p words nodes i c.loop-leaf.map c.add_leaf.new.map chain lawful c.loop-leaf-test.true leaf (c.loop-leaf.invariant levels h) (c.in_ok-add_leaf.ensures (leaf_at p words (get_or nodes i 0)) leaf.spelled)
