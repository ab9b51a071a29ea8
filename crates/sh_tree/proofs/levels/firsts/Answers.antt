use Rattle.std.proofs.Common.{◌≤◌, ℕ, List, length, arith}
use Rattle.sh_base.specs.{declared.config.ConfigParts.{ConfigParts}, Setting.{nodes}}
use Rattle.sh_tree.{specs.Tree.{IsTree}, proofs.{ChainLemmas.{few_levels, all_nodes}, WalkLemmas.{has_root, gathered_none, gathered_more, down_none, down_more, down_all}}}
use Rattle.sh_tree.proofs.levels.firsts.Goals as goal

few : (p : ConfigParts) (words : List ℕ) (levels : List (List ℕ)) → IsTree p words levels → length levels ≤ nodes p
few p words levels h = omega (arith, few_levels p words levels h.lawful, all_nodes p words levels h)

pub bounds-words-1 : goal.bounds-words-1
bounds-words-1 c = omega (arith, c.requires, has_root c.args.cfg.now.parts)

pub loop-init : goal.loop-init
loop-init c = rw c.new-firsts.ensures.items (gathered_none c.args.cfg.now.parts c.named_by-node.result c.named_by-node.ensures.most, λ levels h. down_none c.args.cfg.now.parts c.args.words.now levels c.named_by-node.result h c.named_by-node.ensures.same)

pub returns-then-node-eq0-clause-firsts : goal.returns-then-node-eq0-clause-firsts
returns-then-node-eq0-clause-firsts c = λ levels h. down_all c.args.cfg.now.parts c.args.words.now levels c.loop.firsts.items c.loop.node (few c.args.cfg.now.parts c.args.words.now levels h) (λ some. absurd (some c.if-node-eq0.true)) (c.loop.invariant.1 levels h)

pub first_child-node-requires-clause-node : goal.first_child-node-requires-clause-node
first_child-node-requires-clause-node c = record { first = omega (arith, c.if-node-eq0.false); last = c.loop.invariant.0.small }

pub loop-preserved : goal.loop-preserved
loop-preserved c =
    let p = c.args.cfg.now.parts in
    rw c.in_ok-push.ensures.items (
      gathered_more p c.loop.counter c.loop.firsts.items c.loop.node c.first_child-node.result c.if-node-eq0.false c.first_child-node.ensures.most c.loop.invariant.0,
      λ levels h. down_more p c.args.words.now levels c.loop.firsts.items c.loop.node c.first_child-node.result c.if-node-eq0.false c.first_child-node.ensures.leaf c.first_child-node.ensures.inner (c.loop.invariant.1 levels h),
    )

pub returns-clause-firsts : goal.returns-clause-firsts
returns-clause-firsts c = λ levels h. down_all c.args.cfg.now.parts c.args.words.now levels c.loop.firsts.items c.loop.node (few c.args.cfg.now.parts c.args.words.now levels h) (λ some. omega (arith, c.loop.invariant.0.long, c.loop-test.false, c.nodes-end.ensures)) (c.loop.invariant.1 levels h)
