use Rattle.std.proofs.Common.{◌∙◌, ◌*◌, ◌≤◌, ap, length, arith}
use Rattle.std.proofs.{Math.Nat.{min-le_right}, lemmas.List.{take_all}}
use Rattle.sh_tree.{specs.Tree.{children_of}, proofs.CountLemmas.{pairs_more}}
use Rattle.sh_tree.proofs.count.pairs_of_level.Goals as goal

pub loop-node-preserved : goal.loop-node-preserved
loop-node-preserved c =
    let p = c.args.cfg.now.parts in
    let few : c.min.result ≤ 2 * c.from-most.result = rw c.min.ensures (min-le_right c.word_at.result (2 * c.from-most.result)) in (
      omega (arith, c.loop-node.invariant.0, few, c.from-most.ensures, c.leaf.ensures, c.args.cfg.now.lawful.ranged.leaf),
      λ above below h. pairs_more p c.args.words.now c.args.level.now c.loop-node.node-index above below c.loop-node.pairs c.word_at.result c.min.result (2 * c.from-most.result) c.loop-node-test.true h (c.loop-node.invariant.1 above below h) c.word_at.ensures c.min.ensures (omega (arith, c.from-most.ensures, c.leaf.ensures)),
    )

pub returns : goal.returns
returns c = λ above below h. c.loop-node.invariant.1 above below h ∙ ap (λ l. length (children_of c.args.cfg.now.parts c.args.words.now l)) (take_all c.loop-node.node-index c.args.level.now c.loop-node-test.false)
