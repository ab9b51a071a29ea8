use Rattle.std.proofs.Common.{arith}
use Rattle.sh_base.specs.Parts.{parts_of}
use Rattle.sh_picture.{specs.Tree.{IsOnce}, proofs.LookLemmas.{good_more, leaf_once, leaf_twice}}
use Rattle.sh_picture.proofs.keys.first_twice.Goals as goal

pub returns-then-key-ne0 : goal.returns-then-key-ne0
returns-then-key-ne0 c = leaf_twice (parts_of c.args.cfg.now) c.args.words.now c.args.leaves.now c.loop-leaf.leaf-index c.twice_in-key.result c.twice_in-key.ensures c.loop-leaf-test.true c.loop-leaf.invariant c.if-key-ne0.true

pub loop-leaf-preserved : goal.loop-leaf-preserved
loop-leaf-preserved c = good_more (IsOnce (parts_of c.args.cfg.now) c.args.words.now c.args.leaves.now) c.loop-leaf.leaf-index c.loop-leaf.invariant (leaf_once (parts_of c.args.cfg.now) c.args.words.now c.args.leaves.now c.loop-leaf.leaf-index c.twice_in-key.result c.twice_in-key.ensures c.if-key-ne0.false)

pub returns : goal.returns
returns c = λ i below. c.loop-leaf.invariant i (omega (arith, below, c.loop-leaf-test.false))
