use Rattle.std.proofs.Common.{sym, ◌∙◌, arith}
use Rattle.sh_descend.proofs.ChildLemmas.{child_step, child_stop, child_end}
use Rattle.sh_descend.proofs.child.Goals as goal

pub returns-then-key-pair : goal.returns-then-key-pair
returns-then-key-pair c = sym (child_stop c.args.inner.now.pairs c.loop-index.index c.pair-pair.result c.loop-index.child c.args.key c.pair-pair.ensures c.if-key-pair.true) ∙ c.loop-index.invariant

pub loop-index-preserved : goal.loop-index-preserved
loop-index-preserved c = sym (child_step c.args.inner.now.pairs c.loop-index.index c.pair-pair.result c.loop-index.child c.args.key c.pair-pair.ensures c.if-key-pair.false) ∙ c.loop-index.invariant

pub returns : goal.returns
returns c = sym (child_end c.args.inner.now.pairs c.loop-index.index c.loop-index.child c.args.key (omega (arith, c.loop-index-test.false, c.pairs-index-end.ensures.pairs))) ∙ c.loop-index.invariant
