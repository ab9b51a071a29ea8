use Rattle.std.proofs.Common.{sym, ◌∙◌, arith}
use Rattle.sh_decide.proofs.PairLemmas.{separator_step, separator_stop, separator_end}
use Rattle.sh_decide.proofs.deciding.has_separator.Goals as goal

pub returns-then-pair-separator : goal.returns-then-pair-separator
returns-then-pair-separator c = separator_stop c.args.separator c.pair-pair.result c.args.inner.now.pairs c.loop-index.index c.pair-pair.ensures c.if-pair-separator.true ∙ c.loop-index.invariant

pub loop-index-preserved : goal.loop-index-preserved
loop-index-preserved c = sym (separator_step c.args.separator c.pair-pair.result c.args.inner.now.pairs c.loop-index.index c.pair-pair.ensures c.if-pair-separator.false) ∙ c.loop-index.invariant

pub returns : goal.returns
returns c = separator_end c.args.separator c.args.inner.now.pairs c.loop-index.index (omega (arith, c.loop-index-test.false, c.pairs-index-end.ensures.pairs)) ∙ c.loop-index.invariant
