use Rattle.std.proofs.{Common.{arith}, lemmas.List.Edits.{length-insert}}
use Rattle.sh_edit.proofs.PairLemmas.{pushed_none, pushed_more, pushed_room, pushed_all}
use Rattle.sh_edit.proofs.inner.push_pairs.Goals as goal

pub loop-index-init : goal.loop-index-init
loop-index-init c = pushed_none _ _ c.args.from

pub push-requires : goal.push-requires
push-requires c = pushed_room _ _ _ c.loop-index.index c.args.to _ c.loop-index.invariant (omega arith) (omega (arith, c.requires.range, length-insert c.args.inner.now.pairs c.args.gap c.args.new c.requires.gap)) c.requires.room

pub loop-index-preserved : goal.loop-index-preserved
loop-index-preserved c = pushed_more _ _ _ c.loop-index.index _ _ _ c.loop-index.invariant c.pair_after.ensures (omega (arith, c.requires.range, length-insert c.args.inner.now.pairs c.args.gap c.args.new c.requires.gap)) c.push.ensures

pub returns : goal.returns
returns c = pushed_all _ _ _ c.loop-index.index c.args.to _ c.loop-index.invariant (omega (arith, c.requires.range))
