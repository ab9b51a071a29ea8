use Rattle.sh_replay.proofs.OutputLemmas.{counts_step}
use Rattle.sh_replay.proofs.output.counts.Goals as goal

pub loop-i-preserved : goal.loop-i-preserved
loop-i-preserved c = counts_step c.args.calls.now.calls c.loop-i.i _ c.loop-i.counts _ c.get.ensures c.count_answer.ensures c.loop-i.invariant.0 c.loop-i.invariant.1
