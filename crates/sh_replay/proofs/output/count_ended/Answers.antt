use Rattle.sh_replay.proofs.OutputLemmas.{count_more}
use Rattle.sh_replay.proofs.output.count_ended.Goals as goal

pub loop-i-preserved : goal.loop-i-preserved
loop-i-preserved c = count_more c.args.calls.now.calls c.loop-i.i _ c.get.ensures c.loop-i.count c.ended_by-count.result c.loop-i.invariant.0 c.loop-i.invariant.1 c.ended_by-count.ensures
