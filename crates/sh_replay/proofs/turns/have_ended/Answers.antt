use Rattle.std.proofs.Common.{sym}
use Rattle.sh_replay.proofs.OutputLemmas.{ended_more, open_there}
use Rattle.sh_replay.proofs.turns.have_ended.Goals as goal

pub returns-then-is_none : goal.returns-then-is_none
returns-then-is_none c = sym (open_there c.args.calls.now.calls c.loop-i.i _ c.get.ensures c.if-is_none.ensures)

pub loop-i-preserved : goal.loop-i-preserved
loop-i-preserved c = ended_more c.args.calls.now.calls c.loop-i.i _ c.get.ensures c.loop-i.invariant c.if-is_none.ensures
