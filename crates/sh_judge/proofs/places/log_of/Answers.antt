use Rattle.std.proofs.Common.{rules, ◌∙◌, arith}
use Rattle.sh_judge.proofs.LogLemmas.{log_none, log_owned}
use Rattle.sh_judge.proofs.places.log_of.Goals as goal

pub loop-owner-init : goal.loop-owner-init
loop-owner-init c = (c.in_ok-log.ensures.items ∙ log_none c.args.dones.now, omega (arith, c.in_ok-log.ensures.len), omega (arith, c.in_ok-log.ensures.capacity))

pub loop-owner-preserved : goal.loop-owner-preserved
loop-owner-preserved c = search (rules, log_owned)
