use Rattle.std.proofs.Common.{rules, ◌+◌, sym, ◌∙◌, arith}
use Rattle.sh_client.{specs.Rests.{reply_of}, proofs.Wanting.{going_in}}
use Rattle.sh_pool.proofs.CallLemmas.{ended_with, not_ended, turns_more}
use Rattle.sh_pool.proofs.state.Pass.step_up_to.Goals as goal

pub loop-preserved : goal.loop-preserved
loop-preserved c = search (rules, going_in, not_ended, turns_more)

pub returns-in-Done-clause-ends : goal.returns-in-Done-clause-ends
returns-in-Done-clause-ends c = ended_with (reply_of c.step.new.self.client) c.in-Done.reply (sym c.step.ensures.reply ∙ c.in-Done.is)

pub returns-in-Done-clause-turns : goal.returns-in-Done-clause-turns
returns-in-Done-clause-turns c = record {
  count = c.loop.counter + 1;
  took = turns_more c.loop.counter c.args.self.now c.loop.self c.step.new.self c.loop.invariant.3 c.step.ensures.step;
  within = omega (arith, c.loop-test.true);
  all = λ e. absurd (cc);
}

pub returns-clause-turns : goal.returns-clause-turns
returns-clause-turns c = record { count = c.loop.counter; took = c.loop.invariant.3; within = omega (arith, c.loop-test.false, c.loop.auto.counter-end); all = λ e. omega (arith, c.loop-test.false, c.loop.auto.counter-end) }
