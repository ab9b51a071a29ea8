use Rattle.std.proofs.Common.{◌≡◌, Some, sym, subst, ◌∙◌}
use Rattle.sh_client.specs.Rests.{reply_of}
use Rattle.sh_pool.{specs.{Calls.{IsServing}, Passes.{Standing}, Pools.{IsOfTables}}, proofs.CallLemmas.{begun_serves, ended_with, ends_served, goes_serves, not_ended, pool_begun, reply_rests}}
use Rattle.sh_pool.proofs.state.Pass.serve.Goals as goal

pub loop-init : goal.loop-init
loop-init g c =
    let p : Standing = c.args.self.now in
    let b = c.begin.ensures in (
      subst (IsOfTables c.args.pool.now.laid) (sym b.begun) (pool_begun c.args.pool.now.laid p c.args.call c.requires.of),
      subst (IsServing c.args.call p) (sym b.begun) (begun_serves p c.args.call b.pass c.requires.rests),
    )

pub step-requires-clause-of : goal.step-requires-clause-of
step-requires-clause-of g c = c.loop.invariant.0

pub step-requires-clause-busy : goal.step-requires-clause-busy
step-requires-clause-busy g c = c.loop.invariant.1.busy

pub returns-in-Done-clause-served : goal.returns-in-Done-clause-served
returns-in-Done-clause-served g c =
    let q : Standing = c.loop.self in
    let r : Standing = c.step.new.self in
    let some : reply_of r.client ≡ Some c.in-Done.reply = ended_with (reply_of r.client) c.in-Done.reply (sym c.step.ensures.reply ∙ c.in-Done.is) in
    ends_served c.args.self.now q r c.args.call c.in-Done.reply c.loop.invariant.1 c.step.ensures.turn some (reply_rests r.client c.in-Done.reply some) c.step.ensures.pass

pub loop-preserved : goal.loop-preserved
loop-preserved g c =
    let q : Standing = c.loop.self in
    let r : Standing = c.step.new.self in
    (c.step.ensures.of, goes_serves c.args.self.now q r c.args.call c.loop.invariant.1 c.step.ensures.turn (not_ended (reply_of r.client) (sym c.step.ensures.reply ∙ c.in_default.is)))
