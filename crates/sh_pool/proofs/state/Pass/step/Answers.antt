use Rattle.std.proofs.Common.{refl}
use Rattle.sh_client.specs.Wants.{want_of}
use Rattle.sh_pool.proofs.{Acting.{turn_of}, Staying.{pool_stays, step_kept}}
use Rattle.sh_pool.proofs.state.Pass.step.Goals as goal

pub returns-clause-turn : goal.returns-clause-turn
returns-clause-turn c = turn_of c.args.self.now c.turn.new.self (want_of c.args.self.now.client) c.turn.ensures.pass c.judge.ensures refl c.turn.ensures.step (c.turn.ensures.wants c.requires.busy) c.requires.busy

pub returns-clause-of : goal.returns-clause-of
returns-clause-of c = pool_stays c.args.pool.now.laid c.args.self.now c.turn.new.self (step_kept c.args.self.now c.turn.new.self (want_of c.args.self.now.client) c.turn.ensures.step) c.requires.of
