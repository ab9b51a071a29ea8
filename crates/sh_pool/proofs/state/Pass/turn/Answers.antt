use Rattle.std.proofs.Common.{rules}
use Rattle.sh_pool.proofs.state.Pass.turn.Goals as goal

pub returns-in-Look-clause-step : goal.returns-in-Look-clause-step
returns-in-Look-clause-step c = search rules
