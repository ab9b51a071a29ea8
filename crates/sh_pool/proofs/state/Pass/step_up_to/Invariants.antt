use Rattle.std.proofs.Common.{◌≡◌, false}
use Rattle.sh_client.specs.Rests.{is_resting}
use Rattle.sh_pool_rule.specs.Views.{view_seat}
use Rattle.sh_pool.specs.{Pools.{IsOfPool}, Turns.{TookTurns}}
use Rattle.sh_pool.proofs.state.Pass.step_up_to.Given as goal

abbrev pub invariant-loop : goal.invariant-loop
invariant-loop l = IsOfPool l.pool l.self × (is_resting l.self.client ≡ false) × (view_seat l.self.view ≡ view_seat l.fn.self.view) × TookTurns l.counter l.fn.self l.self
