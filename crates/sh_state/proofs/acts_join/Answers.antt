use Rattle.std.proofs.Common.{◌≢◌}
use Rattle.sh_state.{specs.TreeState.{Seat}, proofs.Joins.{nothing_done, join_after, join_before}}
use Rattle.sh_state.proofs.acts_join.Goals as goal

pub returns-clause-none : goal.returns-clause-none
returns-clause-none c = λ s seat. nothing_done c.args.cfg.now.parts (λ o. o ≢ Seat seat) s

pub returns-clause-after : goal.returns-clause-after
returns-clause-after c = λ s t u seat a b node write. join_after c.args.cfg.now.parts (λ o. o ≢ Seat seat) s t u a b node write

pub returns-clause-before : goal.returns-clause-before
returns-clause-before c = λ s t u seat a b node write. join_before c.args.cfg.now.parts (λ o. o ≢ Seat seat) s t u a b node write
