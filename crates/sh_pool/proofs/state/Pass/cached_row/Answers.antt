use Rattle.std.proofs.Common.{IfSome, subst}
use Rattle.sh_client.specs.Machine.{fresh_machine}
use Rattle.sh_pool_rule.specs.Views.{view_seat}
use Rattle.sh_pool.{specs.Passes.{life_of, Standing, WasShown}, proofs.ShownLemmas.{row_shown}}
use Rattle.sh_pool.proofs.state.Pass.cached_row.Goals as goal

pub returns-clause-shown : goal.returns-clause-shown
returns-clause-shown c = subst (λ (p : Standing). IfSome c.cached_row.result (λ r. WasShown (fresh_machine p.client.setting (view_seat p.view)) (life_of p) r.now)) c.self.view_is (row_shown _ c.args.key c.cached_row.result c.self.invariant.1 c.cached_row.ensures.row)
