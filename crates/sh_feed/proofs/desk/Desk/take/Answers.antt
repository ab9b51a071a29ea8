use Rattle.std.proofs.Common.{ap, arith}
use Rattle.sh_feed.{specs.declared.view.View.{View}, proofs.Steps.{takes, moments}}
use Rattle.sh_feed.proofs.desk.Desk.take.Goals as goal

pub pop_as-requires-clause-rule : goal.pop_as-requires-clause-rule
pop_as-requires-clause-rule g c =
    let one = ap (λ (v : View). v.parts) c.taker.invariant.1 in
    (takes _ _ (omega (arith, one)), moments _ _)
