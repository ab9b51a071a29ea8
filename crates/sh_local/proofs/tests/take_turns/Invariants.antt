use Rattle.std.proofs.Common.{◌≡◌, None}
use Rattle.sh_local.specs.Chairs.{SitsAt}
use Rattle.sh_local.proofs.tests.take_turns.Given as goal

abbrev pub invariant-loop : goal.invariant-loop
invariant-loop g l = SitsAt l.cells l.chair 1 × (l.chair.view.ticket ≡ None)
