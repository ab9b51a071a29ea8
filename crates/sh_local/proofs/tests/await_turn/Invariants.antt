use Rattle.std.proofs.Common.{false}
use Rattle.sh_local.specs.Chairs.{SitsAt, HasTicketFor}
use Rattle.sh_local.proofs.tests.await_turn.Given as goal

abbrev pub invariant-loop : goal.invariant-loop
invariant-loop g l = SitsAt l.cells l.chair l.cell × HasTicketFor l.cell false l.chair.view
