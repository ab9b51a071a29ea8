use Rattle.std.proofs.Common.{arith, ap, length}
use Rattle.sh_fleet.proofs.work.Work.ask.Goals as goal
use Rattle.sh_fleet.proofs.SeatLemmas.{fits_rows}

pub add-requires-clause-rows : goal.add-requires-clause-rows
add-requires-clause-rows g c =
    let few = fits_rows _ c.args.seat c.args.call.now c.serve_call-reply.result c.args.self.now.pass c.serve_call-reply.new.pass c.requires.of c.serve_call-reply.ensures.of c.serve_call-reply.ensures.served in
    omega (arith, few, c.requires.row_room, ap length c.rows_told.ensures)
