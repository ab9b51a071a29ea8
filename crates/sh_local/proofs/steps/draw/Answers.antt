use Rattle.std.proofs.Common.{arith}
use Rattle.sh_local.proofs.Allowed.{allows_draw}
use Rattle.sh_local.proofs.steps.draw.Goals as goal

pub fetch_add-requires : goal.fetch_add-requires
fetch_add-requires g c =
    let t = c.requires.table in
    let shelf = c.args.shelf.now in
    let seat = c.args.seat.now in
    (t.0, omega (arith, t.1, t.2), allows_draw g.T.Carried.fits shelf.key.key shelf.key.chairs shelf.table_id.slots seat.id seat.me c.args.cell c.requires.none.0 c.requires.none.1 t.2)
