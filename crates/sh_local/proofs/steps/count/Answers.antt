use Rattle.std.proofs.Common.{arith, sym}
use Rattle.sh_local.proofs.Allowed.{allows_count}
use Rattle.sh_local.proofs.steps.count.Goals as goal

pub load-next-requires : goal.load-next-requires
load-next-requires g c =
    let t = c.requires.table in
    let k = c.requires.ticket in
    let shelf = c.args.shelf.now in
    let seat = c.args.seat.now in
    (t.0, omega (arith, t.1, t.2), allows_count g.T.Carried.fits shelf.key.key shelf.key.chairs shelf.table_id.slots seat.id seat.me c.args.cell k.0.0 k.0.2 (sym k.0.1) t.2)
