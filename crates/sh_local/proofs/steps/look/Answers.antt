use Rattle.std.proofs.Common.{arith}
use Rattle.sh_local.proofs.Allowed.{allows_look}
use Rattle.sh_local.proofs.steps.look.Goals as goal

pub load-found-requires : goal.load-found-requires
load-found-requires g c =
    let t = c.requires.table in
    let k = c.requires.ticket in
    let shelf = c.args.shelf.now in
    let seat = c.args.seat.now in
    (t.0, omega (arith, t.1, t.2, t.3), allows_look g.T.Carried.fits shelf.key.key shelf.key.chairs shelf.table_id.slots seat.id seat.me c.args.at k.0.0 k.0.2 (omega (arith, t.2, k.0.1)) (omega (arith, t.3, k.0.1)))
