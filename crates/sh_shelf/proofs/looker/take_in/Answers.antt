use Rattle.std.proofs.Common.{length, ap, arith, ◌≡◌}
use Rattle.sh_shelf.proofs.RowLemmas.{length_shelf}
use Rattle.sh_shelf.specs.Shelf.{shelf_of}
use Rattle.sh_shelf.proofs.looker.take_in.Goals as goal

pub replace-requires : goal.replace-requires
replace-requires c =
    let same : length c.args.from.now ≡ length (shelf_of c.args.room c.args.seen.now.log) = ap length c.requires.rows in
    omega (arith, same, length_shelf c.args.room c.args.seen.now.log, c.requires.copy.reserved)
