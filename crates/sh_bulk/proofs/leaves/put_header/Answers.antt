use Rattle.std.proofs.Common.{rules, refl, []}
use Rattle.sh_image.{specs.Leaf.{Leaf}, proofs.WriteLemmas.{header_written}}
use Rattle.sh_bulk.proofs.leaves.put_header.Goals as goal

pub returns : goal.returns
returns c =
    let f = c.args.fences in
    let a : Leaf = record { version = 0; low = f.low; high = f.high; next = f.next; entries = [] } in
    header_written a 0 f.low f.high f.next c.args.out.now refl refl refl refl c.requires
