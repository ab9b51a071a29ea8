use Rattle.std.proofs.{Common.{◌∙◌, ◌++◌, length, drop, ap, sym, length-append, arith}, lemmas.List.{length-take-le}}
use Rattle.sh_picture.proofs.PictureLemmas.{header_long, put_behind}
use Rattle.sh_base.specs.Parts.{parts_of}
use Rattle.sh_picture.proofs.painting.put_first.Goals as goal

pub slice_bounds-write_header-end-2 : goal.slice_bounds-write_header-end-2
slice_bounds-write_header-end-2 c = sym (length-take-le 56 c.args.out.now (omega (arith, c.requires)))

pub write_header-requires : goal.write_header-requires
write_header-requires c = length-take-le 56 c.args.out.now (omega (arith, c.requires))

pub returns : goal.returns
returns c =
    let long = ap length c.write_header.ensures ∙ header_long (parts_of c.args.cfg.now) in
    put_behind 56 _ c.write_header.new.out (drop 56 c.args.out.now) c.write_u64_into.new.dst long (omega (arith, length-append c.write_header.new.out (drop 56 c.args.out.now), long))
    ∙ (λ t. c.write_header.ensures t ++ c.write_u64_into.ensures t)
