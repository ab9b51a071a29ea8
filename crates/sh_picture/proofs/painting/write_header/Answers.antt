use Rattle.std.{proofs.Common.{◌∙◌, ◌++◌, length, drop, ap, length-drop, length-append, arith}, specs.List.{flat_map}}
use Rattle.byteorder.specs.Endian.{big_bytes}
use Rattle.sh_picture.{specs.Picture.{header_of, setting_numbers}, proofs.PictureLemmas.{put_behind}}
use Rattle.sh_picture.proofs.painting.write_header.Goals as goal

pub returns : goal.returns
unfolding header_of
returns c =
    put_behind 8 _ c.copy_from_slice.new.self (drop 8 c.args.out.now) c.write_u32_into.new.dst (ap length c.copy_from_slice.ensures.after) (omega (arith, length-drop 8 c.args.out.now, length-append c.copy_from_slice.new.self (drop 8 c.args.out.now), ap length c.copy_from_slice.ensures.after))
    ∙ (λ t. c.copy_from_slice.ensures.after t ++ (c.write_u32_into.ensures ∙ ap (flat_map (big_bytes 4)) (c.numbers_of.ensures ∙ ap setting_numbers c.parts.ensures)) t)
