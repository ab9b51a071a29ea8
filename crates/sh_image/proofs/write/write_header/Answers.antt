use Rattle.std.proofs.Common.{◌∙◌}
use Rattle.sh_image.proofs.WriteLemmas.{header_written}
use Rattle.sh_image.proofs.write.write_header.Goals as goal

pub returns : goal.returns
returns c = header_written c.args.image.now _ _ _ _ c.args.out.now c.version.ensures c.low.ensures c.high.ensures (c.from.ensures ∙ c.next.ensures) c.requires
