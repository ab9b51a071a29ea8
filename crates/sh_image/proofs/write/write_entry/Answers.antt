use Rattle.std.proofs.Common.{◌∙◌, refl}
use Rattle.sh_image.proofs.WriteLemmas.{entry_written}
use Rattle.sh_image.proofs.write.write_entry.Goals as goal

pub returns : goal.returns
returns c = entry_written c.args.version c.args.key _ c.args.value c.args.out.now _ c.requires refl (c.copy_from_slice.ensures.after ∙ c.words.ensures)
