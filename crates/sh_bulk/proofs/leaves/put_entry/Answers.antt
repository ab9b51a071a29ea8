use Rattle.std.proofs.Common.{◌∙◌, refl}
use Rattle.sh_image.proofs.WriteLemmas.{entry_written}
use Rattle.sh_bulk.proofs.leaves.put_entry.Goals as goal

pub returns : goal.returns
returns c = entry_written 0 c.args.row.now.key _ c.args.row.now.value c.args.out.now _ c.requires refl (c.put_value.ensures ∙ c.words.ensures)
