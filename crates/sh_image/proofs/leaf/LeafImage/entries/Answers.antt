use Rattle.std.proofs.Common.{rules}
use Rattle.sh_image.{proofs.ColumnLemmas.{length_entries_of}}
use Rattle.sh_image.proofs.leaf.LeafImage.entries.Goals as goal

pub returns : goal.returns
returns c = search (rules, length_entries_of)
