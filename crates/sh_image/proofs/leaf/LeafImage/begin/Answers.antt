use Rattle.std.proofs.Common.{rules}
use Rattle.sh_image.proofs.ColumnLemmas.{length_entries_of}
use Rattle.sh_image.proofs.leaf.LeafImage.begin.Goals as goal

pub returns-clause-count : goal.returns-clause-count
returns-clause-count c = search (rules, length_entries_of)
