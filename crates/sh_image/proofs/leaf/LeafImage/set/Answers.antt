use Rattle.std.{proofs.Common.{rules}}
use Rattle.sh_image.{proofs.ColumnLemmas.{length_entries_of, entries_of_set}}
use Rattle.sh_image.proofs.leaf.LeafImage.set.Goals as goal

pub prove-unreachable-requires : goal.prove-unreachable-requires
prove-unreachable-requires c = search (rules, length_entries_of)

pub returns : goal.returns
returns c = search (rules, entries_of_set)
