use Rattle.std.proofs.Common.{rules}
use Rattle.sh_image.{proofs.ColumnLemmas.{keys_of_entries_of}}
use Rattle.sh_image.proofs.leaf.LeafImage.keys.Goals as goal

pub returns-clause-keys : goal.returns-clause-keys
returns-clause-keys c = search (rules, keys_of_entries_of)
