use Rattle.std.proofs.Common.{rules}
use Rattle.sh_map.proofs.TreeLemmas.{this_row}
use Rattle.sh_map.proofs.tree_map.is_row.Goals as goal

pub returns-then-row-key : goal.returns-then-row-key
returns-then-row-key c = search (rules, this_row)
