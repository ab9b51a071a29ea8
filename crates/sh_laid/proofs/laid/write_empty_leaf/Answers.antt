use Rattle.std.proofs.Common.{rules}
use Rattle.sh_laid.proofs.LaidLemmas.{are_laid}
use Rattle.sh_laid.proofs.laid.write_empty_leaf.Goals as goal

pub returns-clause-laid : goal.returns-clause-laid
returns-clause-laid c = search (rules, are_laid)
