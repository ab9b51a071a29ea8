use Rattle.std.proofs.Common.{rules}
use Rattle.sh_options.{proofs.AllNumbers.{told_at, untold_at}}
use Rattle.sh_options.proofs.told.tell.Goals as goal

pub returns-then-all_read_numbers-clause-told : goal.returns-then-all_read_numbers-clause-told
returns-then-all_read_numbers-clause-told c = search (rules, told_at)

pub returns-clause-usage : goal.returns-clause-usage
returns-clause-usage c used = search (rules, untold_at)
