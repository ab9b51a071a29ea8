use Rattle.std.proofs.Common.{rules}
use Rattle.sh_logic.proofs.Lists.{all_join}
use Rattle.sh_bulk.{proofs.SheetLemmas.{good_more, row_good}}
use Rattle.sh_bulk.proofs.gather.take_row.Goals as goal

pub returns-in-Ok-push-clause-good : goal.returns-in-Ok-push-clause-good
returns-in-Ok-push-clause-good c = search (rules, row_good, good_more)

pub returns-in-Ok-push-clause-values : goal.returns-in-Ok-push-clause-values
returns-in-Ok-push-clause-values c = search (rules, row_good, all_join)
