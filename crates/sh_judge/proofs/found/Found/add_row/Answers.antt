use Rattle.sh_judge.proofs.FoundLemmas.{has_row_more, row_more}
use Rattle.std.proofs.Common.{refl}
use Rattle.sh_judge.proofs.found.Found.add_row.Goals as goal

pub returns-clause-least : goal.returns-clause-least
returns-clause-least c = has_row_more _ _ _ _ _ c.args.row c.in-Some.ensures.items c.in_ok-push_row.ensures c.in_ok-push.ensures.items _ c.requires

pub returns-clause-told : goal.returns-clause-told
returns-clause-told c = rw (row_more _ _ _ _ _ c.args.row c.in-Some.ensures.items c.in_ok-push_row.ensures c.in_ok-push.ensures.items) refl
