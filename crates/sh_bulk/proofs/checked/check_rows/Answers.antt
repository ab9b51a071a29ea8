use Rattle.std.proofs.{Common.{rules}, lemmas.{Bool.{both_ways}, List.{get_or_default}}}
use Rattle.sh_bulk.proofs.checked.check_rows.Goals as goal

pub returns-then-not-is_key : goal.returns-then-not-is_key
returns-then-not-is_key c p = search (rules, get_or_default, both_ways)
