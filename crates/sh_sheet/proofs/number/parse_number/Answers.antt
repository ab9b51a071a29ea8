use Rattle.std.proofs.Common.{rules}
use Rattle.std.proofs.lemmas.{List.{drop_all}}
use Rattle.sh_sheet.{proofs.Digits.{value_from-ge, value_from_more, number_of_large, number_of_digits}}
use Rattle.sh_sheet.proofs.number.parse_number.Goals as goal

pub returns-in_err-checked_mul : goal.returns-in_err-checked_mul
returns-in_err-checked_mul c = search (rules, value_from_more, value_from-ge, number_of_large)

pub returns-in_err-value : goal.returns-in_err-value
returns-in_err-value c = search (rules, value_from_more, value_from-ge, number_of_large)

pub returns : goal.returns
returns c = search (rules, drop_all, number_of_digits)
