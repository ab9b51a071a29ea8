use Rattle.std.proofs.{Common.{rules}, lemmas.Result.{err_from_is_err_and}}
use Rattle.sh_options.{proofs.OrderLemmas.{names_are, no_order, order_is}}
use Rattle.sh_options.proofs.order.read_words.Goals as goal

pub returns-in_err-matches-clause-usage : goal.returns-in_err-matches-clause-usage
returns-in_err-matches-clause-usage c used = search (rules, err_from_is_err_and, no_order, names_are)

pub returns-in-Some-clause-order : goal.returns-in-Some-clause-order
returns-in-Some-clause-order c = search (rules, order_is, names_are)

pub returns-clause-usage : goal.returns-clause-usage
returns-clause-usage c used = search (rules, order_is, names_are)
