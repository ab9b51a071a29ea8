use Rattle.std.{proofs.{Common.{rules, ◌∙◌, map, ap}, lemmas.Result.{err_from_is_err_and}}, specs.Prelude.{unwrap_or}}
use Rattle.sh_bulk.proofs.OrderLemmas.{names_are, no_order, order_is}
use Rattle.sh_bulk.proofs.order.read_order.Goals as goal

pub returns-in_err-matches-clause-usage : goal.returns-in_err-matches-clause-usage
returns-in_err-matches-clause-usage c used = search (rules, err_from_is_err_and, no_order, names_are)

pub returns-clause-order : goal.returns-clause-order
returns-clause-order c = rw (order_is _ (map (λ w. w.now) c.args.words.now) (names_are c.options.ensures c.flags.ensures) c.in_ok-matches.matches _ _ _ c.in_ok-matches.ensures.told c.setting_parts.ensures (c.unwrap_or.ensures ∙ ap (λ o. unwrap_or o 4) c.number.ensures) c.is_used.ensures) c.order_from.ensures.order

pub returns-clause-usage : goal.returns-clause-usage
returns-clause-usage c used = order_is _ (map (λ w. w.now) c.args.words.now) (names_are c.options.ensures c.flags.ensures) c.in_ok-matches.matches _ _ _ c.in_ok-matches.ensures.told c.setting_parts.ensures (c.unwrap_or.ensures ∙ ap (λ o. unwrap_or o 4) c.number.ensures) c.is_used.ensures ∙ c.order_from.ensures.usage used
