use Rattle.std.proofs.{Common.{rules, map}, lemmas.Result.{err_from_is_err_and}}
use Rattle.sh_judge.proofs.WordLemmas.{names_are, no_width, width_is}
use Rattle.sh_judge.proofs.words.read_width.Goals as goal

pub returns-in_err-matches-clause-usage : goal.returns-in_err-matches-clause-usage
returns-in_err-matches-clause-usage c used = search (rules, err_from_is_err_and, no_width, names_are)

pub returns-clause-width : goal.returns-clause-width
returns-clause-width c = rw (width_is _ (map (λ w. w.now) c.args.words.now) (names_are c.options.ensures c.flags.ensures) c.in_ok-matches.matches c.number.result c.in_ok-matches.ensures.told c.number.ensures, ← c.unwrap_or.ensures) c.width_if.ensures.width

pub returns-clause-usage : goal.returns-clause-usage
returns-clause-usage c used = rw (width_is _ (map (λ w. w.now) c.args.words.now) (names_are c.options.ensures c.flags.ensures) c.in_ok-matches.matches c.number.result c.in_ok-matches.ensures.told c.number.ensures, ← c.unwrap_or.ensures) (c.width_if.ensures.usage used)
