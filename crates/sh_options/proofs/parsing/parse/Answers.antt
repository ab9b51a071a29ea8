use Rattle.std.proofs.Common.{rules, map, sym, ◌≡◌, ◌∙◌}
use Rattle.sh_options.{specs.{declared.order.WordFault.TheVariants.{Usage}, Holds.{names_of}}, proofs.Parsed.{end_told, holds_at, refused_at}}
use Rattle.sh_options.proofs.parsing.parse.Goals as goal

pub returns-then-ends_options-clause-usage : goal.returns-then-ends_options-clause-usage
returns-then-ends_options-clause-usage c used = search (rules, end_told)

pub returns-in-Ok-clause-holds : goal.returns-in-Ok-clause-holds
returns-in-Ok-clause-holds c =
    holds_at (names_of c.args.options.now c.args.flags.now) _ (map (λ w. w.now) c.args.words.now) _ c.in_ok-command.ensures (sym c.ends_options.ensures ∙ c.if-ends_options.false)
    c.in-Ok.ensures.kinds c.in-Ok.ensures.matches

pub returns-in-Err-clause-usage : goal.returns-in-Err-clause-usage
returns-in-Err-clause-usage c used =
    let is_usage : c.fault_of.result ≡ Usage = cc in
    refused_at (names_of c.args.options.now c.args.flags.now) _ (map (λ w. w.now) c.args.words.now) c.in-Err.error c.in_ok-command.ensures
    (sym c.ends_options.ensures ∙ c.if-ends_options.false) c.in-Err.ensures.kinds (c.fault_of.ensures is_usage)
