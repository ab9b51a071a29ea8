use Rattle.std.proofs.Common.{rules, [], map}
use Rattle.sh_options.{specs.Command.{app_with, flag_rule, option_rule}, proofs.Chain.{rule_added}}
use Rattle.sh_options.proofs.parsing.command.Goals as goal

pub loop-name-init : goal.loop-name-init
unfolding app_with
loop-name-init c = search rules

pub loop-name-preserved : goal.loop-name-preserved
loop-name-preserved c = rule_added option_rule [] c.args.options.now c.loop-name.name-index _ _ _ c.loop-name-test.true c.loop-name.invariant c.in_ok-command.ensures

pub loop-name-2-preserved : goal.loop-name-2-preserved
loop-name-2-preserved c =
    rule_added flag_rule (map option_rule (map (λ w. w.now) c.args.options.now)) c.args.flags.now c.loop-name-2.name-index _ _ _ c.loop-name-2-test.true c.loop-name-2.invariant c.in_ok-command-2.ensures
