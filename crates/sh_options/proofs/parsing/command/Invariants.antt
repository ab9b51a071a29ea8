use Rattle.std.proofs.Common.{◌≡◌, ◌++◌, map, take}
use Rattle.clap.specs.Words.{app_of}
use Rattle.sh_options.specs.Command.{app_with, flag_rule, option_rule}
use Rattle.sh_options.proofs.parsing.command.Given as goal

abbrev pub invariant-loop-name : goal.invariant-loop-name
invariant-loop-name l = app_of l.command ≡ app_with (map option_rule (map (λ w. w.now) (take l.name-index l.options)))

abbrev pub invariant-loop-name-2 : goal.invariant-loop-name-2
invariant-loop-name-2 l = app_of l.command ≡ app_with (map option_rule (map (λ w. w.now) l.options) ++ map flag_rule (map (λ w. w.now) (take l.name-index l.flags)))
