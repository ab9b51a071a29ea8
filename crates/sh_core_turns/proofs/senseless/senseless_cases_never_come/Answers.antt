use Rattle.sh_core.specs.Listed.{HasAt, OutAt}
use Rattle.sh_core_turns.proofs.Senses.{never_senseless, are_all_cases}
use Rattle.sh_core_turns.proofs.senseless.senseless_cases_never_come.Goals as goal

pub returns-clause-never : goal.returns-clause-never
returns-clause-never c = λ words log actors rights seat a e inv h wants. never_senseless c.args.cfg.now.parts c.args.cfg.now.lawful words log (HasAt actors) (OutAt rights) seat a e inv h wants

pub returns-clause-all : goal.returns-clause-all
returns-clause-all c = are_all_cases
