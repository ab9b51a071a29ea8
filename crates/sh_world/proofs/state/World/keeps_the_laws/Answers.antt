use Rattle.std.proofs.Common.{rules}
use Rattle.sh_world.{proofs.LawLemmas.{extends, idle_at, lawful}}
use Rattle.sh_world.proofs.WorldLemmas.{running}
use Rattle.sh_world.proofs.state.World.keeps_the_laws.Goals as goal

pub returns-clause-lawful : goal.returns-clause-lawful
returns-clause-lawful c = search (rules, running, lawful)

pub returns-clause-running : goal.returns-clause-running
returns-clause-running c = search (rules, running)

pub returns-clause-log : goal.returns-clause-log
returns-clause-log c = λ seat. extends c.args.self.now seat

pub returns-clause-idle : goal.returns-clause-idle
returns-clause-idle c = search (rules, running, idle_at)
