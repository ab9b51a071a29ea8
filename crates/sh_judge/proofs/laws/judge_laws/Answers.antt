use Rattle.sh_judge.proofs.{Closed.{closed}, OneLemmas.{findings_one}}
use Rattle.sh_judge.proofs.laws.judge_laws.Goals as goal

pub returns-clause-closed : goal.returns-clause-closed
returns-clause-closed c t lines calls count found = closed t.dones found.0.placed

pub returns-clause-findings_are_one : goal.returns-clause-findings_are_one
returns-clause-findings_are_one c = findings_one
