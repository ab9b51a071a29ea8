use Rattle.std.{proofs.Common.{ap₂, ◌∙◌}, specs.Prelude.{max}}
use Rattle.sh_judge.proofs.FoundLemmas.{has_more}
use Rattle.sh_judge.proofs.found.Found.add.Goals as goal

pub returns-clause-least : goal.returns-clause-least
returns-clause-least c = rw c.in_ok-push.ensures.items (has_more _ _ c.args.done c.requires.seat c.requires.least _ (c.max.ensures ∙ ap₂ max c.least-least.ensures c.end_of.ensures))
