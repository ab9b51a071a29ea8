use Rattle.std.proofs.Common.{arith}
use Rattle.sh_base.proofs.{LayoutLemmas.{entry_high, node_size_is}, PlanLemmas.{falls_over, rises_over}}
use Rattle.sh_base.proofs.config.Config.verbs_in_order.Goals as goal

pub returns-clause-read : goal.returns-clause-read
returns-clause-read c = λ n plan node h. falls_over _ n plan h

pub returns-clause-write : goal.returns-clause-write
returns-clause-write c = λ n unlock plan node h. rises_over _ n 0 _ unlock plan c.args.self.now.lawful node (omega arith) h

pub returns-clause-entry : goal.returns-clause-entry
returns-clause-entry c =
    let p = c.args.self.now.parts in
    λ n i unlock plan node below h. rises_over p n _ _ unlock plan c.args.self.now.lawful node (omega (arith, entry_high p i below, node_size_is p)) h
