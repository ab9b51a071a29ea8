use Rattle.std.{proofs.Common.{rules, sym, subst}, specs.List.{AllByRecursion}}
use Rattle.sh_pool_rule.{specs.{declared.view.{Card.{Card}}, Views.{Begins}}, proofs.NotingLemmas.{learning, telling}}
use Rattle.sh_pool.proofs.noting.learn_as.Goals as goal

pub join_seat-requires : goal.join_seat-requires
join_seat-requires g c = search (rules, learning)

pub load-requires : goal.load-requires
load-requires g c = search (rules, telling)

pub returns-clause-told : goal.returns-clause-told
returns-clause-told g c = subst (λ m. AllByRecursion (λ (x : Card). Begins x.saw m.0.seen) m.0.cards) (sym c.load.ensures.2.0) c.load.ensures.2.1
