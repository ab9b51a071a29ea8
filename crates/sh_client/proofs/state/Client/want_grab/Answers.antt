use Rattle.std.proofs.Common.{◌∙◌, ◌<◌, subst}
use Rattle.sh_base.specs.{Memory.{at_of}, Setting.{pool_words}}
use Rattle.sh_client.{specs.Machine.{Machine}, proofs.WithinLemmas.{grab_within}}
use Rattle.sh_client.proofs.state.Client.want_grab.Goals as goal

pub returns-clause-within : goal.returns-clause-within
returns-clause-within c = subst (λ (m : Machine). at_of c.event.result < pool_words m.setting) c.self.view_is (grab_within c.self.inside.cfg.parts _ _ c.event.result (c.event.ensures ∙ c.new.ensures) c.lock_of-lock.ensures.lock)
