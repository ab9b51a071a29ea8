use Rattle.std.proofs.Common.{◌<◌, subst}
use Rattle.sh_base.specs.Setting.{pool_words}
use Rattle.sh_client.{specs.Machine.{Machine}, proofs.WithinLemmas.{lock_within}}
use Rattle.sh_client.proofs.state.Client.want_unlock.Goals as goal

pub returns-clause-within : goal.returns-clause-within
returns-clause-within c = subst (λ (m : Machine). c.lock_word.result < pool_words m.setting) c.self.view_is (rw c.lock_word.ensures (lock_within c.self.inside.cfg.parts _ c.lock_of-lock.ensures.lock))
