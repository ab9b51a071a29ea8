use Rattle.std.proofs.Common.{◌<◌, subst}
use Rattle.sh_alloc.specs.Chunks.{setting_of, IsWantOf}
use Rattle.sh_base.specs.{declared.config.ConfigParts.{ConfigParts}, Memory.{at_of}, Setting.{pool_words}}
use Rattle.sh_client.{specs.Machine.{Machine}, proofs.WithinLemmas.{counter_within}}
use Rattle.sh_client.proofs.state.Client.want_count.Goals as goal

pub returns-in-Event-clause-within : goal.returns-in-Event-clause-within
returns-in-Event-clause-within c =
    let w = subst (IsWantOf (setting_of c.self.inside.chunks)) c.in-Event.is c.want.ensures.within in
    subst (λ (m : Machine). at_of c.in-Event.event < pool_words m.setting) c.self.view_is (subst (λ (p : ConfigParts). at_of c.in-Event.event < pool_words p) c.self.invariant.one_setting.1 (counter_within (setting_of c.self.inside.chunks) (at_of c.in-Event.event) w))
