use Rattle.std.proofs.Common.{◌≡◌, Some, subst}
use Rattle.sh_base.specs.declared.config.ConfigParts.{ConfigParts}
use Rattle.sh_read.specs.Reads.{accepted}
use Rattle.sh_decide.specs.Deciding.{decision_of}
use Rattle.sh_client.{specs.Machine.{Machine}, proofs.PhaseLemmas.{decides}}
use Rattle.sh_client.proofs.state.Client.decide.Goals as goal

pub returns : goal.returns
returns c =
    let image = c.image.result.now in
    let now = c.args.self.now in
    let is : accepted now.setting now.registers.reads ≡ Some image = subst (λ (m : Machine). accepted m.setting m.registers.reads ≡ Some image) c.self.view_is (subst (λ (p : ConfigParts). accepted p c.self.inside.reading.reads ≡ Some image) c.self.invariant.one_setting.0 c.image.ensures.image) in
    let decision_is : c.decision-decision.result ≡ decision_of now.setting now.registers.call c.args.aim image =
    subst (λ (m : Machine). c.decision-decision.result ≡ decision_of m.setting m.registers.call c.args.aim image) c.self.view_is c.decision-decision.ensures.exact in
    decides now c.settle.new.self c.act.new.self c.args.aim c.args.depth image c.decision-decision.result is decision_is (c.settle.ensures.machine image is) c.act.ensures
