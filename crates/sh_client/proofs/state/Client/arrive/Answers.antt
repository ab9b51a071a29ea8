use Rattle.std.proofs.Common.{◌≡◌, Some, ap, ◌∙◌, subst}
use Rattle.sh_base.specs.declared.config.ConfigParts.{ConfigParts}
use Rattle.sh_read.specs.Reads.{accepted}
use Rattle.sh_decide.specs.Ways.{way_of}
use Rattle.sh_client.{specs.Machine.{Machine}, proofs.PhaseLemmas.{arrives}}
use Rattle.sh_client.proofs.state.Client.arrive.Goals as goal

pub returns : goal.returns
returns c =
    let image = c.image.result.now in
    let now = c.args.self.now in
    let is : accepted now.setting now.registers.reads ≡ Some image = subst (λ (m : Machine). accepted m.setting m.registers.reads ≡ Some image) c.self.view_is (subst (λ (p : ConfigParts). accepted p c.self.inside.reading.reads ≡ Some image) c.self.invariant.one_setting.0 c.image.ensures.image) in
    let way_is : c.way-way.result ≡ way_of now.setting now.registers.call c.args.aim c.args.top now.registers.reads.node image =
    subst (λ (m : Machine). c.way-way.result ≡ way_of m.setting m.registers.call c.args.aim c.args.top m.registers.reads.node image) c.self.view_is
    (c.way-way.ensures.exact ∙ ap (λ n. way_of c.self.inside.cfg.parts c.self.inside.call c.args.aim c.args.top n image) c.node-node.ensures) in
    arrives now c.learn.new.self c.go.new.self c.args.aim c.args.top image c.way-way.result is way_is (c.learn.ensures.machine image is) c.go.ensures
