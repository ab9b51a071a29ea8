use Rattle.sh_base.proofs.LayoutLemmas.{default_is_setting}
use Rattle.sh_base.proofs.setting.ConfigDefault.default.Goals as goal

pub invariant_of-result : goal.invariant_of-result
invariant_of-result c = record { lawful = rw c.default.ensures default_is_setting }
