use Rattle.std.proofs.Common.{subst}
use Rattle.sh_lanes.specs.Scans.{IsFirst, LacksWord}
use Rattle.sh_edit.proofs.FindLemmas.{first_with, none_with}
use Rattle.sh_edit.proofs.find.Goals as goal

pub returns-in-Some : goal.returns-in-Some
returns-in-Some c = first_with _ _ _ (subst (λ keys. IsFirst keys c.args.key c.in-Some.index) c.keys.ensures.keys c.in-Some.ensures)

pub returns-in-None : goal.returns-in-None
returns-in-None c = none_with _ _ (subst (λ keys. LacksWord keys c.args.key) c.keys.ensures.keys c.in-None.ensures)
