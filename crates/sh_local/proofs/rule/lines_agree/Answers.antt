use Rattle.sh_local.proofs.Allowed.{line_agrees}
use Rattle.sh_local.proofs.rule.lines_agree.Goals as goal

pub returns : goal.returns
returns g c key chairs words homes views r = line_agrees g.T.Carried.fits key chairs words homes views r
