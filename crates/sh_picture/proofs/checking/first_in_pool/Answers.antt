use Rattle.std.proofs.Common.{arith}
use Rattle.sh_base.specs.Parts.{parts_of}
use Rattle.sh_picture.proofs.PictureLemmas.{has_zero}
use Rattle.sh_picture.proofs.checking.first_in_pool.Goals as goal

pub bounds-words-0 : goal.bounds-words-0
bounds-words-0 c = omega (arith, c.requires, has_zero (parts_of c.args.cfg.now))
