use Rattle.std.proofs.Common.{arith}
use Rattle.sh_base.specs.Parts.{parts_of}
use Rattle.sh_tree.proofs.WalkLemmas.{has_root}
use Rattle.sh_picture.proofs.checking.first_in_tree.Goals as goal

pub bounds-words-1 : goal.bounds-words-1
bounds-words-1 c = omega (arith, c.requires, has_root (parts_of c.args.cfg.now))
