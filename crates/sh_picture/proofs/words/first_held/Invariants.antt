use Rattle.std.proofs.Common.{ℕ, ◌<◌}
use Rattle.sh_picture.specs.Fault.{IsFree}
use Rattle.sh_picture.proofs.words.first_held.Given as goal

abbrev pub invariant-loop-lock : goal.invariant-loop-lock
invariant-loop-lock l = (lock : ℕ) → lock < l.lock → IsFree l.cfg.parts l.words lock
