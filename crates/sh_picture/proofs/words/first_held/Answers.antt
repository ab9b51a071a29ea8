use Rattle.std.proofs.Common.{rules, arith}
use Rattle.sh_base.specs.Parts.{parts_of}
use Rattle.sh_picture.proofs.PictureLemmas.{has_lock}
use Rattle.sh_picture.proofs.words.first_held.Goals as goal

pub bounds-words-lock_word : goal.bounds-words-lock_word
bounds-words-lock_word c = omega (arith, c.requires, c.lock_word.ensures, has_lock (parts_of c.args.cfg.now) c.loop-lock.lock (omega (arith, c.loop-lock-test.true, c.all_locks-lock-end.ensures)))

pub returns-then-words-lock_word-ne0 : goal.returns-then-words-lock_word-ne0
returns-then-words-lock_word-ne0 c = search rules

pub returns : goal.returns
returns c = λ lock below. c.loop-lock.invariant lock (omega (arith, below, c.loop-lock-test.false, c.all_locks-lock-end.ensures))
