use Rattle.std.proofs.Common.{arith}
use Rattle.sh_laid.proofs.LaidLemmas.{pool_is_long}
use Rattle.sh_laid.proofs.laid.bare_words.Goals as goal

pub index_mut-requires : goal.index_mut-requires
index_mut-requires c = omega (arith, c.in_ok-words.ensures.len, c.words.ensures, pool_is_long c.args.cfg.now.parts c.args.cfg.now.lawful)

pub index_mut-requires-2 : goal.index_mut-requires-2
index_mut-requires-2 c = omega (arith, c.in_ok-words.ensures.len, c.words.ensures, c.counter_word.ensures, pool_is_long c.args.cfg.now.parts c.args.cfg.now.lawful)
