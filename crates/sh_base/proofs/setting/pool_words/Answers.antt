use Rattle.std.proofs.Common.{arith}
use Rattle.sh_base.proofs.LayoutLemmas.{words_small}
use Rattle.sh_base.proofs.setting.pool_words.Goals as goal

pub overflow_mul-result-2 : goal.overflow_mul-result-2
overflow_mul-result-2 c = rw (c.from-servers.ensures, c.from.ensures, c.from-2.ensures, c.from-3.ensures, c.from-4.ensures) (omega (arith, words_small c.args.parts.now c.requires))

pub overflow_add-result-3 : goal.overflow_add-result-3
overflow_add-result-3 c = rw (c.from-servers.ensures, c.from.ensures, c.from-2.ensures, c.from-3.ensures, c.from-4.ensures, c.from-5.ensures) (omega (arith, words_small c.args.parts.now c.requires, c.requires.servers))
