use Rattle.std.proofs.Common.{arith}
use Rattle.sh_client.proofs.ImageLemmas.{word_in_pool}
use Rattle.sh_client.proofs.wants.address.Goals as goal

pub overflow_add-result : goal.overflow_add-result
overflow_add-result c = omega (arith, c.node_word.ensures, word_in_pool c.args.cfg.now.parts c.args.cfg.now.lawful c.args.node c.args.offset c.requires.node c.requires.offset)
