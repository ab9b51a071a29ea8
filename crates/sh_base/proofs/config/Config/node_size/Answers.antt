use Rattle.std.proofs.Common.{arith}
use Rattle.sh_base.proofs.LayoutLemmas.{entries_small}
use Rattle.sh_base.proofs.config.Config.node_size.Goals as goal

pub overflow_mul-result : goal.overflow_mul-result
overflow_mul-result c = rw c.entry_size.ensures (omega (arith, entries_small _ c.args.self.now.lawful))

pub overflow_add-result : goal.overflow_add-result
overflow_add-result c = rw c.entry_size.ensures (omega (arith, entries_small _ c.args.self.now.lawful))
