use Rattle.std.proofs.Common.{arith}
use Rattle.sh_base.proofs.LayoutLemmas.{entry_product_small}
use Rattle.sh_base.proofs.config.Config.entry_at.Goals as goal

pub overflow_mul-result : goal.overflow_mul-result
overflow_mul-result c = rw c.entry_size.ensures (omega (arith, entry_product_small _ c.args.self.now.lawful _ c.requires))

pub overflow_add-result : goal.overflow_add-result
overflow_add-result c = rw c.entry_size.ensures (omega (arith, entry_product_small _ c.args.self.now.lawful _ c.requires))
