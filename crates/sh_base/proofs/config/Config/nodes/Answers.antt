use Rattle.std.proofs.Common.{arith}
use Rattle.sh_base.proofs.LayoutLemmas.{nodes_small}
use Rattle.sh_base.proofs.config.Config.nodes.Goals as goal

pub overflow_mul-result : goal.overflow_mul-result
overflow_mul-result c = omega (arith, nodes_small _ c.args.self.now.lawful)

pub overflow_mul-result-2 : goal.overflow_mul-result-2
overflow_mul-result-2 c = omega (arith, nodes_small _ c.args.self.now.lawful)
