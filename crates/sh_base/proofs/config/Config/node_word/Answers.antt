use Rattle.std.proofs.Common.{arith}
use Rattle.sh_base.{specs.Layout.{node_word}, proofs.LayoutLemmas.{node_row_small}}
use Rattle.sh_base.proofs.config.Config.node_word.Goals as goal

pub overflow_mul-result : goal.overflow_mul-result
overflow_mul-result c = rw c.node_size.ensures (omega (arith, node_row_small _ c.args.self.now.lawful _ c.requires))

pub overflow_add-result-3 : goal.overflow_add-result-3
overflow_add-result-3 c = rw c.node_size.ensures (omega (arith, node_row_small _ c.args.self.now.lawful _ c.requires))

pub returns : goal.returns
unfolding node_word
returns c = rw c.node_size.ensures (omega arith)
