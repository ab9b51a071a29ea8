use Rattle.std.proofs.Common.{arith}
use Rattle.sh_base.proofs.LayoutLemmas.{node_word_high}
use Rattle.sh_base.proofs.plan.ReadPlan.node.Goals as goal

pub invariant_of-result : goal.invariant_of-result
invariant_of-result c = record { small = rw (c.node_word.ensures, c.node_size.ensures) (omega (arith, node_word_high _ _ c.requires, c.args.cfg.now.lawful.size)) }
