use Rattle.std.proofs.Common.{rules}
use Rattle.sh_base.proofs.LayoutLemmas.{entry_high, node_size_is, node_word_high}
use Rattle.sh_base.proofs.plan.WritePlan.entry.Goals as goal

pub invariant_of-result : goal.invariant_of-result
invariant_of-result c = search (rules, node_word_high, entry_high, node_size_is)
