use Rattle.std.{proofs.Common.{rules}, specs.Mem.Slots.{slots_items}}
use Rattle.sh_pool.proofs.GatherLemmas.{read_more}
use Rattle.sh_pool.proofs.gathering.read_out.Goals as goal

pub loop-i-preserved : goal.loop-i-preserved
loop-i-preserved c = search (rules, read_more, slots_items)
