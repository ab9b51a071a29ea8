use Rattle.std.proofs.Common.{◌<◌, length, arith}
use Rattle.sh_tree.proofs.HoldLemmas.{adds_before}
use Rattle.sh_tree.proofs.pairs.add_entries.Goals as goal

pub loop-step-preserved : goal.loop-step-preserved
loop-step-preserved c =
    let es = c.args.leaf.now.entries in
    let inside : c.loop-step.step < length es = omega (arith, c.loop-step-test.true, c.entries-count.ensures) in
    adds_before es c.loop-step.step _ c.entry-entry.result c.args.map.now c.loop-step.map c.add_entry.new.map inside (omega (arith, c.entries-count.ensures)) c.entry-entry.ensures c.loop-step.invariant c.in_ok-add_entry.ensures
