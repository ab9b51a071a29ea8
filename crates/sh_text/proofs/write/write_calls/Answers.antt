use Rattle.sh_text.{specs.Text.{call_text}, proofs.Fronts.{front_more, part_at}}
use Rattle.sh_text.proofs.write.write_calls.Goals as goal

pub returns-in-Err-clause-err : goal.returns-in-Err-clause-err
returns-in-Err-clause-err g c =
    let wrote = rw c.done-item.is at c.in-Err.ensures.err in
    front_more _ _ _ _ _ _ _ (part_at (call_text c.args.points) c.args.dones.now c.loop-done.done-index c.done-item.result c.loop-done-test.true) c.loop-done.invariant.0 wrote
