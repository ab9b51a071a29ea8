use Rattle.std.{proofs.Common.{◌≡◌, ◌+◌, drop}, specs.List.{sum_by}}
use Rattle.sh_sheet.specs.Sheet.{item_calls}
use Rattle.sh_fleet.{specs.{Output.{lines_from}, Telling.{rest_by, AreAt}}, proofs.OutputLemmas.{Telling}}
use Rattle.sh_fleet.proofs.output.write_items.Given as goal

abbrev pub invariant-loop-item : goal.invariant-loop-item
invariant-loop-item g l = Telling (g.K.Sink.held l.fn.sink) (g.K.Sink.held l.sink) (lines_from 1 l.items (rest_by l.answers l.fn.cursors)) (lines_from l.n (drop l.item-index l.items) (rest_by l.answers l.cursors))
    × (g.K.Sink.faults l.sink ≡ g.K.Sink.faults l.fn.sink)
    × (l.n + sum_by item_calls (drop l.item-index l.items) ≡ 1 + sum_by item_calls l.items)
    × AreAt l.answers l.cursors
