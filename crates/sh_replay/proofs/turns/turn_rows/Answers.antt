use Rattle.std.proofs.Common.{◌++◌, ◌∙◌, ◌∷◌, [], Global, Vec, ap, sym}
use Rattle.sh_replay.{specs.{declared.turns.TurnRow.{TurnRow}, TurnRows.{turn_rows}}, proofs.{ItemLemmas.{no_row, rows_more}, turns.turn_rows.Goals.{in-Turn+in_ok-push, in_default}}}
use Rattle.sh_replay.proofs.turns.turn_rows.Goals as goal

pub loop-item-preserved : goal.loop-item-preserved
loop-item-preserved c = elim c.match-item.branch [
  | in-Turn+in_ok-push w ↦ rows_more c.args.items.now c.loop-item.item-index c.item-item.result _ _ c.loop-item-test.true c.item-item.is c.loop-item.invariant (ap (λ (v : Vec TurnRow Global). v.items) w.rows-is ∙ w.in_ok-push.ensures.items ∙ ap (λ x. c.loop-item.rows.items ++ turn_rows (x ∷ [])) (sym w.in-Turn.is))
  | in_default w ↦ rows_more c.args.items.now c.loop-item.item-index c.item-item.result _ _ c.loop-item-test.true c.item-item.is c.loop-item.invariant (ap (λ (v : Vec TurnRow Global). v.items) w.rows-is ∙ no_row c.loop-item.rows.items c.item-item.result w.in_default.not-Turn)
]
