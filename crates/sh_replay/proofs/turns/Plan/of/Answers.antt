use Rattle.std.proofs.Common.{ap, subst, ◌∙◌}
use Rattle.sh_replay.specs.{Standing.{Keeps}, TurnRows.{turn_rows}}
use Rattle.sh_replay.proofs.turns.Plan.of.Goals as goal

pub returns : goal.returns
returns c = record {
  turns = c.in_ok-turns.ensures ∙ ap turn_rows c.as_slice.ensures;
  marks = λ s. subst (λ l. Keeps l s c.in_ok-marks.marks) c.as_slice-2.ensures (c.in_ok-marks.ensures s);
}
