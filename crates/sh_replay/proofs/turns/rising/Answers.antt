use Rattle.std.proofs.{Common.{◌∙◌, arith}, lemmas.List.{length-set}}
use Rattle.sh_replay.proofs.RoundLemmas.{rising_more}
use Rattle.sh_replay.proofs.turns.rising.Goals as goal

pub loop-seat-preserved : goal.loop-seat-preserved
loop-seat-preserved c = (length-set _ _ _ ∙ c.loop-seat.invariant.0, rising_more _ _ (omega (arith, c.loop-seat.invariant.0, c.loop-seat-test.true, c.requires)) c.loop-seat.invariant.1)
