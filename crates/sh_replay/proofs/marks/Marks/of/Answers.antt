use Rattle.std.proofs.Common.{arith}
use Rattle.sh_replay.proofs.StopLemmas.{zero_at}
use Rattle.sh_replay.proofs.marks.Marks.of.Goals as goal

pub returns : goal.returns
returns c s = record { rows = c.in_ok-rows.ensures; past = λ seat i r before here own. absurd (omega (arith, before, zero_at 64 seat)) }
