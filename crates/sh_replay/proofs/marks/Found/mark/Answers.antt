use Rattle.sh_replay.proofs.ClockLemmas.{found_mark}
use Rattle.sh_replay.proofs.marks.Found.mark.Goals as goal

pub returns : goal.returns
returns c items h = found_mark items _ _ _ h c.args.seat c.args.number _ c.insert.new.self c.requires.seat c.index-clock.ensures c.in_ok-insert.ensures.updates
