use Rattle.sh_replay.proofs.ClockLemmas.{found_ask}
use Rattle.sh_replay.proofs.marks.Found.count.Goals as goal

pub returns : goal.returns
returns c items call h = found_ask items _ _ _ h c.args.seat call _ c.more.new.clock c.requires.seat c.index.ensures c.more.ensures
