use Rattle.sh_replay.proofs.ClockLemmas.{found_after}
use Rattle.sh_replay.proofs.marks.Found.after.Goals as goal

pub returns : goal.returns
returns c items h = found_after items _ _ _ h c.args.seat c.args.number c.behind-clock.result c.push.new.self.items c.requires.seat (c.behind-clock.ensures items h) c.in_ok-push.ensures.items
