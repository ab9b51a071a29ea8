use Rattle.sh_world.proofs.GiveLemmas.{seats_more}
use Rattle.sh_world.proofs.laid.fresh_seats.Goals as goal

pub loop-seat-preserved : goal.loop-seat-preserved
loop-seat-preserved c = seats_more c.args.cfg.now.parts c.loop-seat.seat c.loop-seat.seats.items _ c.in_ok-new.field-0 _ c.loop-seat.invariant c.in_ok-new.ensures c.new-in-loop-seat.ensures.items c.in_ok-push.ensures.items
