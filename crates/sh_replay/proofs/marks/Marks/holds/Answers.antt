use Rattle.std.proofs.Common.{rules, length, get_or, false, arith}
use Rattle.sh_replay.{specs.Course.{ended_of}, proofs.StopLemmas.{held_is, past_both, stand_past}}
use Rattle.sh_replay.proofs.marks.Marks.holds.Goals as goal

pub returns-then-self-seat-clause-held : goal.returns-then-self-seat-clause-held
returns-then-self-seat-clause-held c items h =
    let s = c.args.world.now in
    let m = c.args.self.now in
    let at = get_or m.next c.args.seat 0 in
    held_is items (ended_of s) (length s.seats) c.args.seat c.requires.few c.requires.seat m.rows.items h.rows at (h.past c.args.seat) at false (stand_past (ended_of s) (length s.seats) c.args.seat m.rows.items at (omega (arith, c.if-self-seat.true)))

pub returns-clause-held : goal.returns-clause-held
returns-clause-held c items h = search (rules, held_is, past_both)
