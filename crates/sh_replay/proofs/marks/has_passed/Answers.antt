use Rattle.std.{proofs.Common.{rules, ℕ, Bool, get_or, sym, arith}, specs.Prelude.{nat_le}}
use Rattle.sh_replay.{specs.Course.{ended_of}, proofs.StopLemmas.{all_fails, all_snoc}}
use Rattle.sh_logic.proofs.Tests.{above_test, at_most_test}
use Rattle.sh_replay.proofs.marks.has_passed.Goals as goal

pub returns-then-done_calls-clock : goal.returns-then-done_calls-clock
returns-then-done_calls-clock c =
    let p : ℕ → Bool = λ of. nat_le (get_or c.args.clock.now.counts of 0) (ended_of c.args.world.now of) in
    sym (all_fails p _ c.loop-seat.seat (omega (arith, c.loop-seat-test.true, c.seats-seat-end.ensures)) (above_test (get_or c.args.clock.now.counts c.loop-seat.seat 0) (ended_of c.args.world.now c.loop-seat.seat) (omega (arith, c.if-done_calls-clock.true, c.done_calls.ensures))))

pub loop-seat-preserved : goal.loop-seat-preserved
loop-seat-preserved c = search (rules, all_snoc, at_most_test)
