use Rattle.std.{proofs.{Common.{◌≡◌, ◌≤◌, ◌+◌, false, refl, ap, subst, ◌∙◌, arith}, lemmas.Option.{slice_get_past}}, specs.List.{fold}}
use Rattle.sh_world.specs.Turning.{is_idle_at}
use Rattle.sh_text.specs.Write.{CauseOf}
use Rattle.sh_replay.{specs.Course.{can_turn, goes_on, turn_asks, ByRow}, proofs.{HeldLemmas.{stopped}, StageLemmas.{row_asked, row_next, row_rests, row_stops}, TurnLemmas.{idle_rests}}}
use Rattle.sh_replay.proofs.turns.take_turns.Goals as goal

pub returns-then-seat-seats-clause-ok : goal.returns-then-seat-seats-clause-ok
returns-then-seat-seats-clause-ok g c items x left held h = row_rests items g.T.Tells.TOLD x c.args.world.now c.args.marks.now left c.args.seat c.args.count 0 held (g.K.Sink.held c.args.sink.now) (omega arith) (idle_rests items c.args.world.now c.args.seat (ap is_idle_at (slice_get_past c.args.world.now.seats c.args.seat (omega (arith, c.seats.ensures, c.if-seat-seats.true))))) h

pub loop-init : goal.loop-init
loop-init g c = ((λ items x left held h. h), refl, refl)

pub ask-requires-clause-seat : goal.ask-requires-clause-seat
ask-requires-clause-seat g c = omega (arith, c.seats.ensures, c.if-seat-seats.false, c.loop.invariant.1)

pub ask-requires-clause-few : goal.ask-requires-clause-few
ask-requires-clause-few g c = omega (arith, c.loop.invariant.1, c.requires)

pub returns-in_default : goal.returns-in_default
returns-in_default g c = record {
  ok = λ items x left held h.
      let at = c.loop.invariant.0 items x left held h in
      let so_far = fold (goes_on items) x (turn_asks c.args.seat c.loop.counter) in
      let stop = stopped items c.loop.world c.ask.new.world c.args.seat c.in-Ok.outcome c.in-Ok.ensures.moved (c.in-Ok.ensures.choice items at.keeps) c.in_default.not-Turned in
      let next = row_asked items g.T.Tells.TOLD so_far c.ask.new.world c.ask.new.marks left c.args.seat c.in-Ok.outcome held (g.K.Sink.held c.ask.new.sink) (c.in-Ok.ensures.ok items so_far left held (ByRow c.args.seat) at refl) in
      let below : c.loop.counter + 1 ≤ c.args.count = omega (arith, c.loop-test.true) in
      let none : can_turn items c.ask.new.world c.args.seat ≡ false = ap (λ s. can_turn items s c.args.seat) stop.1 ∙ stop.0 in
      row_rests items g.T.Tells.TOLD x c.ask.new.world c.ask.new.marks left c.args.seat c.args.count (c.loop.counter + 1) held (g.K.Sink.held c.ask.new.sink) below none (row_next items g.T.Tells.TOLD x c.ask.new.world c.ask.new.marks left c.args.seat c.args.count c.loop.counter held (g.K.Sink.held c.ask.new.sink) next);
  err = λ items x left held h. tt;
  told = tt;
  seats = c.in-Ok.ensures.seats ∙ c.loop.invariant.1;
  cause = c.in-Ok.ensures.cause ∙ c.loop.invariant.2;
}

pub returns-in-Err : goal.returns-in-Err
returns-in-Err g c = record {
  ok = λ items x left held h. tt;
  err = λ items x left held h. row_stops items g.T.Tells.TOLD x c.ask.new.world c.ask.new.marks left c.args.seat c.args.count c.loop.counter held (g.K.Sink.held c.ask.new.sink) c.loop-test.true (c.in-Err.ensures.err items (fold (goes_on items) x (turn_asks c.args.seat c.loop.counter)) left held (ByRow c.args.seat) (c.loop.invariant.0 items x left held h) refl);
  told = c.in-Err.ensures.told;
  seats = c.in-Err.ensures.seats ∙ c.loop.invariant.1;
  cause = subst (λ n. CauseOf n (g.K.Sink.faults c.ask.new.sink) c.in-Err.error) c.loop.invariant.2 c.in-Err.ensures.cause;
}

pub loop-preserved : goal.loop-preserved
loop-preserved g c = (
  λ items x left held h.
      let so_far = fold (goes_on items) x (turn_asks c.args.seat c.loop.counter) in
      row_next items g.T.Tells.TOLD x c.ask.new.world c.ask.new.marks left c.args.seat c.args.count c.loop.counter held (g.K.Sink.held c.ask.new.sink)
      (row_asked items g.T.Tells.TOLD so_far c.ask.new.world c.ask.new.marks left c.args.seat c.in-Ok.outcome held (g.K.Sink.held c.ask.new.sink) (c.in-Ok.ensures.ok items so_far left held (ByRow c.args.seat) (c.loop.invariant.0 items x left held h) refl)),
  c.in-Ok.ensures.seats ∙ c.loop.invariant.1,
  c.in-Ok.ensures.cause ∙ c.loop.invariant.2,
)

pub returns : goal.returns
returns g c =
    let over : c.loop.counter ≡ c.args.count = omega (arith, c.loop-test.false, c.loop.auto.counter-end) in
    record {
      ok = λ items x left held h. rw (← over) (c.loop.invariant.0 items x left held h);
      err = λ items x left held h. tt;
      told = tt;
      seats = c.loop.invariant.1;
      cause = c.loop.invariant.2;
    }
