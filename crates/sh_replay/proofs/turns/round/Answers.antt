use Rattle.std.{proofs.{Common.{rules, ◌<◌, length, refl, sym, subst, get_or, All, take, ap, ◌∙◌, arith}}, specs.List.{fold}}
use Rattle.sh_text.specs.Write.{CauseOf}
use Rattle.sh_replay.specs.{Course.{Course, InRound, Stage}, Standing.{IsAt}, Thinning.{goes_in}}
use Rattle.sh_replay.proofs.{HeldLemmas.{round_step}, RoundLemmas.{next_below, round_spent, round_stops}, turns.round.Goals.{in-Turned, in-Held, in-Idle}}
use Rattle.sh_replay.proofs.turns.round.Goals as goal

pub loop-i-init : goal.loop-i-init
loop-i-init g c = (record { so_far = record { rest = λ k above. refl; within = omega arith; thins = refl }; at = λ items x held h. h; idle = λ x idle. idle; size = refl; few = omega arith }, refl)

pub bounds-seats-i : goal.bounds-seats-i
bounds-seats-i g c = omega (arith, c.loop-i-test.true, c.requires.count, c.loop-i.auto.seats)

pub ask-requires-clause-seat : goal.ask-requires-clause-seat
ask-requires-clause-seat g c = next_below _ _ _ _ _ c.loop-i.invariant.0.so_far c.args.asked.seats _ c.loop-i-test.true c.requires.count (subst (λ n. All (λ x. x < n) (take c.args.asked.seats c.args.seats.now)) (sym c.loop-i.invariant.0.size) c.requires.seats)

pub ask-requires-clause-few : goal.ask-requires-clause-few
ask-requires-clause-few g c = omega (arith, c.loop-i.invariant.0.size, c.requires.few)

pub returns-in-Err : goal.returns-in-Err
returns-in-Err g c = record {
  ok = λ items x held h. tt;
  err = λ items x held h. round_stops c.args.seats.now c.loop-i.world c.loop-i.seats c.loop-i.kept c.loop-i.i c.loop-i.invariant.0.so_far items x c.args.asked.seats c.ask.new.world held (g.K.Sink.held c.ask.new.sink) c.loop-i-test.true c.requires.count
      (c.in-Err.ensures.err items (fold (goes_in items) x (take c.loop-i.i c.args.seats.now)) c.loop-i.turns held (InRound (get_or c.loop-i.seats c.loop-i.i 0)) (c.loop-i.invariant.0.at items x held h) (refl, c.if-turns-eq0.false));
  thinned = tt;
  told = c.in-Err.ensures.told;
  size = c.in-Err.ensures.seats ∙ c.loop-i.invariant.0.size;
  cause = subst (λ n. CauseOf n (g.K.Sink.faults c.ask.new.sink) c.in-Err.error) c.loop-i.invariant.1 c.in-Err.ensures.cause;
}

pub returns-then-turns-eq0 : goal.returns-then-turns-eq0
returns-then-turns-eq0 g c = record {
  ok = λ items x held h.
      let at = c.loop-i.invariant.0.at items x held h in
      subst (λ (t : Course). IsAt items g.T.Tells.TOLD t c.loop-i.world c.loop-i.marks c.loop-i.turns held (g.K.Sink.held c.loop-i.sink)) (sym (round_spent items x c.args.seats.now c.loop-i.i c.args.asked.seats c.loop-i.auto.i-end (sym (ap (λ (r : Stage). r.left) at.stage) ∙ c.if-turns-eq0.true))) at;
  err = λ items x held h. tt;
  thinned = record { turns = c.loop-i.invariant.0.few; count = omega (arith, c.loop-i.invariant.0.so_far.within, c.loop-i.auto.i-end); long = c.loop-i.auto.seats; idle = c.loop-i.invariant.0.idle; thins = λ some. absurd (some c.if-turns-eq0.true) };
  told = tt;
  size = c.loop-i.invariant.0.size;
  cause = c.loop-i.invariant.1;
}

pub loop-i-preserved : goal.loop-i-preserved
loop-i-preserved g c =
    let below : c.loop-i.i < length c.args.seats.now = omega (arith, c.loop-i-test.true, c.requires.count) in (
      elim c.match-outcome.branch [
        | in-Turned w ↦ round_step _ _ _ _ _ _ _ _ _ _ _ _ _ c.loop-i.invariant.0 c.ask.new.world c.ask.new.marks c.match-outcome.turns c.match-outcome.seats c.match-outcome.kept (g.K.Sink.held c.ask.new.sink) c.in-Ok.outcome below c.loop-i.auto.seats c.if-turns-eq0.false c.in-Ok.ensures.moved c.in-Ok.ensures.ok c.in-Ok.ensures.seats (rw w.in-Turned.is (w.turns-is, w.kept-is, w.seats-is))
        | in-Held w ↦ round_step _ _ _ _ _ _ _ _ _ _ _ _ _ c.loop-i.invariant.0 c.ask.new.world c.ask.new.marks c.match-outcome.turns c.match-outcome.seats c.match-outcome.kept (g.K.Sink.held c.ask.new.sink) c.in-Ok.outcome below c.loop-i.auto.seats c.if-turns-eq0.false c.in-Ok.ensures.moved c.in-Ok.ensures.ok c.in-Ok.ensures.seats (rw w.in-Held.is (w.turns-is, w.kept-is, w.seats-is))
        | in-Idle w ↦ round_step _ _ _ _ _ _ _ _ _ _ _ _ _ c.loop-i.invariant.0 c.ask.new.world c.ask.new.marks c.match-outcome.turns c.match-outcome.seats c.match-outcome.kept (g.K.Sink.held c.ask.new.sink) c.in-Ok.outcome below c.loop-i.auto.seats c.if-turns-eq0.false c.in-Ok.ensures.moved c.in-Ok.ensures.ok c.in-Ok.ensures.seats (rw w.in-Idle.is (w.turns-is, w.kept-is, w.seats-is))
      ],
      c.in-Ok.ensures.cause ∙ c.loop-i.invariant.1,
    )

pub returns : goal.returns
returns g c = search rules
