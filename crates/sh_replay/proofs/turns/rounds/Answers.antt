use Rattle.std.{proofs.Common.{rules, ◌≡◌, length, refl, subst, ◌∙◌, arith}}
use Rattle.sh_text.specs.Write.{CauseOf}
use Rattle.sh_replay.{proofs.RoundLemmas.{asked_step, rounds_over, rounds_spent, rounds_step, rounds_stop, seats_below, so_far, thins_all}}
use Rattle.sh_replay.proofs.turns.rounds.Goals as goal

pub loop-turns-init : goal.loop-turns-init
loop-turns-init g c = search (rules, thins_all)

pub round-requires-clause-few : goal.round-requires-clause-few
round-requires-clause-few g c = omega (arith, c.loop-turns.invariant.2, c.requires)

pub round-requires-clause-count : goal.round-requires-clause-count
round-requires-clause-count g c = omega (arith, c.loop-turns.invariant.0.within, c.loop-turns.invariant.0.long)

pub round-requires-clause-seats : goal.round-requires-clause-seats
round-requires-clause-seats g c = seats_below _ _ _ _ c.loop-turns.invariant.0 c.loop-turns-test.true

pub returns-then-left-turns : goal.returns-then-left-turns
returns-then-left-turns g c = record {
  ok = λ items x held h.
      let so = c.loop-turns.invariant.1 items x held h in
      rounds_over _ _ _ _ c.loop-turns.invariant.0 c.loop-turns-test.true items g.T.Tells.TOLD x c.args.budget (length c.args.world.now.seats) c.loop-turns.marks held (g.K.Sink.held c.loop-turns.sink) c.loop-turns.invariant.2 so c.round.new.world c.round.new.marks _ (g.K.Sink.held c.round.new.sink) c.if-left-turns.true (c.in-Ok.ensures.size ∙ c.loop-turns.invariant.2)
      (c.in-Ok.ensures.ok items (so_far _ _ _ _ c.loop-turns.invariant.0 c.loop-turns-test.true items g.T.Tells.TOLD x c.args.budget (length c.args.world.now.seats) c.loop-turns.marks held (g.K.Sink.held c.loop-turns.sink) c.loop-turns.invariant.2 so) held so.at);
  err = λ items x held h. tt;
  left = c.loop-turns.invariant.3;
  told = tt;
  size = c.in-Ok.ensures.size ∙ c.loop-turns.invariant.2;
  cause = c.in-Ok.ensures.cause ∙ c.loop-turns.invariant.4;
}

pub loop-turns-smaller : goal.loop-turns-smaller
loop-turns-smaller g c = omega (arith, c.in-Ok.ensures.thinned.turns, c.if-left-turns.false)

pub loop-turns-preserved : goal.loop-turns-preserved
loop-turns-preserved g c = (
  asked_step _ _ _ _ c.loop-turns.invariant.0 c.loop-turns-test.true c.round.new.world c.round.new.seats _ c.in-Ok.left refl c.in-Ok.ensures.size c.in-Ok.ensures.thinned,
  (λ items x held h.
      let so = c.loop-turns.invariant.1 items x held h in
      rounds_step _ _ _ _ c.loop-turns.invariant.0 c.loop-turns-test.true items g.T.Tells.TOLD x c.args.budget (length c.args.world.now.seats) c.loop-turns.marks held (g.K.Sink.held c.loop-turns.sink) c.loop-turns.invariant.2 so c.round.new.world c.round.new.marks _ (g.K.Sink.held c.round.new.sink)
      (c.in-Ok.ensures.ok items (so_far _ _ _ _ c.loop-turns.invariant.0 c.loop-turns-test.true items g.T.Tells.TOLD x c.args.budget (length c.args.world.now.seats) c.loop-turns.marks held (g.K.Sink.held c.loop-turns.sink) c.loop-turns.invariant.2 so) held so.at) c.in-Ok.ensures.thinned.turns c.if-left-turns.false),
  c.in-Ok.ensures.size ∙ c.loop-turns.invariant.2,
  omega (arith, c.in-Ok.ensures.thinned.turns, c.loop-turns.invariant.3),
  c.in-Ok.ensures.cause ∙ c.loop-turns.invariant.4,
)

pub returns-in-Err : goal.returns-in-Err
returns-in-Err g c = record {
  ok = λ items x held h. tt;
  err = λ items x held h.
      let so = c.loop-turns.invariant.1 items x held h in
      rounds_stop _ _ _ _ c.loop-turns.invariant.0 c.loop-turns-test.true items g.T.Tells.TOLD x c.args.budget (length c.args.world.now.seats) c.loop-turns.marks held (g.K.Sink.held c.loop-turns.sink) c.loop-turns.invariant.2 so c.round.new.world (g.K.Sink.held c.round.new.sink)
      (c.in-Err.ensures.err items (so_far _ _ _ _ c.loop-turns.invariant.0 c.loop-turns-test.true items g.T.Tells.TOLD x c.args.budget (length c.args.world.now.seats) c.loop-turns.marks held (g.K.Sink.held c.loop-turns.sink) c.loop-turns.invariant.2 so) held so.at);
  left = tt;
  told = c.in-Err.ensures.told;
  size = c.in-Err.ensures.size ∙ c.loop-turns.invariant.2;
  cause = subst (λ n. CauseOf n (g.K.Sink.faults c.round.new.sink) c.in-Err.error) c.loop-turns.invariant.4 c.in-Err.ensures.cause;
}

pub returns : goal.returns
returns g c =
    let none : c.loop-turns.turns ≡ 0 = omega (arith, c.loop-turns-test.false) in
    record {
      ok = λ items x held h. rounds_spent items g.T.Tells.TOLD x c.args.budget (length c.args.world.now.seats) c.loop-turns.world c.loop-turns.marks c.loop-turns.turns held (g.K.Sink.held c.loop-turns.sink) (c.loop-turns.invariant.1 items x held h) none;
      err = λ items x held h. tt;
      left = c.loop-turns.invariant.3;
      told = tt;
      size = c.loop-turns.invariant.2;
      cause = c.loop-turns.invariant.4;
    }
