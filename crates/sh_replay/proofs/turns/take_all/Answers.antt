use Rattle.std.{proofs.{Common.{◌≡◌, refl, sym, subst, take, ◌∙◌, arith}, lemmas.List.{take_all}}, specs.List.{fold}}
use Rattle.sh_text.specs.Write.{CauseOf}
use Rattle.sh_replay.{specs.{Course.{goes_on, Course}, Standing.{IsAt}, TurnRows.{kept_asks, kept_row}}, proofs.StageLemmas.{asked_more, stops_among}}
use Rattle.sh_replay.proofs.turns.take_all.Goals as goal

pub loop-row-init : goal.loop-row-init
loop-row-init g c = ((λ items x left held h. h), refl, refl)

pub take_turns-requires : goal.take_turns-requires
take_turns-requires g c = omega (arith, c.loop-row.invariant.1, c.requires)

pub returns-in-Err : goal.returns-in-Err
returns-in-Err g c = record {
  ok = λ items x left held h. tt;
  err = λ items x left held h. stops_among items kept_row x c.args.rows.now c.loop-row.row-index _ c.loop-row-test.true c.take_turns.new.world held (g.K.Sink.held c.take_turns.new.sink) (c.in-Err.ensures.err items (fold (goes_on items) x (kept_asks (take c.loop-row.row-index c.args.rows.now))) left held (c.loop-row.invariant.0 items x left held h));
  told = c.in-Err.ensures.told;
  seats = c.in-Err.ensures.seats ∙ c.loop-row.invariant.1;
  cause = subst (λ n. CauseOf n (g.K.Sink.faults c.take_turns.new.sink) c.in-Err.error) c.loop-row.invariant.2 c.in-Err.ensures.cause;
}

pub loop-row-preserved : goal.loop-row-preserved
loop-row-preserved g c = (
  λ items x left held h. subst (λ (t : Course). IsAt items g.T.Tells.TOLD t c.take_turns.new.world c.take_turns.new.marks left held (g.K.Sink.held c.take_turns.new.sink)) (sym (asked_more items kept_row x c.args.rows.now c.loop-row.row-index _ c.loop-row-test.true))
      (c.in-Ok.ensures.ok items (fold (goes_on items) x (kept_asks (take c.loop-row.row-index c.args.rows.now))) left held (c.loop-row.invariant.0 items x left held h)),
  c.in-Ok.ensures.seats ∙ c.loop-row.invariant.1,
  c.in-Ok.ensures.cause ∙ c.loop-row.invariant.2,
)

pub returns-clause-ok : goal.returns-clause-ok
returns-clause-ok g c items x left held h =
    let all : take c.loop-row.row-index c.args.rows.now ≡ c.args.rows.now = take_all c.loop-row.row-index c.args.rows.now (omega (arith, c.loop-row-test.false)) in
    subst (λ rows. IsAt items g.T.Tells.TOLD (fold (goes_on items) x (kept_asks rows)) c.loop-row.world c.loop-row.marks left held (g.K.Sink.held c.loop-row.sink)) all (c.loop-row.invariant.0 items x left held h)
