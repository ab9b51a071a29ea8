use Rattle.std.{proofs.{Common.{◌<◌, length, arith, refl, sym, subst, ◌∙◌}, lemmas.Option.{get_or_from_slice_get}}, specs.Io.KnownBytes.{Appends}}
use Rattle.sh_port.proofs.Bytes.{appends_more}
use Rattle.sh_text.proofs.Fronts.{front_more}
use Rattle.sh_world.specs.States.{rows_at, with_rows}
use Rattle.sh_replay.proofs.OutputLemmas.{lines_at, lines_more}
use Rattle.sh_replay.proofs.output.write_given_calls.Goals as goal

pub returns-in-Err-clause-err : goal.returns-in-Err-clause-err
returns-in-Err-clause-err g c =
    let calls = c.args.calls.now.calls in
    let given = with_rows c.get.result (rows_at calls c.loop-i.i) in
    let lt : c.loop-i.i < length calls = omega (arith, c.loop-i-test.true, c.len-i-end.ensures) in
    front_more _ _ _ _ _ _ _ (lines_at calls c.loop-i.i given _ lt (get_or_from_slice_get calls c.loop-i.i given given c.get.ensures) refl) c.loop-i.invariant.0 c.in-Err.ensures.err

pub loop-i-preserved : goal.loop-i-preserved
loop-i-preserved g c =
    let calls = c.args.calls.now.calls in
    let given = with_rows c.get.result (rows_at calls c.loop-i.i) in
    let lt : c.loop-i.i < length calls = omega (arith, c.loop-i-test.true, c.len-i-end.ensures) in (
      subst (Appends (g.K.Sink.held c.args.sink.now) (g.K.Sink.held c.write_given.new.sink)) (sym (lines_more calls c.loop-i.i given _ lt (get_or_from_slice_get calls c.loop-i.i given given c.get.ensures) refl)) (appends_more _ _ _ _ _ c.loop-i.invariant.0 c.in-Ok.ensures.ok),
      c.in-Ok.ensures.cause ∙ c.loop-i.invariant.1,
    )
