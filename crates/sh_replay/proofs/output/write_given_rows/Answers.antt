use Rattle.std.{proofs.Common.{◌∙◌, subst, sym}, specs.Io.KnownBytes.{Appends}}
use Rattle.sh_port.proofs.Bytes.{appends_more}
use Rattle.sh_text.proofs.Fronts.{front_more}
use Rattle.sh_world.specs.States.{rows_at}
use Rattle.sh_replay.proofs.OutputLemmas.{row_line_at, row_line_more}
use Rattle.sh_replay.proofs.output.write_given_rows.Goals as goal

pub returns-in-Err-clause-err : goal.returns-in-Err-clause-err
returns-in-Err-clause-err g c =
    front_more _ _ _ _ _ _ _ (row_line_at c.args.n (rows_at c.args.calls.now.calls c.args.place) c.loop-row.row _ c.row.ensures) c.loop-row.invariant.0 c.in-Err.ensures.err

pub loop-row-preserved : goal.loop-row-preserved
loop-row-preserved g c = (
  subst (Appends (g.K.Sink.held c.args.sink.now) (g.K.Sink.held c.write_row.new.sink)) (sym (row_line_more c.args.n (rows_at c.args.calls.now.calls c.args.place) c.loop-row.row _ c.row.ensures)) (appends_more _ _ _ _ _ c.loop-row.invariant.0 c.in-Ok.ensures.ok),
  c.in-Ok.ensures.cause ∙ c.loop-row.invariant.1,
)
