use Rattle.std.proofs.{Common.{rules, ap, arith, length, drop, length-drop, length-take, sym, take}, lemmas.{List.{take-append-drop}, Result.{err_from_is_err_and}}}
use Rattle.sh_port.proofs.Bytes.{appends_keeps, appends_take}
use Rattle.sh_port.proofs.loops.write_all.Goals as goal

pub writes-preserved : goal.writes-preserved
writes-preserved g c = search (rules, length-take, length-drop, appends_take)

pub returns-in_err-at-clause-err : goal.returns-in_err-at-clause-err
returns-in_err-at-clause-err g c =
    let p = err_from_is_err_and c.from_residual.result c.from_residual.ensures.1 in
    rw p.1 (record {
      front = take c.writes.at c.args.piece.now;
      rest = drop c.writes.at c.args.piece.now;
      whole = sym (take-append-drop c.writes.at c.args.piece.now);
      written = appends_keeps _ _ _ _ c.writes.invariant.1 c.in_err-at.ensures.bytes;
      missed = λ e. absurd (omega (arith, length-drop c.writes.at c.args.piece.now, ap length e, c.writes-test.true));
    })
