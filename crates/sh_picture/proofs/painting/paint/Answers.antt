use Rattle.std.proofs.{Common.{rules}, lemmas.Result.{err_from_is_err_and}}
use Rattle.sh_picture.proofs.PaintLemmas.{front_later, piece_first, piece_more}
use Rattle.sh_picture.proofs.painting.paint.Goals as goal

pub returns-in_err-write_first-clause-err : goal.returns-in_err-write_first-clause-err
returns-in_err-write_first-clause-err g c = search (rules, err_from_is_err_and, piece_first)

pub returns-in_err-write_words-clause-err : goal.returns-in_err-write_words-clause-err
returns-in_err-write_words-clause-err g c = search (rules, err_from_is_err_and, front_later)

pub pieces-preserved : goal.pieces-preserved
pieces-preserved g c = search (rules, piece_more)
