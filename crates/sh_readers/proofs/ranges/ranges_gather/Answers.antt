use Rattle.sh_base.specs.Parts.{parts_of}
use Rattle.sh_readers.proofs.Gathering.{gathered_begin, gathered_more, gathered_few, leaf_behind, done_answers, read_held}
use Rattle.sh_readers.proofs.ranges.ranges_gather.Goals as goal

pub returns-clause-begin : goal.returns-clause-begin
returns-clause-begin c = gathered_begin

pub returns-clause-stay : goal.returns-clause-stay
returns-clause-stay c = λ log more first low place rows h. gathered_more log first low more place rows h

pub returns-clause-held : goal.returns-clause-held
returns-clause-held c = read_held (parts_of c.args.cfg.now)

pub returns-clause-leaf : goal.returns-clause-leaf
returns-clause-leaf c = leaf_behind

pub returns-clause-few : goal.returns-clause-few
returns-clause-few c = gathered_few

pub returns-clause-done : goal.returns-clause-done
returns-clause-done c = done_answers
