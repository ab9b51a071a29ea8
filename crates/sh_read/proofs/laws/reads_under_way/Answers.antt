use Rattle.sh_read.{specs.Reading.{StoodWith}, proofs.Read.{FitsRead-begin, stood-next, stood-load, stood-more, accepted}}
use Rattle.sh_read.proofs.laws.reads_under_way.Goals as goal

pub returns-clause-begin : goal.returns-clause-begin
returns-clause-begin c = λ level stood s. FitsRead-begin c.args.cfg.now.parts level (StoodWith stood s) s

pub returns-clause-event : goal.returns-clause-event
returns-clause-event c = λ level stood. stood-next c.args.cfg.now.parts level stood

pub returns-clause-load : goal.returns-clause-load
returns-clause-load c = λ level stood. stood-load c.args.cfg.now.parts level stood

pub returns-clause-more : goal.returns-clause-more
returns-clause-more c = λ level stood. stood-more c.args.cfg.now.parts level stood

pub returns-clause-accepted : goal.returns-clause-accepted
returns-clause-accepted c = λ level stood s. accepted c.args.cfg.now.parts level (StoodWith stood s) s
