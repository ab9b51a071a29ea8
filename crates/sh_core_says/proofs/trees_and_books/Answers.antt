use Rattle.std.proofs.Common.{[]}
use Rattle.sh_core.specs.Listed.{HasAt, OutAt}
use Rattle.sh_core_says.proofs.{Books.{refusals_have_causes, books_are_lawful, calls_are_answered}, Moments.{each_moment}, AtRest.{at_rest}}
use Rattle.sh_core_says.proofs.trees_and_books.Goals as goal

pub returns-clause-moment : goal.returns-clause-moment
returns-clause-moment c = λ words log actors rights inv. each_moment c.args.cfg.now.parts words log (HasAt actors) (OutAt rights) inv

pub returns-clause-book : goal.returns-clause-book
returns-clause-book c = λ words log actors rights dones inv book. books_are_lawful c.args.cfg.now.parts words log (HasAt actors) (OutAt rights) dones inv book

pub returns-clause-refusals : goal.returns-clause-refusals
returns-clause-refusals c = λ words log actors rights dones inv book. refusals_have_causes c.args.cfg.now.parts words log (HasAt actors) (OutAt rights) dones inv book

pub returns-clause-rest : goal.returns-clause-rest
returns-clause-rest c = λ words log actors inv rest. at_rest c.args.cfg.now.parts c.args.cfg.now.lawful words log (HasAt actors) (OutAt []) inv rest (λ lock compute depth o. o)

pub returns-clause-calls : goal.returns-clause-calls
returns-clause-calls c = λ words log actors rights seat a inv h. calls_are_answered c.args.cfg.now.parts words log (HasAt actors) (OutAt rights) seat a inv h
