use Rattle.std.proofs.Common.{take}
use Rattle.sh_map.specs.declared.call.Reply.TheVariants as reply
use Rattle.sh_map.proofs.LastLemmas.{get_answer, value_from, none_left}
use Rattle.sh_map.proofs.laws.get_laws.Goals as goal

pub returns-clause-value : goal.returns-clause-value
returns-clause-value c = λ log d key value h asked answered. value_from (take d.point log) key value (get_answer log d key (reply.Some value) h asked answered)

pub returns-clause-none : goal.returns-clause-none
returns-clause-none c = λ log d key h asked answered. none_left (take d.point log) key (get_answer log d key reply.None h asked answered)
