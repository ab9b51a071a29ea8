use Rattle.std.proofs.{Common.{rules, length-drop, length-take}, lemmas.List.{drop_all}}
use Rattle.sh_port.proofs.Bytes.{drop_front}
use Rattle.sh_port.proofs.list.ListSourceSource.read.Goals as goal

pub returns-clause-bytes : goal.returns-clause-bytes
returns-clause-bytes c = search (rules, drop_front, length-take, length-drop, drop_all)
