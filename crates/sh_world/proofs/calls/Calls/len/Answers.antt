use Rattle.std.proofs.Common.{rules}
use Rattle.sh_world.{proofs.RowLemmas.{length_calls}}
use Rattle.sh_world.proofs.calls.Calls.len.Goals as goal

pub returns : goal.returns
returns c = search (rules, length_calls)
