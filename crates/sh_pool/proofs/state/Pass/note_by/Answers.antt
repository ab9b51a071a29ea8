use Rattle.std.proofs.Common.{rules}
use Rattle.sh_client.{proofs.WithinLemmas.{root_within}}
use Rattle.sh_pool.{proofs.{SettledLemmas.{noted_keeps, settled_so}, Steps.{standing}}}
use Rattle.sh_pool.proofs.state.Pass.note_by.Goals as goal

pub note_as-requires-clause-table : goal.note_as-requires-clause-table
note_as-requires-clause-table g c = search (rules, standing, root_within)

pub invariant_of-self : goal.invariant_of-self
invariant_of-self g c = search (rules, standing, settled_so, noted_keeps)

pub returns-clause-noted : goal.returns-clause-noted
returns-clause-noted g c = search (rules, standing, settled_so, noted_keeps)
