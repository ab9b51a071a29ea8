use Rattle.std.proofs.Common.{rules}
use Rattle.std.proofs.lemmas.Nat.{mul-le}
use Rattle.sh_base.proofs.LayoutLemmas.{node_size_is}
use Rattle.sh_bulk.proofs.ShapeLemmas.{covers_some, some_node}
use Rattle.sh_bulk.proofs.workers.build_beside.Goals as goal

pub for_each_chunk_mut-requires-clause-size : goal.for_each_chunk_mut-requires-clause-size
for_each_chunk_mut-requires-clause-size g c h2 outlives = search (rules, some_node, covers_some, mul-le, node_size_is)
