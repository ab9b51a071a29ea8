use Rattle.std.proofs.Common.{rules}
use Rattle.sh_cache.{proofs.RowLemmas.{kept_there, kept_new, lacks_behind}}
use Rattle.sh_cache.proofs.cache.Cache.keep.Goals as goal

pub add-requires-clause-other : goal.add-requires-clause-other
add-requires-clause-other c = search (rules, lacks_behind)

pub returns-in-Some : goal.returns-in-Some
returns-in-Some c = search (rules, kept_there)

pub returns-then-self-gt0 : goal.returns-then-self-gt0
returns-then-self-gt0 c = search (rules, kept_new)
