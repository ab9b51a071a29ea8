use Rattle.std.proofs.Common.{rules}
use Rattle.sh_cache.proofs.RowLemmas.{forgotten_is, forgotten_none}
use Rattle.sh_cache.proofs.cache.Cache.forget.Goals as goal

pub returns-in-Some : goal.returns-in-Some
returns-in-Some c = search (rules, forgotten_is)

pub returns-in_default : goal.returns-in_default
returns-in_default c = search (rules, forgotten_none)
