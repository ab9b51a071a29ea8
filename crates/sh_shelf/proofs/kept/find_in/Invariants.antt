use Rattle.std.proofs.Common.{◌≡◌, drop}
use Rattle.sh_cache.specs.Cached.{found, found_from}
use Rattle.sh_shelf.proofs.kept.find_in.Given as goal

abbrev pub invariant-loop-row : goal.invariant-loop-row
invariant-loop-row l = found_from (l.best) (drop l.row-index l.rows) l.key ≡ found l.rows l.key
