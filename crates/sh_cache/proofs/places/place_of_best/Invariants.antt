use Rattle.sh_cache.proofs.PlaceLemmas.{IsBest}
use Rattle.sh_cache.proofs.places.place_of_best.Given as goal

abbrev pub invariant-loop-at : goal.invariant-loop-at
invariant-loop-at l = IsBest l.lows l.highs l.key l.at l.best
