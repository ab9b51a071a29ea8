-- Routes, and the shelf that offers leave.
use Rattle.std.specs.{Prelude.{ℕ, List, [], length, replicate}, List.{fold, Sorted.{IsPermutation, IsNonDecreasingBy}}}
use Rattle.sh_image.specs.Inner.{Inner}
use Rattle.sh_cache.specs.Cached.{kept}

-- a route: an inner node of level 1 without its next node, and with as many blank pairs
abbrev pub route : (low high version pairs : ℕ) → Inner
route low high version pairs = record { version = version; level = 1; low = low; high = high; next = 0; pairs = replicate pairs (record { separator = 0; child = 0 }) }

abbrev pub route_of : Inner → Inner
route_of a = route a.low a.high a.version (length a.pairs)

-- The rows after offers, each kept as a cache keeps it: it replaces the one with the same low fence, else it goes last;
-- where more than `room` rows stand, the first goes.
unfoldable pub shelf_of : (room : ℕ) → List Inner → List Inner
shelf_of room offers = fold (kept room) [] offers

-- these rows, rising by their low fences
pub record AreRising (rows rising : List Inner) : Type 0 where
  pub same : IsPermutation rows rising
  pub rises : IsNonDecreasingBy (λ (r : Inner). r.low) rising
