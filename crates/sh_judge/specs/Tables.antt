-- Tables that are kept beside the calls of a text, so that each of them is placed quickly.
use Rattle.std.specs.{Prelude.{◌≡◌, ℕ, ◌<◌, ◌&&◌, ◌==◌, nat_lt, Bool, List, length, get_or, min, find}, List.{slice_get}}
use Rattle.sh_map.specs.declared.book.Done.{Done}
use Rattle.sh_judge.specs.Places.{count_at, is_at, entry_count}

-- an updating call's point is below n
abbrev pub is_placed_below : ℕ → Done → Bool
is_placed_below n d = (entry_count d == 1) && nat_lt d.point n

-- for each place below n how many updating calls have it as their point, where 2 stands for several
pub record AreCounted (n : ℕ) (dones : List Done) (counts : List ℕ) : Type 0 where
  pub long : length counts ≡ n
  pub each : (p : ℕ) → p < n → get_or counts p 0 ≡ min (count_at p dones) 2

-- for each place below n the place among all calls of the first updating call of these whose point it is
pub record AreOwners (n : ℕ) (all dones : List Done) (owners : List ℕ) : Type 0 where
  pub long : length owners ≡ n
  pub each : (p : ℕ) → p < n → slice_get all (get_or owners p 0) ≡ find (is_at p) dones
