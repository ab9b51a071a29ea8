-- The rows of a cache: what is kept, what is forgotten, and what is found.
use Rattle.std.specs.{Prelude.{◌≡◌, ℕ, ◌≤◌, ◌==◌, ◌&&◌, if◌then◌else◌, nat_le, nat_lt, Bool, true, false, List, [], ◌∷◌, ◌++◌, length, drop, slice_get, Option, Some, None}, List.{AllByRecursion}}
use Rattle.sh_image.specs.Inner.{Inner}

-- a cache: for how many rows it has room, and its rows, the oldest first
pub record Rows : Type 0 where
  pub room : ℕ
  pub rows : List Inner

-- whether a row has this low fence
abbrev pub has_low : List Inner → ℕ → Bool
has_low [] low = false
has_low (r ∷ rows) low = if r.low == low then true else has_low rows low

-- the rows with the row of the same low fence replaced, in its place
abbrev pub replaced : List Inner → Inner → List Inner
replaced [] a = []
replaced (r ∷ rows) a = if r.low == a.low then a ∷ rows else r ∷ replaced rows a

-- the rows with a new one behind the others; with no room left the oldest goes, and with no room at all the new one
abbrev pub added : ℕ → List Inner → Inner → List Inner
added room rows a = if nat_lt (length rows) room then rows ++ a ∷ [] else drop 1 (rows ++ a ∷ [])

-- the rows after one is kept: a row with the same low fence is replaced and keeps its age
abbrev pub kept : ℕ → List Inner → Inner → List Inner
kept room rows a = if has_low rows a.low then replaced rows a else added room rows a

-- the oldest row of a cache that is full
pub record IsOldest (room : ℕ) (rows : List Inner) (row : Inner) : Type 0 where
  pub first : slice_get rows 0 ≡ Some row
  pub full : room ≤ length rows

-- the rows without the one with this low fence
abbrev pub forgotten : List Inner → ℕ → List Inner
forgotten [] low = []
forgotten (r ∷ rows) low = if r.low == low then rows else r ∷ forgotten rows low

-- the row covers the keys from its low fence on below its high fence
abbrev pub covers : Inner → ℕ → Bool
covers r key = nat_le r.low key && nat_lt key r.high

-- whether the row's low fence is above the best one's
abbrev pub is_above : Inner → Option Inner → Bool
is_above r None = true
is_above r (Some best) = nat_lt best.low r.low

-- the best of two for a key: the row where it covers the key and its low fence is above the best one's
abbrev pub better : Option Inner → Inner → ℕ → Option Inner
better best r key = if covers r key && is_above r best then Some r else best

abbrev pub found_from : Option Inner → List Inner → ℕ → Option Inner
found_from best [] key = best
found_from best (r ∷ rows) key = found_from (better best r key) rows key

-- of the rows that cover the key the one with the greatest low fence, and none where there is none
abbrev pub found : List Inner → ℕ → Option Inner
found rows key = found_from None rows key

-- it stands in the rows and covers the key, and no row that covers the key has a greater low fence
pub record IsGreatest (rows : List Inner) (key : ℕ) (a : Inner) : Type 0 where
  pub index : ℕ
  pub here : slice_get rows index ≡ Some a
  pub covering : covers a key ≡ true
  pub greatest : AllByRecursion (λ (r : Inner). covers r key ≡ true → r.low ≤ a.low) rows

-- what is found, by its cause
abbrev pub FoundBy : List Inner → ℕ → Option Inner → Type 0
FoundBy rows key None = AllByRecursion (λ (r : Inner). covers r key ≡ false) rows
FoundBy rows key (Some a) = IsGreatest rows key a

-- no two rows have one low fence
abbrev pub HaveOwnLows : List Inner → Type 0
HaveOwnLows [] = Unit {0}
HaveOwnLows (r ∷ rows) = (has_low rows r.low ≡ false) × HaveOwnLows rows
