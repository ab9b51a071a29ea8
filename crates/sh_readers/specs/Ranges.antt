-- What a range has gathered, leaf by leaf, and what it has behind a leaf.
use Rattle.std.specs.{Prelude.{◌≡◌, ◌⊎◌, ℕ, ◌+◌, ◌<◌, ◌≤◌, List, ◌++◌, length, map, All, AllPairs}, FinMap.{from_entries}}
use Rattle.sh_map.specs.{declared.{log.Entry.{Entry}, book.Row.{Row}}, Map.{get, row_pair}}
use Rattle.sh_image.specs.declared.leaf.LeafEntry.{LeafEntry}
use Rattle.sh_edit.specs.{Held.{held}, Ranging.{last_key, upto_of}}
use Rattle.sh_readers.specs.Points.{HadSince}

-- A range from low on has reached a place: its rows rise and lie in low..place, and each key of low..place has its row's
-- value, or nothing where it has no row, at a point of its own from first on.
pub record IsGathered (log : List Entry) (first low place : ℕ) (rows : List Row) : Type 0 where
  pub reached : low ≤ place
  pub rising : AllPairs (λ x y. x.key < y.key) rows
  pub within : All (λ x. (low ≤ x.key) × (x.key < place)) rows
  pub points : (key : ℕ) → low ≤ key → key < place → HadSince log first key (get (from_entries (map row_pair rows)) key)

-- of each key of low..high, the map had at a point what the leaf holds
abbrev pub HeldSince : List Entry → (first low high : ℕ) → List LeafEntry → Type 0
HeldSince log first low high es = (key : ℕ) → low ≤ key → key < high → HadSince log first key (held es key)

-- Rows that were taken of a leaf below a bound, behind others. With room left the range has reached the bound, and with
-- none the key behind its last row.
pub record IsTaken (log : List Entry) (first low bound room : ℕ) (rows more : List Row) : Type 0 where
  pub few : length more ≤ room
  pub short : length more < room → IsGathered log first low bound (rows ++ more)
  pub within : length more ≡ room → last_key (rows ++ more) + 1 ≤ bound
  pub full : length more ≡ room → IsGathered log first low (last_key (rows ++ more) + 1) (rows ++ more)

-- a range with so many rows at most is done: they answer it up to the bound that it answers
pub record IsDone (log : List Entry) (first low high most : ℕ) (rows : List Row) : Type 0 where
  pub within : upto_of most high rows ≤ high
  pub gathered : IsGathered log first low (upto_of most high rows) rows

-- A range behind a leaf. Where its bound is above the leaf's high fence, and it has room left, it has reached that fence
-- and goes on; else it's done.
pub record IsBehind (log : List Entry) (first low leaf_high high most : ℕ) (rows : List Row) : Type 0 where
  pub few : length rows ≤ most
  pub on : leaf_high < high → length rows < most → IsGathered log first low leaf_high rows
  pub done : (high ≤ leaf_high) ⊎ (most ≤ length rows) → IsDone log first low high most rows
