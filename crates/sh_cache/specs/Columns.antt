-- A cache in columns: the fences of its rows in the order of their age, the slots where their images lie, and the
-- images.
use Rattle.std.specs.Prelude.{◌≡◌, ◌≢◌, ℕ, ◌<◌, ◌≤◌, ◌&&◌, if◌then◌else◌, nat_le, nat_lt, Bool, true, Some, None, List, [], map, length, slice_index, slice_index_or, drop, take, AllPairs, Option, IfSome, option_map}
use Rattle.std.specs.List.{All, AllByRecursion}
use Rattle.sh_image.specs.Inner.{Inner}
use Rattle.sh_cache.specs.Cached.{found, HaveOwnLows}

-- what stands for a row that isn't there
abbrev pub no_row : Inner
no_row = record { version = 0; level = 0; low = 0; high = 0; next = 0; pairs = [] }

abbrev pub row_in : List Inner → ℕ → Inner
row_in rows i = slice_index_or rows i no_row

abbrev pub lows_of : List Inner → List ℕ
lows_of rows = map (λ (r : Inner). r.low) rows

abbrev pub highs_of : List Inner → List ℕ
highs_of rows = map (λ (r : Inner). r.high) rows

-- the rows, without the oldest one where there is no room left
abbrev pub with_room : ℕ → List Inner → List Inner
with_room room rows = if nat_lt (length rows) room then rows else drop 1 rows

-- the images in the first slots, count of them
unfoldable pub rows_in : List Inner → List ℕ → ℕ → List Inner
rows_in images slots count = map (row_in images) (take count slots)

-- the numbers from 0 on, count of them
pub record AreNumbers (count : ℕ) (xs : List ℕ) : Type 0 where
  pub length : length xs ≡ count
  pub each : (i : ℕ) → i < count → slice_index xs i ≡ i

-- there are as many slots as numbers below a limit, each is such a number, and no two are one
pub record AreSlots (room : ℕ) (slots : List ℕ) : Type 0 where
  pub count : length slots ≡ room
  pub within : All (λ slot. slot < room) slots
  pub apart : AllPairs (λ a b. a ≢ b) slots

-- the fences of these rows, of which no two have one low fence, and each is of level 1
pub record AreColumns (lows highs : List ℕ) (rows : List Inner) : Type 0 where
  pub low_fences : lows ≡ lows_of rows
  pub high_fences : highs ≡ highs_of rows
  pub apart : HaveOwnLows rows
  pub levels : AllByRecursion (λ (r : Inner). r.level ≡ 1) rows

-- there is room for the fences, all of it reserved, an image lies in each slot, and the columns are those of the rows
pub record IsCache (room room_lows room_highs : ℕ) (lows highs slots : List ℕ) (images : List Inner) : Type 0 where
  pub reserved : (room ≤ room_lows) × (room ≤ room_highs)
  pub within : length lows ≤ room
  pub named : AreSlots room slots
  pub filled : length images ≡ room
  pub columns : AreColumns lows highs (rows_in images slots (length lows))

-- whether the fences at a place cover the key
abbrev pub covers_at : (lows highs : List ℕ) (key at : ℕ) → Bool
covers_at lows highs key at = nat_le (slice_index lows at) key && nat_lt key (slice_index highs at)

-- whether the low fence at a place is above the one at the best place
abbrev pub is_above_at : List ℕ → Option ℕ → ℕ → Bool
is_above_at lows None at = true
is_above_at lows (Some best) at = nat_lt (slice_index lows best) (slice_index lows at)

-- the better of two places for a key: this one where its fences cover the key and its low fence is above the best one's
abbrev pub better_place : (lows highs : List ℕ) (key : ℕ) → Option ℕ → ℕ → Option ℕ
better_place lows highs key best at = if covers_at lows highs key at && is_above_at lows best at then Some at else best

-- with these fences: of any rows that have them, the one at the place is found for the key
pub record IsFoundAt (lows highs : List ℕ) (key : ℕ) (place : Option ℕ) : Type 0 where
  pub in_range : IfSome place (λ at. at < length lows)
  pub row : (rows : List Inner) → lows ≡ lows_of rows → highs ≡ highs_of rows → option_map (row_in rows) place ≡ found rows key
