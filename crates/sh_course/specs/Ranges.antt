-- What a range took of the leaves that its course READ, and where it ended.
use Rattle.std.specs.Prelude.{◌≡◌, ◌⊎◌, ℕ, ◌+◌, ◌-◌, ◌<◌, ◌≤◌, List, [], ◌∷◌, ◌++◌, length}
use Rattle.sh_base.specs.declared.config.ConfigParts.{ConfigParts}
use Rattle.sh_map.specs.declared.book.Row.{Row}
use Rattle.sh_image.specs.Leaf.{Leaf, Spells}
use Rattle.sh_edit.specs.Ranging.{end_in, last_key, taken as taken_of}
use Rattle.sh_course.specs.{Turns.{Taken}, Found.{HasRun}}

-- where a range goes on behind these leaves, the last one first
abbrev pub place_behind : (low : ℕ) → List Leaf → ℕ
place_behind low [] = low
place_behind low (a ∷ leaves) = a.high

-- the rows that it takes of them: of each those from the place that was reached on, as many as there is room for
abbrev pub rows_of_leaves : ConfigParts → (low high : ℕ) → List Leaf → List Row
rows_of_leaves p low high [] = []
rows_of_leaves p low high (a ∷ leaves) =
    let rows = rows_of_leaves p low high leaves in
    rows ++ taken_of a.entries (end_in a.high high) (p.rows - length rows) (place_behind low leaves)

-- a leaf that covers the place was READ
pub record HasLeaf (p : ConfigParts) (turns : List Taken) (a : Leaf) (place : ℕ) : Type 0 where
  pub node : ℕ
  pub words : List ℕ
  pub before : List Taken
  pub since : List Taken
  pub run : HasRun p turns node words before since
  pub spells : Spells p words a
  pub low : a.low ≤ place
  pub high : place < a.high

-- these leaves were READ, each of which covers the place that the range had come to
abbrev pub AreRead : ConfigParts → (low : ℕ) → List Taken → List Leaf → Type 0
AreRead p low turns [] = Unit {0}
AreRead p low turns (a ∷ leaves) = HasLeaf p turns a (place_behind low leaves) × AreRead p low turns leaves

-- A range from low up to high took these rows of the leaves that it READ. It ended where its buffer was full, or where a leaf
-- reached up to high. It answers high, but the key behind the last row's where the buffer was full and that key is below high.
pub record FoundRows (p : ConfigParts) (low high : ℕ) (turns : List Taken) (rows : List Row) (upto : ℕ) : Type 0 where
  pub leaves : List Leaf
  pub read : AreRead p low turns leaves
  pub rows_are : rows ≡ rows_of_leaves p low high leaves
  pub ends : (length rows ≡ p.rows) ⊎ (high ≤ place_behind low leaves)
  pub early : upto < high → (length rows ≡ p.rows) × (upto ≡ last_key rows + 1)
  pub full : length rows ≡ p.rows → last_key rows + 1 < high → upto ≡ last_key rows + 1
  pub within : upto ≤ high
