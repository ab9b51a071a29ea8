-- An inner node with one pair more, its two halves, and the root above two nodes.
use Rattle.std.specs.{Prelude.{◌≢◌, ℕ, ◌+◌, ◌-◌, ◌^◌, ◌<◌, ◌≤◌, if◌then◌else◌, nat_lt, List, [], ◌∷◌, length, take, drop}, List.{AllByRecursion}}
use Rattle.sh_base.specs.declared.config.ConfigParts.{ConfigParts}
use Rattle.sh_image.specs.{declared.inner.Pair.{Pair}, Inner.{Inner, HasChild, separator_at}}

-- the pairs with one more, behind those whose separators are less
abbrev pub pairs_with : List Pair → Pair → List Pair
pairs_with [] new = new ∷ []
pairs_with (x ∷ xs) new = if nat_lt x.separator new.separator then x ∷ pairs_with xs new else new ∷ x ∷ xs

-- the node with the pair added and the version raised by one
abbrev pub with_pair : Inner → Pair → Inner
with_pair a new = record { version = a.version + 1; level = a.level; low = a.low; high = a.high; next = a.next; pairs = pairs_with a.pairs new }

-- the least separator that goes right, where count pairs go left
abbrev pub middle_of : ℕ → List Pair → Pair → ℕ
middle_of count pairs new = separator_at (pairs_with pairs new) count

-- the left half, with count pairs, which leads to the right one
abbrev pub left_inner : ℕ → Inner → Pair → ℕ → Inner
left_inner count a new right = record { version = a.version + 1; level = a.level; low = a.low; high = middle_of count a.pairs new; next = right; pairs = take count (pairs_with a.pairs new) }

-- the right half, a fresh node
abbrev pub right_inner : ℕ → Inner → Pair → Inner
right_inner count a new = record { version = 0; level = a.level; low = middle_of count a.pairs new; high = a.high; next = a.next; pairs = drop count (pairs_with a.pairs new) }

-- the root above two nodes that meet at a separator
abbrev pub root_over : ℕ → ℕ → ℕ → ℕ → Inner
root_over level left separator right = record { version = 0; level = level; low = 0; high = 2 ^ 64 - 1; next = 0; pairs = record { separator = 0; child = left } ∷ record { separator = separator; child = right } ∷ [] }

-- where a pair with the separator goes: behind those with lesser ones
pub record IsGapAt (pairs : List Pair) (separator at : ℕ) : Type 0 where
  pub within : at ≤ length pairs
  pub before : (i : ℕ) → i < at → separator_at pairs i < separator
  pub after : at < length pairs → separator ≤ separator_at pairs at

-- no pair has the separator
abbrev pub IsNewSeparator : List Pair → ℕ → Type 0
IsNewSeparator pairs separator = AllByRecursion (λ (x : Pair). x.separator ≢ separator) pairs

-- a pair that may be added to an inner node: its separator is new and lies between the fences, and it has a child
pub record IsAddable (p : ConfigParts) (a : Inner) (new : Pair) : Type 0 where
  pub fresh : IsNewSeparator a.pairs new.separator
  pub low : a.low ≤ new.separator
  pub high : new.separator < a.high
  pub child : HasChild p new
