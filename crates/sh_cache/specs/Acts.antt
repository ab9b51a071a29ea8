-- Keeps and forgets, one after another, and what rows they leave.
use Rattle.std.specs.{Prelude.{◌≡◌, ◌≢◌, ℕ, List, [], ◌∷◌, ◌++◌}, List.{AllByRecursion}}
use Rattle.sh_image.specs.Inner.{Inner}
use Rattle.sh_cache.specs.Cached.{forgotten, kept}

pub data Act : Type 0 where
  Keep : (row : Inner) → Act
  Forget : (low : ℕ) → Act

abbrev pub after_act : (room : ℕ) → List Inner → Act → List Inner
after_act room rows (Keep a) = kept room rows a
after_act room rows (Forget low) = forgotten rows low

-- the rows after acts, the first one first
abbrev pub rows_after : (room : ℕ) → List Inner → List Act → List Inner
rows_after room rows [] = rows
rows_after room rows (act ∷ acts) = rows_after room (after_act room rows act) acts

-- the act is about another low fence
abbrev pub LeavesRow : (low : ℕ) → Act → Type 0
LeavesRow low (Keep a) = a.low ≢ low
LeavesRow low (Forget gone) = gone ≢ low

-- The row was kept, and has been neither forgotten nor replaced since: no later act is about its low fence.
pub record StillKept (acts : List Act) (a : Inner) : Type 0 where
  pub before : List Act
  pub behind : List Act
  pub whole : acts ≡ before ++ Keep a ∷ behind
  pub left : AllByRecursion (LeavesRow a.low) behind
