-- Counts stay below the number of calls that were counted.
use Rattle.std.{proofs.Common.{ℕ, ◌≤◌}}
use Rattle.sh_text.specs.{declared.counts.Counts.{Counts}}

-- no count is above n
pub record AreFew (n : ℕ) (c : Counts) : Type 0 where
  pub some : c.some ≤ n
  pub none : c.none ≤ n
  pub rows : c.rows ≤ n
  pub part : c.part ≤ n
  pub full : c.full ≤ n
  pub worn : c.worn ≤ n
