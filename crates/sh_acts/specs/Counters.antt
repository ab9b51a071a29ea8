-- How far a server's counter may pass its limit: seats raise it that found it below.
use Rattle.std.specs.Prelude.{◌≡◌, ℕ, zero, suc, ◌+◌, ◌≤◌, Bool, true, false, List, [], ◌∷◌, ◌⊎◌}

abbrev pub one_where : Bool → ℕ
one_where true = 1
one_where false = 0

-- how many of the first k seats it holds of
abbrev pub count : ℕ → (ℕ → Bool) → ℕ
count zero f = 0
count (suc k) f = one_where (f k) + count k f

-- the seat is among these
abbrev pub IsAmong : ℕ → List ℕ → Type 0
IsAmong seat [] = ⊥
IsAmong seat (x ∷ xs) = (seat ≡ x) ⊎ IsAmong seat xs

-- Some seats found the counter below the limit and are to raise it. Those that are late raised it at the limit or above
-- it; none of them is to raise it again, since it would find it spent.
pub record Bounded (limit seats counter : ℕ) (Wants : ℕ → Type 0) : Type 0 where
  pub late : ℕ → Bool
  pub bound : counter ≤ limit + count seats late
  pub done : (i : ℕ) → late i ≡ true → Wants i → ⊥
  pub reached : (i : ℕ) → late i ≡ true → limit ≤ counter
