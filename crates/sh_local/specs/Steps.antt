-- What each step on the table of cells tells: the number found, and the seat before and after.
use Rattle.std.specs.Prelude.{◌≡◌, ℕ, ◌+◌, ◌%◌, ◌^◌, ◌<◌, ◌==◌, Bool, true, false, Option, None, Some, List, [], ◌∷◌}
use Rattle.atomic_table.specs.Table.{Me, rest}
use Rattle.sh_local.specs.{declared.view.View.{View}, Calls.{held, drew, waited, turned, counted, gone}}

-- a fact of the value, where there is one
abbrev pub FitsIf : {T : Type 0} → (T → Type 0) → Option T → Type 0
FitsIf fits None = Unit {0}
FitsIf fits (Some x) = fits x

-- a draw: the word found is the ticket's
abbrev pub Draws : {T K : Type 0} → ℕ → View T K → ℕ → View T K → Type 0
Draws c v found w = (n : ℕ) × (found ≡ n % 2 ^ 64) × (w ≡ drew v c n)

-- a look: the ticket is served and what lies in the cell comes out to the seat, or another ticket is served
abbrev pub LooksIf : {T K : Type 0} → (K → ℕ → T → Type 0) → Bool → Me (Option T) (View T K) → ℕ → Me (Option T) (View T K) → Type 0
LooksIf {T} {K} fits true me found now = (o : Option T) × (now.0 ≡ turned me.0 o) × (now.1 ≡ ((held me.0).cell, o) ∷ me.1) × ((k : K) → me.0.key ≡ Some k → FitsIf (fits k (held me.0).cell) o)
LooksIf fits false me found now = (now.0 ≡ waited me.0 found) × (now.1 ≡ me.1)

abbrev pub Looks : {T K : Type 0} → (K → ℕ → T → Type 0) → Me (Option T) (View T K) → ℕ → Me (Option T) (View T K) → Type 0
Looks fits me found now = LooksIf fits (found == (held me.0).number % 2 ^ 64) me found now

-- a count: the word found is that of the next ticket to be drawn, and so many stand between the two
abbrev pub Counts : {T K : Type 0} → View T K → ℕ → View T K → Type 0
Counts v found w = (m : ℕ) × (m < 2 ^ 64) × (found ≡ ((held v).number + 1 + m) % 2 ^ 64) × (w ≡ counted v m)

-- what the seat has out
abbrev pub carried_right : {T : Type 0} → List (ℕ × Option T) → Option T
carried_right [] = None
carried_right (x ∷ xs) = x.1

-- a leave: what the seat has out goes back into its cell
abbrev pub LeavesQueue : {T K : Type 0} → Me (Option T) (View T K) → Me (Option T) (View T K) → Type 0
LeavesQueue me now = (now.0 ≡ gone me.0 (carried_right me.1)) × (now.1 ≡ rest me.1)
