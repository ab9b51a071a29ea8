-- Lists of node numbers.
use Rattle.std.specs.Prelude.{◌≡◌, ℕ, ◌+◌, ◌<◌, ◌==◌, if◌then◌else◌, Bool, true, false, List, [], ◌∷◌, length, slice_index}
use Rattle.sh_base.specs.{declared.config.ConfigParts.{ConfigParts}, Setting.{IsNode}}

-- the first, or 0 where there is none
abbrev pub first_of : List ℕ → ℕ
first_of [] = 0
first_of (n ∷ ns) = n

-- whether a number is in the list
abbrev pub is_in : List ℕ → ℕ → Bool
is_in [] n = false
is_in (m ∷ ns) n = if m == n then true else is_in ns n

-- how many of some numbers aren't in the list `named`
abbrev pub outside : (named : List ℕ) → List ℕ → ℕ
outside named [] = 0
outside named (n ∷ ns) = if is_in named n then outside named ns else outside named ns + 1

-- no number stands twice
abbrev pub AreDifferent : List ℕ → Type 0
AreDifferent [] = Unit {0}
AreDifferent (n ∷ ns) = (is_in ns n ≡ false) × AreDifferent ns

-- the numbers are nodes of the setting
abbrev pub AreNodes : ConfigParts → List ℕ → Type 0
AreNodes p nodes = (i : ℕ) → i < length nodes → IsNode p (slice_index nodes i)
