-- What two acts of one turn leave to the others together.
use Rattle.std.specs.Prelude.{◌≡◌, ℕ}
use Rattle.sh_state.specs.{TreeState.{TreeState, writing}, Change.{Change}}
use Rattle.sh_base.specs.declared.config.ConfigParts.{ConfigParts}

-- ---- acts join
abbrev pub NothingIsChange : ConfigParts → Type 0
NothingIsChange p = (s : TreeState) (seat : ℕ) → Change p seat s s

abbrev pub JoinsAfter : ConfigParts → Type 0
JoinsAfter p = (s t u : TreeState) (seat : ℕ) → Change p seat s t → Change p seat t u → ((n : ℕ) → u.node n ≡ t.node n) → ((n : ℕ) → writing p u n ≡ writing p t n) → Change p seat s u

abbrev pub JoinsBefore : ConfigParts → Type 0
JoinsBefore p = (s t u : TreeState) (seat : ℕ) → Change p seat s t → Change p seat t u → ((n : ℕ) → t.node n ≡ s.node n) → ((n : ℕ) → writing p t n ≡ writing p s n) → Change p seat s u
