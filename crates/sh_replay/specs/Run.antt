-- Events that were made one after another.
use Rattle.std.specs.Prelude.{◌≡◌, ℕ, List, [], ◌∷◌}
use Rattle.sh_base.specs.Memory.{apply, found_by}
use Rattle.sh_replay.specs.Course.{SeatEvent}

-- Made on these words in their order, each event finds the word that is said; and these words are left.
abbrev pub IsRun : (words : List ℕ) → List SeatEvent → (after : List ℕ) → Type 0
IsRun words [] after = after ≡ words
IsRun words (e ∷ es) after = (e.found ≡ found_by words e.event) × IsRun (apply words e.event) es after
