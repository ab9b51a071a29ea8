-- The actors as a list, and the rights that are out.
use Rattle.std.specs.Prelude.{◌≡◌, ◌⊎◌, ℕ, ◌==◌, if◌then◌else◌, List, [], ◌∷◌, slice_get, Some}
use Rattle.sh_base.specs.declared.config.ConfigParts.{ConfigParts}
use Rattle.sh_map.specs.declared.log.Entry.{Entry as LogEntry}
use Rattle.sh_core.specs.{Actors.{Actor}, Core.{Inv}}

-- the seats from 0 on have these actors
abbrev pub HasAt : List Actor → (seat : ℕ) → Actor → Type 0
HasAt actors seat a = slice_get actors seat ≡ Some a

-- a right: to this lock, for the seats of this compute server, handed over so often
pub record RightOut : Type 0 where
  pub lock : ℕ
  pub compute : ℕ
  pub depth : ℕ

-- one of the rights is this one
abbrev pub OutAt : List RightOut → (lock compute depth : ℕ) → Type 0
OutAt [] lock compute depth = ⊥
OutAt (r ∷ rights) lock compute depth = ((r.lock ≡ lock) × (r.compute ≡ compute) × (r.depth ≡ depth)) ⊎ OutAt rights lock compute depth

-- the rights to other locks
abbrev pub without : (lock : ℕ) → List RightOut → List RightOut
without lock [] = []
without lock (r ∷ rights) = if r.lock == lock then without lock rights else r ∷ without lock rights

-- the invariant with these actors and rights
abbrev pub IsKept : ConfigParts → (words : List ℕ) → (log : List LogEntry) → List Actor → List RightOut → Type 0
IsKept p words log actors rights = Inv p words log (HasAt actors) (OutAt rights)
