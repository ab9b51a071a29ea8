-- The works of seats, each in a thread of its own or held by the caller.
use Rattle.std.specs.Prelude.{◌≡◌, ℕ, suc, List, [], ◌∷◌}
use Rattle.sh_base.specs.Parts.{parts_of}
use Rattle.sh_fleet.specs.{declared.{work.{Floor.{Floor}, Work.{Work}}, threads.{Task.{Task, TheVariants.{Running, Held}}}}, Sharing.{IsWork}}

-- the work of a seat on this floor
abbrev pub IsWorkOn : Floor → (seat : ℕ) → Work → Type 0
IsWorkOn f seat w = IsWork (parts_of f.cfg.now) f.pool.now.laid f.items.now seat w

-- the seat's thread gives its work back, or the caller holds it
abbrev pub IsTask : Floor → (seat : ℕ) → Task → Type 0
IsTask f seat (Running handle) = (handle.promise.floor ≡ f) × (handle.promise.seat ≡ seat)
IsTask f seat (Held work) = IsWorkOn f seat work

-- the tasks of all seats, in rising order
abbrev pub AreTasks : Floor → (seat : ℕ) → List Task → Type 0
AreTasks f seat [] = Unit {0}
AreTasks f seat (t ∷ ts) = IsTask f seat t × AreTasks f (suc seat) ts
