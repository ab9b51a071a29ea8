-- The steps of a verb: which word each loads or stores.
use Rattle.std.specs.Prelude.{◌≡◌, ℕ, ◌+◌, ◌-◌, ◌<◌, ◌≤◌, if◌then◌else◌, nat_lt, Bool, true, false, Option, Some, None}
use Rattle.sh_base.specs.{declared.{config.ConfigParts.{ConfigParts}, plan.{Place.{Place, TheVariants.{Body, Lock}}, ReadPlan.{ReadPlan}, WritePlan.{WritePlan}}}, Setting.{all_locks, node_size}}
use Rattle.sh_base.specs.{Layout.{node_word, lock_of, lock_word}, Places.{Node, Lock as LockSite, address}}

-- a READ of a node: as many steps as the node has words
abbrev pub IsReadOf : ConfigParts → ℕ → ReadPlan → Type 0
IsReadOf p n plan = (plan.first ≡ node_word p n) × (plan.count ≡ node_size p)

abbrev pub read_steps : ReadPlan → ℕ
read_steps plan = plan.count

-- the address that a step of a READ loads: from the node's last word down to its first
abbrev pub read_at : ReadPlan → ℕ → ℕ
read_at plan step = plan.first + (plan.count - 1 - step)

-- the lock word that a WRITE ends with, where it gives the lock back
abbrev pub unlocked_word : ConfigParts → ℕ → Bool → Option ℕ
unlocked_word p n true = Some (lock_word p (lock_of p n))
unlocked_word p n false = None

-- A WRITE of count words of node n, from an offset on.
abbrev pub IsWriteOf : ConfigParts → ℕ → (offset count : ℕ) → (unlock : Bool) → WritePlan → Type 0
IsWriteOf p n offset count unlock plan = (plan.first ≡ node_word p n) × (plan.offset ≡ offset) × (plan.count ≡ count) × (plan.lock ≡ unlocked_word p n unlock)

-- the store of 0 to a lock word alone
abbrev pub IsUnlockOf : ConfigParts → ℕ → WritePlan → Type 0
IsUnlockOf p lock plan = (plan.count ≡ 0) × (plan.lock ≡ Some (lock_word p lock))

-- how many steps a WRITE of count words has
abbrev pub steps_with : ℕ → Option ℕ → ℕ
steps_with count None = count
steps_with count (Some lock) = count + 1

abbrev pub write_steps : WritePlan → ℕ
write_steps plan = steps_with plan.count plan.lock

-- What a step stores to: the words of the node from the offset on, rising, and then the lock word.
abbrev pub rising : (first offset count : ℕ) → Option ℕ → ℕ → Place
rising first offset count None step = Body (first + (offset + step)) (offset + step)
rising first offset count (Some lock) step = if nat_lt step count then Body (first + (offset + step)) (offset + step) else Lock lock

abbrev pub place_of : WritePlan → ℕ → Place
place_of plan step = rising plan.first plan.offset plan.count plan.lock step

-- A READ loads its node's words alone, each once, from the last down to the first.
abbrev pub FallsOver : ConfigParts → ℕ → ReadPlan → Type 0
FallsOver p n plan = (step : ℕ) → step < read_steps plan → (node_size p - 1 - step < node_size p) × (read_at plan step ≡ address p (Node n (node_size p - 1 - step)))

-- A WRITE stores the count words of its node from the offset on alone, each once, rising, and its lock word last.
pub record RisesOver (p : ConfigParts) (n offset count : ℕ) (plan : WritePlan) : Type 0 where
  pub body : (step : ℕ) → step < count → (offset + step < node_size p) × (place_of plan step ≡ Body (address p (Node n (offset + step))) (offset + step))
  pub last : (step : ℕ) → count ≤ step → step < write_steps plan → (lock_of p n < all_locks p) × (place_of plan step ≡ Lock (address p (LockSite (lock_of p n))))
