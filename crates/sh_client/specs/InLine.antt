-- Where a client stands in the ticket lines of locks.
use Rattle.std.specs.Prelude.{◌≡◌, ◌⊎◌, ℕ, zero, suc, Bool, true, false, Option, None, Some}
use Rattle.sh_base.specs.{declared.config.ConfigParts.{ConfigParts}, Layout.{lock_of}}
use Rattle.sh_client.specs.declared.state.{Need.{Need, TheVariants.{ToSplit, ToGrow}}, Filling.{Filling, TheVariants.{RightHalf, NewRoot}}, Phase.{Phase}}
use Rattle.sh_client.specs.{declared.state.Phase.TheVariants.{Look, Grab, ReadLocked, Seek, Fill, Waiting, Body, Unlock, Leave}, Machine.{Machine, Registers}}

-- In no line; in the line of a lock with its ticket not served yet, as far as it knows; or with its turn in the line, from
-- which it is to hand the lock over or isn't.
pub data Stand : Type 0 where
  Away : Stand
  Waits : (lock : ℕ) → Stand
  Served : (lock : ℕ) (hands : Bool) → Stand

abbrev pub is_some : Option ℕ → Bool
is_some None = false
is_some (Some n) = true

abbrev pub stand_for_need : ConfigParts → Registers → Need → Stand
stand_for_need p r (ToSplit aim depth) = Served (lock_of p r.reads.node) false
stand_for_need p r (ToGrow posting root) = Away

abbrev pub stand_for_filling : ConfigParts → Filling → Stand
stand_for_filling p (RightHalf depth giving) = Served (lock_of p giving.node) false
stand_for_filling p (NewRoot posting root) = Away

abbrev pub stand_in : ConfigParts → Registers → Phase → Stand
stand_in p r (Look aim node) = Waits (lock_of p node)
stand_in p r (Grab aim node) = Served (lock_of p node) false
stand_in p r (ReadLocked aim depth) = Served (lock_of p r.reads.node) false
stand_in p r (Seek need) = stand_for_need p r need
stand_in p r (Fill fresh done filling) = stand_for_filling p filling
stand_in p r (Waiting depth giving) = Served (lock_of p giving.node) false
stand_in p r (Body carry done giving) = Served (lock_of p giving.node) (is_some carry)
stand_in p r (Unlock node after) = Served (lock_of p node) false
stand_in p r (Leave node carry after) = Served (lock_of p node) (is_some carry)
stand_in p r phase = Away

abbrev pub stand_of : Machine → Stand
stand_of m = stand_in m.setting m.registers m.phase

-- it stands in the line of this lock
abbrev pub IsIn : (lock : ℕ) → Stand → Type 0
IsIn lock Away = ⊥
IsIn lock (Waits l) = l ≡ lock
IsIn lock (Served l hands) = l ≡ lock

-- and has its turn there
abbrev pub HasTurn : (lock : ℕ) → Stand → Type 0
HasTurn lock (Served l hands) = l ≡ lock
HasTurn lock stand = ⊥

-- and is to hand the lock over
abbrev pub WillHand : (lock : ℕ) → Stand → Type 0
WillHand lock (Served l hands) = (l ≡ lock) × (hands ≡ true)
WillHand lock stand = ⊥

-- a client that has counted is to hand over only where another ticket was drawn
abbrev pub MayHand : (lock count : ℕ) → Stand → Type 0
MayHand lock zero k = k ≡ Served lock false
MayHand lock (suc count) k = (k ≡ Served lock false) ⊎ (k ≡ Served lock true)
