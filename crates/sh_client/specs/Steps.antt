-- A step inside a verb, or an exchange on a lock that is taken: the event that a client wants, which it makes itself.
use Rattle.std.specs.Prelude.{◌≡◌, ℕ, ◌+◌, ◌<◌, ◌==◌, not, nat_lt, Bool, true, false, List, [], length, slice_index, Option, Some, None}
use Rattle.sh_base.specs.{declared.event.Event.TheVariants.{Load, Store}, Layout.{lock_of}, Memory.{apply, at_of, found_by}, Setting.{node_size, pool_words}}
use Rattle.sh_client.specs.{declared.state.{Phase.{Phase, TheVariants.{Read, Look, Grab, ReadLocked, Fill, Body}}, Step.{Step}}, Feeds.{fed_by}, Giving.{makes}, Machine.{Machine}, Rests.{is_resting}}
use Rattle.sh_client.specs.Wants.{lock_word_of, want_of}
use Rattle.sh_client.specs.declared.state.Want.TheVariants as want

-- it READs, and more than one word is left to load
abbrev pub loads_in : Machine → Phase → Bool
loads_in m (Read aim top) = nat_lt (length m.registers.reads.loaded + 1) (node_size m.setting)
loads_in m (ReadLocked aim depth) = nat_lt (length m.registers.reads.loaded + 1) (node_size m.setting)
loads_in m phase = false

abbrev pub is_loading : Machine → Bool
is_loading m = loads_in m m.phase

-- it WRITEs, and more than one word is left to store
abbrev pub stores_in : Machine → Phase → Bool
stores_in m (Fill fresh done filling) = nat_lt (done + 1) (node_size m.setting)
stores_in m (Body carry done giving) = nat_lt (done + 1) (length m.registers.body)
stores_in m phase = false

abbrev pub is_storing : Machine → Bool
is_storing m = stores_in m m.phase

-- or it wants a lock that is taken
abbrev pub steps_in : (words : List ℕ) → Machine → Phase → Bool
steps_in words m (Grab aim node) = not (slice_index words (lock_word_of m.setting node) == 0)
steps_in words m phase = stores_in m phase

abbrev pub is_inside : (words : List ℕ) → Machine → Bool
is_inside words m = steps_in words m m.phase

-- the wanted load of a READ, which isn't its last one
pub record IsNextLoad (m : Machine) (at : ℕ) : Type 0 where
  pub event : want_of m ≡ want.Event (Load at)
  pub within : at < pool_words m.setting
  pub loading : is_loading m ≡ true

-- there is one, or the wanted turn is another
abbrev pub HasNextLoad : Machine → Option ℕ → Type 0
HasNextLoad m (Some at) = IsNextLoad m at
HasNextLoad m None = is_loading m ≡ false

-- the wanted store of a WRITE, which isn't its last one: its address and its word
pub record IsNextStore (m : Machine) (store : ℕ × ℕ) : Type 0 where
  pub event : want_of m ≡ want.Event (Store store.0 store.1)
  pub within : store.0 < pool_words m.setting
  pub storing : is_storing m ≡ true

-- there is one, or the wanted turn is another
abbrev pub HasNextStore : Machine → Option (ℕ × ℕ) → Type 0
HasNextStore m (Some store) = IsNextStore m store
HasNextStore m None = is_storing m ≡ false

-- The client was fed what the wanted event found. It logs nothing, and the call goes on.
pub record StepGoesOn (old new : Machine) (found : ℕ) : Type 0 where
  pub fed : new ≡ fed_by old found
  pub log : makes old ≡ []
  pub busy : is_resting new ≡ false

-- The wanted event was made, and the client was fed what it found. It logs nothing, and the call goes on.
pub record IsStep (before after : List ℕ) (old new : Machine) (s : Step) : Type 0 where
  pub event : want_of old ≡ want.Event s.event
  pub within : at_of s.event < pool_words old.setting
  pub found : s.found ≡ found_by before s.event
  pub words : after ≡ apply before s.event
  pub fed : new ≡ fed_by old s.found
  pub log : makes old ≡ []
  pub busy : is_resting new ≡ false

-- A load was made; or nothing was done, since the wanted turn is none.
abbrev pub HasLoaded : (words : List ℕ) (old new : Machine) → Option Step → Type 0
HasLoaded words old new (Some s) = IsStep words words old new s × (is_loading old ≡ true)
HasLoaded words old new None = (new ≡ old) × (is_loading old ≡ false)

-- A store was made; or nothing was done, since the wanted turn is none.
abbrev pub HasStored : (before after : List ℕ) (old new : Machine) → Option Step → Type 0
HasStored before after old new (Some s) = IsStep before after old new s × (is_storing old ≡ true)
HasStored before after old new None = (new ≡ old) × (after ≡ before) × (is_storing old ≡ false)

-- A store or an exchange was made; or nothing was done, since the wanted turn is none.
abbrev pub HasStepped : (before after : List ℕ) (old new : Machine) → Option Step → Type 0
HasStepped before after old new (Some s) = IsStep before after old new s × (is_inside before old ≡ true)
HasStepped before after old new None = (new ≡ old) × (after ≡ before) × (is_inside before old ≡ false)

-- the lock for whose ticket it looks
abbrev pub looks_in : Machine → Phase → Option ℕ
looks_in m (Look aim node) = Some (lock_of m.setting node)
looks_in m phase = None

abbrev pub looks_of : Machine → Option ℕ
looks_of m = looks_in m m.phase
