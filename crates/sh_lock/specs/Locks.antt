-- How a lock is taken, and how it is given up.
use Rattle.std.specs.Prelude.{ℕ, ◌+◌, ◌==◌, ◌||◌, if◌then◌else◌}
use Rattle.sh_base.specs.{declared.{config.ConfigParts.{ConfigParts}, event.Event.{Event, TheVariants.{Exchange}}}, Layout.{lock_word, compute_of}}
use Rattle.sh_lock.specs.declared.state.{Grab.{Grab}, Release.{Release, TheVariants.{Hand, Free}}}

-- the exchange that takes a free lock for a seat: the lock word then holds its compute server's number plus 1
abbrev pub grab_of : ConfigParts → (lock seat : ℕ) → Event
grab_of p lock seat = Exchange (lock_word p lock) 0 (compute_of p seat + 1)

-- the exchange that a grab makes, again and again
abbrev pub event_of : Grab → Event
event_of grab = Exchange grab.at 0 grab.owner

-- a lock goes free where nobody waits, and at the bound; else it is handed over
abbrev pub release_of : (waiting depth bound : ℕ) → Release
release_of waiting depth bound = if (waiting == 0) || (depth == bound) then Free else Hand
