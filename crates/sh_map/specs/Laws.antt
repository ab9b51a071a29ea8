-- What laws of logs and books speak of.
use Rattle.std.specs.Prelude.{◌≡◌, ◌≢◌, ℕ, ◌+◌, ◌<◌, ◌==◌, ◌&&◌, if◌then◌else◌, List, [], ◌∷◌, slice_get, Some}
use Rattle.sh_map.specs.{declared.{log.Entry.{Entry}, book.Done.{Done}}, Log.{change_key}, Book.{made}}

-- the entry at place i is the last of its key
pub record IsLastOfKey (log : List Entry) (key i : ℕ) (e : Entry) : Type 0 where
  pub here : slice_get log i ≡ Some e
  pub of_key : change_key e.change ≡ key
  pub last : (j : ℕ) (f : Entry) → i < j → slice_get log j ≡ Some f → change_key f.change ≢ key

abbrev pub HasNoEntry : List Entry → ℕ → Type 0
HasNoEntry log key = (j : ℕ) (f : Entry) → slice_get log j ≡ Some f → change_key f.change ≢ key

-- the places of a seat's entries, counted from n
abbrev pub places_of : ℕ → ℕ → List Entry → List ℕ
places_of seat n [] = []
places_of seat n (e ∷ log) = if e.seat == seat then n ∷ places_of seat (n + 1) log else places_of seat (n + 1) log

-- the points of a seat's calls that made an entry, in their order
abbrev pub updates_of : ℕ → List Done → List ℕ
updates_of seat [] = []
updates_of seat (d ∷ dones) = if (d.seat == seat) && (made d.call d.reply == 1) then d.point ∷ updates_of seat dones else updates_of seat dones
