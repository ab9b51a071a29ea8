-- A log of changes, and the map that it makes.
use Rattle.std.specs.{Prelude.{◌≡◌, ℕ, List, [], ◌∷◌, take, Option, Some, None, IsSome}, FinMap.{empty}}
use Rattle.sh_map.specs.{declared.log.{Change.{Change, TheVariants.{Put, Del}}, Entry.{Entry}}, Map.{Map, get, put, del}}

abbrev pub change_key : Change → ℕ
change_key (Put key value) = key
change_key (Del key) = key

-- what a change leaves at its key
abbrev pub left_value : Change → Option (List ℕ)
left_value (Put key value) = Some value
left_value (Del key) = None

-- the map after a change
abbrev pub changed : Map → Change → Map
changed m (Put key value) = put m key value
changed m (Del key) = del m key

-- the map that the changes make of a map
abbrev pub map_from : Map → List Entry → Map
map_from m [] = m
map_from m (e ∷ log) = map_from (changed m e.change) log

-- the map of a log: its changes over the empty map
abbrev pub map_of : List Entry → Map
map_of log = map_from empty log

-- the map of the first p entries
abbrev pub map_at : List Entry → ℕ → Map
map_at log p = map_of (take p log)

-- a delete removed something
abbrev pub HasOld : Change → Option (List ℕ) → Type 0
HasOld (Put key value) old = Unit {0}
HasOld (Del key) old = IsSome old

-- an entry that may come next: its old value is what the map has at its key
abbrev pub IsNext : Map → Entry → Type 0
IsNext m e = (e.old ≡ get m (change_key e.change)) × HasOld e.change e.old

abbrev pub IsLegalFrom : Map → List Entry → Type 0
IsLegalFrom m [] = Unit {0}
IsLegalFrom m (e ∷ log) = IsNext m e × IsLegalFrom (changed m e.change) log

-- each entry fits the map of the entries before it
abbrev pub IsLegal : List Entry → Type 0
IsLegal log = IsLegalFrom empty log
