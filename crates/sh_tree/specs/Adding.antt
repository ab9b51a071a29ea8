-- What it is to add the pairs of entries to a map.
use Rattle.std.specs.{Prelude.{◌≡◌, ℕ, List, ◌++◌}, FinMap.{from_entries}}
use Rattle.sh_map.specs.Map.{Map}
use Rattle.sh_image.specs.declared.leaf.LeafEntry.{LeafEntry}
use Rattle.sh_edit.specs.Held.{pairs_of}

-- the pairs of the entries that aren't empty stand before whatever pairs made the map
abbrev pub Adds : Map → List LeafEntry → Map → Type 0
Adds old entries new = (pairs : List (ℕ × List ℕ)) → old ≡ from_entries pairs → new ≡ from_entries (pairs_of entries ++ pairs)
