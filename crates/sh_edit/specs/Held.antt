-- What a leaf's entries hold: they are unsorted, and some are empty.
use Rattle.std.specs.{Prelude.{◌≡◌, ℕ, ◌<◌, ◌==◌, if◌then◌else◌, Bool, true, false, List, [], ◌∷◌, length, slice_index_or, Option, Some, None}, FinMap.{from_entries}}
use Rattle.sh_map.specs.Map.{Map}
use Rattle.sh_image.specs.declared.leaf.LeafEntry.{LeafEntry}

-- the pairs of the entries that aren't empty, in their order
abbrev pub pairs_of : List LeafEntry → List (ℕ × List ℕ)
pairs_of [] = []
pairs_of (e ∷ es) = if e.key == 0 then pairs_of es else (e.key, e.value) ∷ pairs_of es

-- the value of the first entry with the key, or none
abbrev pub held : List LeafEntry → ℕ → Option (List ℕ)
held [] q = None
held (e ∷ es) q = if e.key == q then Some e.value else held es q

-- whether an entry is empty
abbrev pub has_room : List LeafEntry → Bool
has_room [] = false
has_room (e ∷ es) = if e.key == 0 then true else has_room es

-- the leaf's pairs as a map
abbrev pub map_of_entries : List LeafEntry → Map
map_of_entries es = from_entries (pairs_of es)

-- what stands for an entry that isn't there
abbrev pub no_entry : LeafEntry
no_entry = record { version = 0; key = 0; value = [] }

abbrev pub key_at : List LeafEntry → ℕ → ℕ
key_at es i = let e = slice_index_or es i no_entry in e.key

abbrev pub value_at : List LeafEntry → ℕ → List ℕ
value_at es i = let e = slice_index_or es i no_entry in e.value

-- no key stands twice
abbrev pub HasKeysOnce : List LeafEntry → Type 0
HasKeysOnce es = (i j : ℕ) → i < j → j < length es → key_at es i ≡ key_at es j → key_at es i ≡ 0
