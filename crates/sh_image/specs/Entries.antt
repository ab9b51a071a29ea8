-- A leaf's entries and the words that spell them.
use Rattle.std.specs.Prelude.{◌≡◌, ℕ, zero, suc, ◌+◌, List, [], ◌∷◌, ◌++◌, map, take, drop, slice_index}
use Rattle.sh_image.specs.declared.leaf.LeafEntry.{LeafEntry}

-- the key of each entry
abbrev pub keys_of : List LeafEntry → List ℕ
keys_of entries = map (λ e. e.key) entries

-- its version in front, its key, the words of its value, and its version behind
abbrev pub entry_words : LeafEntry → List ℕ
entry_words e = e.version ∷ e.key ∷ (e.value ++ e.version ∷ [])

-- the entry that the front of the words spells, with a value of count words
abbrev pub entry_in : ℕ → List ℕ → LeafEntry
entry_in count ws = record { version = slice_index ws 0; key = slice_index ws 1; value = take count (drop 2 ws) }

-- the entries, that many, that the front of the words spells
abbrev pub entries_in : ℕ → ℕ → List ℕ → List LeafEntry
entries_in count zero ws = []
entries_in count (suc k) ws = entry_in count ws ∷ entries_in count k (drop (3 + count) ws)

-- the two versions of each of the first k entries agree
abbrev pub AreWhole : ℕ → ℕ → List ℕ → Type 0
AreWhole count zero ws = Unit {0}
AreWhole count (suc k) ws = (slice_index ws (2 + count) ≡ slice_index ws 0) × AreWhole count k (drop (3 + count) ws)
