-- What a leaf's entries answer to a key.
use Rattle.std.specs.Prelude.{ℕ, ◌+◌, ◌==◌, ◌||◌, ◌&&◌, not, if◌then◌else◌, Bool, true, false, List, [], ◌∷◌, slice_index_or, Option, Some, None}
use Rattle.sh_image.specs.declared.leaf.LeafEntry.{LeafEntry}
use Rattle.sh_map.specs.declared.call.Reply.{Reply}
use Rattle.sh_map.specs.declared.call.Reply.TheVariants as reply
use Rattle.sh_edit.specs.Held.{held, no_entry}

-- a value, or none, as a reply
abbrev pub reply_with : Option (List ℕ) → Reply
reply_with (Some value) = reply.Some value
reply_with None = reply.None

-- what the first entry with the key answers
abbrev pub leaf_answer : List LeafEntry → (key : ℕ) → Reply
leaf_answer entries key = reply_with (held entries key)

-- the index of the first entry with the key, counted from i on, or none
abbrev pub index_from : ℕ → List LeafEntry → (key : ℕ) → Option ℕ
index_from i [] key = None
index_from i (e ∷ es) key = if e.key == key then Some i else index_from (i + 1) es key

-- the index of the first entry with the key, or none; the key 0 is an empty entry's
abbrev pub index_of : List LeafEntry → (key : ℕ) → Option ℕ
index_of entries key = index_from 0 entries key

-- the version of an entry
abbrev pub version_at : List LeafEntry → ℕ → ℕ
version_at entries i = let e = slice_index_or entries i no_entry in e.version

-- an entry has the key
abbrev pub has_leaf_key : List LeafEntry → (key : ℕ) → Bool
has_leaf_key [] key = false
has_leaf_key (e ∷ es) key = (e.key == key) || has_leaf_key es key

-- no key stands twice; empty entries may
abbrev pub are_keys_once : List LeafEntry → Bool
are_keys_once [] = true
are_keys_once (e ∷ es) = ((e.key == 0) || not (has_leaf_key es e.key)) && are_keys_once es
