-- What a reader judges of a node's words, by tests.
use Rattle.std.specs.Prelude.{ℕ, zero, suc, ◌+◌, ◌-◌, ◌*◌, ◌^◌, ◌==◌, ◌&&◌, not, if◌then◌else◌, nat_lt, nat_le, Bool, true, false, List, [], ◌∷◌, take, drop, slice_index, Option, Some, None}
use Rattle.sh_base.specs.{declared.config.ConfigParts.{ConfigParts}, Setting.{nodes, last_version, last_entry_version}}
use Rattle.sh_image.specs.{declared.{leaf.LeafEntry.{LeafEntry}, inner.Pair.{Pair}}, Leaf.{Leaf, leaf_in}, Inner.{Inner, inner_in, words_behind}, Seen.{front_of, rear_of, entry_front, entry_rear}}
use Rattle.sh_image.specs.declared.read.Seen.{Seen, TheVariants.{Leaf as LeafSeen, Inner as InnerSeen, Torn, TornEntry, Odd}}

-- all words are 0
abbrev pub are_zeros : List ℕ → Bool
are_zeros [] = true
are_zeros (w ∷ ws) = (w == 0) && are_zeros ws

-- the last node of a level, and no other, has the greatest word for its high fence
abbrev pub fits_end : (next high : ℕ) → Bool
fits_end next high = if next == 0 then high == 2 ^ 64 - 1 else not (high == 2 ^ 64 - 1)

-- an entry may stand in a leaf with these fences
abbrev pub fits_entry : ConfigParts → (low high : ℕ) → LeafEntry → Bool
fits_entry p low high e = nat_le e.version last_entry_version && (if e.key == 0 then are_zeros e.value else (nat_le low e.key && nat_lt e.key high))

abbrev pub fit_entries : ConfigParts → (low high : ℕ) → List LeafEntry → Bool
fit_entries p low high [] = true
fit_entries p low high (e ∷ es) = fits_entry p low high e && fit_entries p low high es

-- the rules of a leaf
abbrev pub fits_leaf : ConfigParts → Leaf → Bool
fits_leaf p a = nat_le a.version (last_version p) && (nat_lt a.low a.high && (nat_le a.next (nodes p) && (fits_end a.next a.high && fit_entries p a.low a.high a.entries)))

-- the separators are from low on, rise, and are below the high fence, and the children are nodes of the setting
abbrev pub fit_pairs : ConfigParts → (low high : ℕ) → List Pair → Bool
fit_pairs p low high [] = true
fit_pairs p low high (x ∷ xs) = nat_le low x.separator && (nat_lt x.separator high && (nat_lt 0 x.child && (nat_le x.child (nodes p) && fit_pairs p (x.separator + 1) high xs)))

-- there is a pair, and the first separator is the low fence
abbrev pub begins_at : ℕ → List Pair → Bool
begins_at low [] = false
begins_at low (x ∷ xs) = x.separator == low

-- the rules of an inner node
abbrev pub fits_inner : ConfigParts → Inner → Bool
fits_inner p a = nat_le a.version (last_version p) && (nat_lt 0 a.level && (nat_lt a.level (nodes p) && (nat_lt a.low a.high && (nat_le a.next (nodes p) && (fits_end a.next a.high && (begins_at a.low a.pairs && fit_pairs p a.low a.high a.pairs))))))

-- of the entries from index on, so many, the first one whose versions differ
abbrev pub first_torn : ConfigParts → List ℕ → (index count : ℕ) → Option ℕ
first_torn p ws index zero = None
first_torn p ws index (suc count) = if entry_front p ws index == entry_rear p ws index then first_torn p ws (index + 1) count else Some index

-- a leaf's words, whose versions agree but maybe in this entry
abbrev pub leaf_seen : ConfigParts → List ℕ → Option ℕ → Seen
leaf_seen p ws (Some index) = TornEntry index (entry_rear p ws index) (entry_front p ws index)
leaf_seen p ws None = if (slice_index ws 5 == 0) && fits_leaf p (leaf_in p ws) then LeafSeen (leaf_in p ws) else Odd

-- an inner node's words behind its pairs, so many, are 0
abbrev pub has_zeros_behind : ConfigParts → List ℕ → (count : ℕ) → Bool
has_zeros_behind p ws count = nat_le count (2 * p.leaf) && are_zeros (take (words_behind p count) (drop (6 + 2 * count) ws))

-- an inner node's words, whose versions agree
abbrev pub inner_seen : ConfigParts → List ℕ → Seen
inner_seen p ws = if has_zeros_behind p ws (slice_index ws 5) && fits_inner p (inner_in ws) then InnerSeen (inner_in ws) else Odd

-- words whose front and rear version agree
abbrev pub untorn_seen : ConfigParts → List ℕ → Seen
untorn_seen p ws = if slice_index ws 1 == 0 then leaf_seen p ws (first_torn p ws 0 p.leaf) else inner_seen p ws

-- what a reader answers of a node's words
unfoldable pub seen_of : ConfigParts → List ℕ → Seen
seen_of p ws = if rear_of p ws == front_of ws then untorn_seen p ws else Torn (rear_of p ws) (front_of ws)
