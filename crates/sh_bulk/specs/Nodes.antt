-- The nodes of a tree that is built at once, by level and by place in it, from 0.
use Rattle.std.specs.Prelude.{◌≡◌, ℕ, zero, suc, Bool, ◌+◌, ◌-◌, ◌*◌, ◌^◌, ◌==◌, nat_lt, min, List, length, map, take, drop, if◌then◌else◌}
use Rattle.std.specs.List.{range_with_len, AllByRecursion}
use Rattle.sh_base.specs.declared.config.ConfigParts.{ConfigParts}
use Rattle.sh_map.specs.{declared.book.Row.{Row}, Map.{row_pair}, Rows.{row_key}}
use Rattle.sh_image.specs.{declared.inner.Pair.{Pair}, Leaf.{Leaf, leaf_words, empty_entry}, Inner.{Inner, inner_words}}
use Rattle.sh_edit.specs.Splitting.{entries_from}
use Rattle.sh_bulk.specs.Shape.{leaf_fill, inner_fill, count_in, first_in}

-- a node's low: 0 for the first leaf, else the leaf's first key; of an inner node that of its first child
abbrev pub low_in : ConfigParts → List Row → (level j : ℕ) → ℕ
low_in p rows zero j = if j == 0 then 0 else row_key rows (j * leaf_fill p)
low_in p rows (suc level) j = low_in p rows level (j * inner_fill p)

-- node j isn't the last of its level
abbrev pub has_next : ConfigParts → List Row → (level j : ℕ) → Bool
has_next p rows level j = nat_lt (j + 1) (count_in p (length rows) level)

-- a node's high: the low of the next node
unfoldable pub high_in : ConfigParts → List Row → (level j : ℕ) → ℕ
high_in p rows level j = if has_next p rows level j then low_in p rows level (j + 1) else 2 ^ 64 - 1

-- the number of the next node
unfoldable pub next_in : ConfigParts → List Row → (level j : ℕ) → ℕ
next_in p rows level j = if has_next p rows level j then first_in p (length rows) level + (j + 1) else 0

-- the rows of leaf j
abbrev pub rows_at : ConfigParts → List Row → ℕ → List Row
rows_at p rows j = take (leaf_fill p) (drop (j * leaf_fill p) rows)

-- leaf j has its rows in its entries from 0 on; the rest are empty
abbrev pub leaf_of : ConfigParts → List Row → ℕ → Leaf
leaf_of p rows j = record {
  version = 0;
  low = low_in p rows 0 j;
  high = high_in p rows 0 j;
  next = next_in p rows 0 j;
  entries = entries_from p.leaf (empty_entry p) (map row_pair (rows_at p rows j));
}

-- the pair that leads to node i of a level: its low and its number
abbrev pub pair_to : ConfigParts → List Row → (level i : ℕ) → Pair
pair_to p rows level i = record { separator = low_in p rows level i; child = first_in p (length rows) level + i }

-- how many nodes of a level node j of the level above takes: so many, and the last one the rest
abbrev pub taken_by : ConfigParts → List Row → (level j : ℕ) → ℕ
taken_by p rows level j = min (inner_fill p) (count_in p (length rows) level - j * inner_fill p)

-- node j of the level above this one takes its next nodes
abbrev pub inner_of : ConfigParts → List Row → (level j : ℕ) → Inner
inner_of p rows level j = record {
  version = 0;
  level = suc level;
  low = low_in p rows (suc level) j;
  high = high_in p rows (suc level) j;
  next = next_in p rows (suc level) j;
  pairs = map (pair_to p rows level) (range_with_len (j * inner_fill p) (taken_by p rows level j));
}

-- the words of a node
unfoldable pub words_at : ConfigParts → List Row → (level j : ℕ) → List ℕ
words_at p rows zero j = leaf_words (leaf_of p rows j)
words_at p rows (suc level) j = inner_words p (inner_of p rows level j)

-- each row's value has the setting's words
abbrev pub HaveValues : ConfigParts → List Row → Type 0
HaveValues p rows = AllByRecursion (λ r. length r.value ≡ p.value_words) rows
