-- An inner node, the words that spell it, and the inner node that words spell.
use Rattle.std.specs.Prelude.{◌≡◌, ◌↔◌, ℕ, zero, suc, ◌+◌, ◌-◌, ◌*◌, ◌^◌, ◌<◌, ◌≤◌, List, [], ◌∷◌, ◌++◌, drop, length, replicate, slice_index, slice_index_or}
use Rattle.std.specs.List.{flat_map, AllByRecursion}
use Rattle.sh_base.specs.{declared.config.ConfigParts.{ConfigParts}, Setting.{nodes, last_version}, Layout.{rear_at}}
use Rattle.sh_image.specs.declared.inner.Pair.{Pair}

-- Its version, its level above the leaves, the keys that it covers (low and all below high), the next node of its level
-- (0: none), its pairs.
pub record Inner : Type 0 where
  pub version : ℕ
  pub level : ℕ
  pub low : ℕ
  pub high : ℕ
  pub next : ℕ
  pub pairs : List Pair

-- version, level, fences, next node, and the number of pairs
abbrev pub inner_header : Inner → List ℕ
inner_header a = a.version ∷ a.level ∷ a.low ∷ a.high ∷ a.next ∷ length a.pairs ∷ []

abbrev pub pair_words : Pair → List ℕ
pair_words x = x.separator ∷ x.child ∷ []

-- how many words there are behind so many pairs, up to the rear version
abbrev pub words_behind : ConfigParts → ℕ → ℕ
words_behind p count = rear_at p - (6 + 2 * count)

-- the words of an inner node: its header, its pairs, zeros, and its version behind
abbrev pub inner_words : ConfigParts → Inner → List ℕ
inner_words p a = inner_header a ++ (flat_map pair_words a.pairs ++ (replicate (words_behind p (length a.pairs)) 0 ++ a.version ∷ []))

-- the pairs, that many, that the front of the words spells
abbrev pub pairs_in : ℕ → List ℕ → List Pair
pairs_in zero ws = []
pairs_in (suc k) ws = record { separator = slice_index ws 0; child = slice_index ws 1 } ∷ pairs_in k (drop 2 ws)

-- the inner node whose words these are, if they are an inner node's
abbrev pub inner_in : List ℕ → Inner
inner_in ws = record { version = slice_index ws 0; level = slice_index ws 1; low = slice_index ws 2; high = slice_index ws 3; next = slice_index ws 4; pairs = pairs_in (slice_index ws 5) (drop 6 ws) }

-- what stands for a pair that isn't there
abbrev pub no_pair : Pair
no_pair = record { separator = 0; child = 0 }

abbrev pub separator_at : List Pair → ℕ → ℕ
separator_at pairs i = let x = slice_index_or pairs i no_pair in x.separator

-- the separators rise, the first is the low fence, and all are below the high one
pub record AreSeparators (low high : ℕ) (pairs : List Pair) : Type 0 where
  pub first : separator_at pairs 0 ≡ low
  pub rise : (i : ℕ) → i + 1 < length pairs → separator_at pairs i < separator_at pairs (i + 1)
  pub below : (i : ℕ) → i < length pairs → separator_at pairs i < high

-- a pair's child is a node of the setting
abbrev pub HasChild : ConfigParts → Pair → Type 0
HasChild p x = (1 ≤ x.child) × (x.child ≤ nodes p)

-- The rules of an inner node of this setting. The last node of a level, and no other, has the greatest word for its
-- high fence.
pub record IsInner (p : ConfigParts) (a : Inner) : Type 0 where
  pub version : a.version ≤ last_version p
  pub level : (1 ≤ a.level) × (a.level < nodes p)
  pub fences : a.low < a.high
  pub next : a.next ≤ nodes p
  pub end : (a.next ≡ 0) ↔ (a.high ≡ 2 ^ 64 - 1)
  pub count : (1 ≤ length a.pairs) × (length a.pairs ≤ 2 * p.leaf)
  pub separators : AreSeparators a.low a.high a.pairs
  pub children : AllByRecursion (HasChild p) a.pairs

-- the words spell this inner node, and it meets the rules
pub record SpellsInner (p : ConfigParts) (ws : List ℕ) (a : Inner) : Type 0 where
  pub words : ws ≡ inner_words p a
  pub lawful : IsInner p a
