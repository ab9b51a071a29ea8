-- Where a key stands in a leaf, or may be put.
use Rattle.std.specs.Prelude.{◌≡◌, ◌≢◌, ◌⊎◌, ℕ, ◌<◌, List, length}
use Rattle.sh_image.specs.declared.leaf.LeafEntry.{LeafEntry}
use Rattle.sh_edit.specs.{Held.{key_at, value_at}, declared.Placed.{Placed, TheVariants.{Over, New, NoRoom}}}

-- the first entry with the key
pub record IsFirstWith (es : List LeafEntry) (key i : ℕ) : Type 0 where
  pub in_range : i < length es
  pub here : key_at es i ≡ key
  pub before : (j : ℕ) → j < i → key_at es j ≢ key

-- no entry has the key
abbrev pub LacksKey : List LeafEntry → ℕ → Type 0
LacksKey es key = (j : ℕ) → j < length es → key_at es j ≢ key

-- where a put of the key goes; an empty entry has the key 0
abbrev pub PlacedBy : List LeafEntry → ℕ → Placed → Type 0
PlacedBy es key (Over index old) = IsFirstWith es key index × (old ≡ value_at es index)
PlacedBy es key (New index) = LacksKey es key × IsFirstWith es 0 index
PlacedBy es key NoRoom = LacksKey es key × LacksKey es 0

-- the index at which a put of the key is written: that of the first entry with it, and where there is none that of the
-- first empty one
abbrev pub IsPlaceFor : List LeafEntry → ℕ → ℕ → Type 0
IsPlaceFor es key i = IsFirstWith es key i ⊎ (LacksKey es key × IsFirstWith es 0 i)

-- an entry is empty, or the first one with its key
abbrev pub StandsFirst : List LeafEntry → ℕ → Type 0
StandsFirst es i = (key_at es i ≡ 0) ⊎ IsFirstWith es (key_at es i) i
