-- A node of the tree, as its words spell it.
use Rattle.std.specs.Prelude.{ℕ, List, slice_index}
use Rattle.sh_base.specs.{declared.config.ConfigParts.{ConfigParts}, Layout.{node_part}}
use Rattle.sh_image.specs.{declared.inner.Image.{Image, TheVariants.{Leaf as LeafImage, Inner as InnerImage}}, Leaf.{Leaf, leaf_in, Spells}, Inner.{Inner, inner_in, SpellsInner}}

-- The words of node n spell this image. They spell one at most, and some words spell none.
abbrev pub NodeIn : ConfigParts → List ℕ → ℕ → Image → Type 0
NodeIn p words n (LeafImage a) = Spells p (node_part p words n) a
NodeIn p words n (InnerImage a) = SpellsInner p (node_part p words n) a

-- the leaf, and the inner node, that the words of node n spell, if they spell one
abbrev pub leaf_at : ConfigParts → List ℕ → ℕ → Leaf
leaf_at p words n = leaf_in p (node_part p words n)

abbrev pub inner_at : ConfigParts → List ℕ → ℕ → Inner
inner_at p words n = inner_in (node_part p words n)

-- what the header of every node says: the keys that it covers, and the next node of its level
abbrev pub low_at : ConfigParts → List ℕ → ℕ → ℕ
low_at p words n = slice_index (node_part p words n) 2

abbrev pub high_at : ConfigParts → List ℕ → ℕ → ℕ
high_at p words n = slice_index (node_part p words n) 3

abbrev pub next_at : ConfigParts → List ℕ → ℕ → ℕ
next_at p words n = slice_index (node_part p words n) 4
