-- Leaves and inner nodes alike: one relation between words and the node that they spell.
use Rattle.std.specs.Prelude.{ℕ, List}
use Rattle.sh_base.specs.declared.config.ConfigParts.{ConfigParts}
use Rattle.sh_image.specs.{Leaf.{leaf_words, IsLeaf, Spells}, Inner.{inner_words, IsInner, SpellsInner}, declared.{inner.Image.{Image, TheVariants.{Leaf, Inner}}, read.Seen.{Seen}}}
use Rattle.sh_image.specs.declared.read.{Seen.TheVariants.{Leaf as LeafSeen, Inner as InnerSeen, Torn as TornSeen, TornEntry as TornEntrySeen, Odd as OddSeen}, Found.{Found}}
use Rattle.sh_image.specs.declared.read.Found.TheVariants.{Node, Torn, TornEntry, Odd}

-- the words of a node
abbrev pub words_of : ConfigParts → Image → List ℕ
words_of p (Leaf a) = leaf_words a
words_of p (Inner a) = inner_words p a

-- it meets the rules of its kind
abbrev pub IsImage : ConfigParts → Image → Type 0
IsImage p (Leaf a) = IsLeaf p a
IsImage p (Inner a) = IsInner p a

-- the words spell this node, and it meets the rules
abbrev pub SpellsImage : ConfigParts → List ℕ → Image → Type 0
SpellsImage p ws (Leaf a) = Spells p ws a
SpellsImage p ws (Inner a) = SpellsInner p ws a

-- what a reader answers where it sees this node
abbrev pub seen_as : Image → Seen
seen_as (Leaf a) = LeafSeen a
seen_as (Inner a) = InnerSeen a

-- what a reader saw of words that it read into an image, by its answer
abbrev pub seen_with : Found → Image → Seen
seen_with Node image = seen_as image
seen_with (Torn rear front) image = TornSeen rear front
seen_with (TornEntry index rear front) image = TornEntrySeen index rear front
seen_with Odd image = OddSeen
