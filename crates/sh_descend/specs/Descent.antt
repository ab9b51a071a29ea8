-- Where a client goes from the image of a node, on its way to the node of a level that covers a key.
use Rattle.std.specs.Prelude.{◌≡◌, ℕ, ◌+◌, ◌<◌, ◌≤◌, ◌==◌, ◌||◌, if◌then◌else◌, nat_le, nat_lt, List, [], ◌∷◌, length, slice_index_or}
use Rattle.sh_image.specs.{declared.inner.{Image.{Image, TheVariants.{Leaf as LeafImage, Inner as InnerImage}}, Pair.{Pair}}, Inner.{no_pair, separator_at}}
use Rattle.sh_descend.specs.declared.Hop.{Hop, TheVariants.{Here, Right, Down, Restart}}

-- a node's level: leaves have level 0
abbrev pub level_of : Image → ℕ
level_of (LeafImage a) = 0
level_of (InnerImage a) = a.level

abbrev pub low_of : Image → ℕ
low_of (LeafImage a) = a.low
low_of (InnerImage a) = a.low

abbrev pub high_of : Image → ℕ
high_of (LeafImage a) = a.high
high_of (InnerImage a) = a.high

abbrev pub next_of : Image → ℕ
next_of (LeafImage a) = a.next
next_of (InnerImage a) = a.next

-- a leaf has no pairs
abbrev pub image_pairs : Image → List Pair
image_pairs (LeafImage a) = []
image_pairs (InnerImage a) = a.pairs

-- the child of the last pair before the first one whose separator is above the key, and this one where no pair is
abbrev pub child_from : ℕ → List Pair → ℕ → ℕ
child_from child [] key = child
child_from child (x ∷ xs) key = if nat_lt key x.separator then child else child_from x.child xs key

-- the child with the greatest separator not above the key, where separators rise, and 0 where the first is above it
abbrev pub child_of : List Pair → ℕ → ℕ
child_of pairs key = child_from 0 pairs key

-- the hop by its cases
abbrev pub hop_of : Image → ℕ → ℕ → Hop
hop_of image key level =
    if nat_lt (level_of image) level || nat_lt key (low_of image) then Restart
    else if nat_le (high_of image) key then Right (next_of image)
    else if level_of image == level then Here
    else Down (child_of (image_pairs image) key)

-- there is a pair, the separators rise, and the first is the low fence
pub record IsSorted (low : ℕ) (pairs : List Pair) : Type 0 where
  pub some : 1 ≤ length pairs
  pub first : separator_at pairs 0 ≡ low
  pub rise : (i : ℕ) → i + 1 < length pairs → separator_at pairs i < separator_at pairs (i + 1)

-- an inner node's pairs are sorted
abbrev pub HasSortedPairs : Image → Type 0
HasSortedPairs (LeafImage a) = Unit {0}
HasSortedPairs (InnerImage a) = IsSorted a.low a.pairs

abbrev pub child_at : List Pair → ℕ → ℕ
child_at pairs i = let x = slice_index_or pairs i no_pair in x.child

-- the child stands in the pairs, with the greatest separator not above the key
pub record Covers (pairs : List Pair) (key child : ℕ) : Type 0 where
  pub index : ℕ
  pub in_range : index < length pairs
  pub here : child ≡ child_at pairs index
  pub not_above : separator_at pairs index ≤ key
  pub later : (i : ℕ) → index < i → i < length pairs → key < separator_at pairs i
