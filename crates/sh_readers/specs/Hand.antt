-- What a client has in hand of the tree: nodes that it is on its way from, and their images.
use Rattle.std.specs.{Prelude.{◌≡◌, ℕ, suc, ◌-◌, ◌^◌, ◌<◌, ◌≤◌, List}, List.{AllByRecursion}}
use Rattle.sh_image.specs.{declared.inner.Image.{Image, TheVariants.{Inner as InnerImage}}, Inner.{Inner}}
use Rattle.sh_descend.specs.Descent.{level_of, low_of, high_of, next_of, image_pairs, HasSortedPairs}
use Rattle.sh_state.specs.{TreeState.{Linked, TreeState}, Nodes.{LeadDown, LeadsRight}}

-- a node of a level in hand, on the way to a key: it is linked there for good, and begins no later than the key
pub record IsNamed (s : TreeState) (level n key : ℕ) : Type 0 where
  pub low : ℕ
  pub linked : s.class n ≡ Linked level low
  pub below : low ≤ key

-- The image of a node of a level, with its low fence, that stood once. Its next node and its children are linked for
-- good, with the fences and separators that it says.
pub record IsImageOf (s : TreeState) (level low : ℕ) (image : Image) : Type 0 where
  pub level_is : level_of image ≡ level
  pub low_is : low_of image ≡ low
  pub fences : low < high_of image
  pub past : high_of image ≤ 2 ^ 64 - 1
  pub next : LeadsRight s level (high_of image) (next_of image)
  pub children : (below : ℕ) → level ≡ suc below → LeadDown s below (image_pairs image)
  pub sorted : HasSortedPairs image

-- each row of a cache is the image of an inner node of level 1 that stood once
abbrev pub AreRowsOf : TreeState → List Inner → Type 0
AreRowsOf s rows = AllByRecursion (λ (r : Inner). IsImageOf s 1 r.low (InnerImage r)) rows
