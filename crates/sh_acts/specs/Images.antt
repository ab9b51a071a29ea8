-- What the new image of a linked node, or its two halves, are to the node, its neighbours and its parent.
use Rattle.std.specs.Prelude.{◌≡◌, ◌≢◌, ◌⊎◌, ◌↔◌, ℕ, suc, ◌+◌, ◌<◌, ◌≤◌, List, [], ◌∷◌, slice_set}
use Rattle.sh_map.specs.{declared.log.Entry.{Entry}, Log.{change_key, map_of, IsNext}}
use Rattle.sh_image.specs.declared.inner.Pair.{Pair}
use Rattle.sh_state.specs.{TreeState.{Linked, ParentLink, Posted, Pending, Seat, TreeState}, Nodes.{level_in, low_in, high_in, next_in, IsLinked, LeadsTo}, Change.{IsPostOf}}

-- words with others stored from an offset on
abbrev pub patched : List ℕ → (offset : ℕ) → List ℕ → List ℕ
patched ws offset [] = ws
patched ws offset (x ∷ new) = patched (slice_set ws offset x) (offset + 1) new

-- an image of the same level, fences and next node
pub record IsOver (node image : List ℕ) : Type 0 where
  pub level : level_in image ≡ level_in node
  pub low : low_in image ≡ low_in node
  pub high : high_in image ≡ high_in node
  pub next : next_in image ≡ next_in node

-- two images of the same level whose fences meet at the separator; the left one leads to the right one, which is node r
pub record IsHalved (node left right : List ℕ) (r separator : ℕ) : Type 0 where
  pub above : low_in node < separator
  pub below : separator < high_in node
  pub level : level_in left ≡ level_in node
  pub low : low_in left ≡ low_in node
  pub high : high_in left ≡ separator
  pub next : next_in left ≡ r
  pub right_level : level_in right ≡ level_in node
  pub right_low : low_in right ≡ separator
  pub right_high : high_in right ≡ high_in node
  pub right_next : next_in right ≡ next_in node

-- The posts of nodes after a seat has given a node of a level new pairs. A node that the new pairs lead to is posted,
-- whoever was is, and nobody else; the others' posts stay. A leaf has no pairs, and changes no post.
pub record PostsOver (s : TreeState) (seat level : ℕ) (old new : List Pair) (post : ℕ → ParentLink) : Type 0 where
  pub others : (j n : ℕ) (x : ParentLink) → Seat j ≢ Seat seat → IsPostOf j x → (s.post n ≡ x) ↔ (post n ≡ x)
  pub stays : (n l low : ℕ) → s.class n ≡ Linked l low → s.post n ≡ Posted → post n ≡ Posted
  pub newly : (n : ℕ) → post n ≡ Posted → (s.post n ≡ Posted) ⊎ ((l : ℕ) × (low : ℕ) × (level ≡ suc l) × (s.class n ≡ Linked l low) × LeadsTo new n)
  pub outside : (n : ℕ) → IsLinked (s.class n) ⊎ (post n ≡ Posted)
  pub kids : (l n : ℕ) → level ≡ suc l → LeadsTo new n → post n ≡ Posted
  pub keeps : (l n : ℕ) → level ≡ suc l → LeadsTo old n → LeadsTo new n

-- a seat's entry that a WRITE of the leaf brings into the log: it fits the log's map, and its key is the leaf's
pub record IsEntryOf (s : TreeState) (seat n low : ℕ) (entry : Entry) : Type 0 where
  pub linked : s.class n ≡ Linked 0 low
  pub by : entry.seat ≡ seat
  pub fits : IsNext (map_of s.log) entry
  pub key : 1 ≤ change_key entry.change
  pub from : low_in (s.node n) ≤ change_key entry.change
  pub below : change_key entry.change < high_in (s.node n)

-- a pair that a seat's WRITE of an inner node posts: its child is of the level below, and the seat is to post it
pub record IsPairOf (s : TreeState) (seat n level low : ℕ) (x : Pair) : Type 0 where
  pub linked : s.class n ≡ Linked (suc level) low
  pub child : s.class x.child ≡ Linked level x.separator
  pub mine : s.post x.child ≡ Pending seat
  pub from : low_in (s.node n) ≤ x.separator
  pub below : x.separator < high_in (s.node n)
