-- Where an image that was READ without a lock leads.
use Rattle.std.specs.Prelude.{ℕ, ◌+◌, ◌==◌, ◌&&◌, if◌then◌else◌, Bool, true, false}
use Rattle.sh_base.specs.declared.config.ConfigParts.{ConfigParts}
use Rattle.sh_map.specs.declared.call.Call.{Call, TheVariants.{Get, Put, Del, Range}}
use Rattle.sh_image.specs.declared.inner.Image.{Image, TheVariants.{Leaf as LeafImage, Inner as InnerImage}}
use Rattle.sh_descend.specs.{Descent.{hop_of, level_of}, declared.Hop.{Hop, TheVariants.{Here, Right as HopRight, Down, Restart}}}
use Rattle.sh_decide.specs.declared.state.{Aim.{Aim, TheVariants.{Own, Posts, Gathers}}, Way.{Way, TheVariants.{Root, Read, Right, Lock, LockRight, Grow, Found, Rows}}}
use Rattle.sh_decide.specs.Aims.{is_node, aimed_key, takes_lock, target}

-- the root that was READ is a level too low for the post: a new root goes over it
abbrev pub is_below : Aim → Image → Bool
is_below Own image = false
is_below (Gathers place) image = false
is_below (Posts post) image = post.level == level_of image + 1

-- a leaf has the answer to a get; an inner node of level 0 there is none
abbrev pub found_in : Image → Way
found_in (LeafImage a) = Found
found_in (InnerImage a) = Root

-- and so a leaf has the rows of a range
abbrev pub rows_in : Image → Way
rows_in (LeafImage a) = Rows
rows_in (InnerImage a) = Root

-- this node covers the key: of a get it is the leaf that answers, of a range that has the rows, and else it is to be locked
abbrev pub way_here : Call → Aim → (node : ℕ) → Image → Way
way_here call (Posts post) node image = Lock node
way_here call (Gathers place) node image = rows_in image
way_here (Get key) Own node image = found_in image
way_here (Put key value) Own node image = Lock node
way_here (Del key) Own node image = Lock node
way_here (Range low high) Own node image = Root

abbrev pub is_right : Hop → Bool
is_right (HopRight next) = true
is_right hop = false

-- an image leads to the right
abbrev pub leads_right : Call → Aim → Image → Bool
leads_right call aim image = is_right (hop_of image (aimed_key call aim) (target aim))

-- A node whose level is known to be the wanted one isn't READ without its lock: it is the one to the right of a node of
-- that level, or the child of one a level higher. A number that names no node leads to the root word, as does a Restart.
abbrev pub way_by : ConfigParts → Call → Aim → (node : ℕ) → Image → Hop → Way
way_by p call aim node image Here = way_here call aim node image
way_by p call aim node image (HopRight next) =
    if is_node p next then (if takes_lock call aim && (level_of image == target aim) then LockRight next else Right next) else Root
way_by p call aim node image (Down child) =
    if is_node p child then (if takes_lock call aim && (level_of image == target aim + 1) then Lock child else Read child) else Root
way_by p call aim node image Restart = Root

-- top: the root word named this node
abbrev pub way_of : ConfigParts → Call → Aim → (top : Bool) → (node : ℕ) → Image → Way
way_of p call aim top node image =
    if top && is_below aim image then Grow else way_by p call aim node image (hop_of image (aimed_key call aim) (target aim))
