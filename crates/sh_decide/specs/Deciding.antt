-- What an image that was READ under its lock leads to.
use Rattle.std.specs.Prelude.{ℕ, ◌*◌, ◌==◌, ◌||◌, if◌then◌else◌, nat_lt, Bool, false, List, [], ◌∷◌, length, Option, Some, None}
use Rattle.sh_base.specs.{declared.config.ConfigParts.{ConfigParts}, Setting.{last_version, last_entry_version}}
use Rattle.sh_map.specs.declared.call.Call.{Call, TheVariants.{Get, Put, Del, Range}}
use Rattle.sh_image.specs.{Leaf.{Leaf}, Inner.{Inner}, declared.inner.{Pair.{Pair}, Image.{Image, TheVariants.{Leaf as LeafImage, Inner as InnerImage}}}}
use Rattle.sh_descend.specs.{Descent.{hop_of}, declared.Hop.{Hop, TheVariants.{Here, Right as HopRight, Down, Restart as HopRestart}}}
use Rattle.sh_decide.specs.declared.state.{Aim.{Aim, TheVariants.{Own, Posts, Gathers}}, Decision.{Decision, TheVariants.{Restart, Right, Absent, Entry, Rewrite, Worn, Split, Skip, Add}}}
use Rattle.sh_decide.specs.{Aims.{is_node, aimed_key, target}, Leaves.{are_keys_once, index_of, version_at}}

-- an update that needs more than one entry is refused where the node's version is the last one
abbrev pub unless_worn : ConfigParts → (version : ℕ) → Decision → Decision
unless_worn p version decision = if nat_lt version (last_version p) then decision else Worn version

-- an entry is written alone while its version isn't the last one
abbrev pub change_at : ConfigParts → Leaf → (index : ℕ) → Decision
change_at p a index = if nat_lt (version_at a.entries index) last_entry_version then Entry index else unless_worn p a.version (Rewrite index)

-- a put goes over its key, else into the first empty entry, else it splits the leaf
abbrev pub put_into : ConfigParts → Leaf → (empty : Option ℕ) → Decision
put_into p a (Some index) = change_at p a index
put_into p a None = unless_worn p a.version Split

abbrev pub put_in : ConfigParts → Leaf → (over : Option ℕ) → Decision
put_in p a (Some index) = change_at p a index
put_in p a None = put_into p a (index_of a.entries 0)

abbrev pub del_in : ConfigParts → Leaf → (over : Option ℕ) → Decision
del_in p a (Some index) = change_at p a index
del_in p a None = Absent

-- an update in its leaf; a get or a range takes no lock
abbrev pub update_in : ConfigParts → Leaf → Call → Decision
update_in p a (Put key value) = put_in p a (index_of a.entries key)
update_in p a (Del key) = del_in p a (index_of a.entries key)
update_in p a (Get key) = Restart
update_in p a (Range low high) = Restart

-- a pair has the separator
abbrev pub has_separator : List Pair → (separator : ℕ) → Bool
has_separator [] separator = false
has_separator (x ∷ xs) separator = (x.separator == separator) || has_separator xs separator

-- a post in its node: skipped where the node's version is the last one, else it adds a pair or splits the node
abbrev pub post_in : ConfigParts → Inner → Decision
post_in p a =
    if nat_lt a.version (last_version p)
    then (if nat_lt (length a.pairs) (2 * p.leaf) then Add else Split)
    else Skip

-- Senseless are a leaf with a key twice, a node that has the separator already, and a node of another kind; a range takes no
-- lock.
abbrev pub decided_here : ConfigParts → Call → Aim → Image → Decision
decided_here p call Own (LeafImage a) = if are_keys_once a.entries then update_in p a call else Restart
decided_here p call Own (InnerImage a) = Restart
decided_here p call (Gathers place) image = Restart
decided_here p call (Posts post) (LeafImage a) = Restart
decided_here p call (Posts post) (InnerImage a) = if has_separator a.pairs post.separator then Restart else post_in p a

-- and so are a hop down, a Restart, and a hop to a number that names no node
abbrev pub decided_by : ConfigParts → Call → Aim → Image → Hop → Decision
decided_by p call aim image Here = decided_here p call aim image
decided_by p call aim image (HopRight next) = if is_node p next then Right next else Restart
decided_by p call aim image (Down child) = Restart
decided_by p call aim image HopRestart = Restart

abbrev pub decision_of : ConfigParts → Call → Aim → Image → Decision
decision_of p call aim image = decided_by p call aim image (hop_of image (aimed_key call aim) (target aim))
