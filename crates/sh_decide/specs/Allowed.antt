-- What a decision needs of the image that it is taken by, and where a way leads.
use Rattle.std.specs.Prelude.{◌≡◌, ℕ, ◌-◌, ◌*◌, ◌^◌, ◌<◌, length}
use Rattle.sh_base.specs.{declared.config.ConfigParts.{ConfigParts}, Setting.{last_entry_version, IsNode}}
use Rattle.sh_map.specs.declared.call.Call.{Call}
use Rattle.sh_image.specs.declared.inner.Image.{Image, TheVariants.{Leaf as LeafImage, Inner as InnerImage}}
use Rattle.sh_edit.specs.Splitting.{IsSplit}
use Rattle.sh_decide.specs.{declared.state.{Aim.{Aim, TheVariants.{Own, Posts, Gathers}}, Way.{Way}, Decision.{Decision}}, Aims.{written_key}, Leaves.{version_at}}
use Rattle.sh_decide.specs.declared.state.Way.TheVariants as way
use Rattle.sh_decide.specs.declared.state.Decision.TheVariants as decision

-- a leaf that a put splits, or an inner node that a post splits
abbrev pub CanSplit : ConfigParts → Call → Aim → Image → Type 0
CanSplit p call Own (LeafImage a) = IsSplit a (written_key call) × (a.version < 2 ^ 64 - 1)
CanSplit p call (Posts post) (InnerImage a) = (length a.pairs ≡ 2 * p.leaf) × (a.version < 2 ^ 64 - 1)
CanSplit p call Own (InnerImage a) = ⊥
CanSplit p call (Posts post) (LeafImage a) = ⊥
CanSplit p call (Gathers place) image = ⊥

-- an image that may be written so: it has the entry, and a version is left
abbrev pub HasEntryAt : Image → (index : ℕ) → Type 0
HasEntryAt (LeafImage a) index = index < length a.entries
HasEntryAt (InnerImage a) index = ⊥

-- the entry's version isn't the last one
abbrev pub CanChange : Image → (index : ℕ) → Type 0
CanChange (LeafImage a) index = (index < length a.entries) × (version_at a.entries index < last_entry_version)
CanChange (InnerImage a) index = ⊥

abbrev pub HasVersion : Image → Type 0
HasVersion (LeafImage a) = a.version < 2 ^ 64 - 1
HasVersion (InnerImage a) = a.version < 2 ^ 64 - 1

abbrev pub HasRoom : ConfigParts → Aim → Image → Type 0
HasRoom p (Posts post) (InnerImage a) = length a.pairs < 2 * p.leaf
HasRoom p (Posts post) (LeafImage a) = ⊥
HasRoom p Own image = ⊥
HasRoom p (Gathers place) image = ⊥

-- a decision that the image allows
abbrev pub Allows : ConfigParts → Call → Aim → Image → Decision → Type 0
Allows p call aim image decision.Restart = Unit {0}
Allows p call aim image (decision.Right node) = IsNode p node
Allows p call aim image decision.Absent = Unit {0}
Allows p call aim image (decision.Entry index) = CanChange image index
Allows p call aim image (decision.Rewrite index) = HasEntryAt image index × HasVersion image
Allows p call aim image (decision.Worn version) = Unit {0}
Allows p call aim image decision.Split = CanSplit p call aim image
Allows p call aim image decision.Skip = Unit {0}
Allows p call aim image decision.Add = HasRoom p aim image × HasVersion image

-- a way that leads to nodes of the setting
abbrev pub Leads : ConfigParts → Way → Type 0
Leads p (way.Read node) = IsNode p node
Leads p (way.Right node) = IsNode p node
Leads p (way.Lock node) = IsNode p node
Leads p (way.LockRight node) = IsNode p node
Leads p way.Root = Unit {0}
Leads p way.Grow = Unit {0}
Leads p way.Found = Unit {0}
Leads p way.Rows = Unit {0}
