-- What a client's READs make of its cached nodes, and where a call begins by them.
use Rattle.std.specs.{Prelude.{ℕ, ◌==◌, ◌&&◌, if◌then◌else◌, Bool, true, List, Option, Some, None}, Option.{option_map}}
use Rattle.sh_image.specs.{Inner.{Inner}, declared.inner.Image.{Image, TheVariants.{Leaf as LeafImage, Inner as InnerImage}}}
use Rattle.sh_descend.specs.Descent.{child_of}
use Rattle.sh_cache.specs.Cached.{forgotten, found, kept}
use Rattle.sh_decide.specs.{declared.state.Aim.{Aim}, Aims.{target}, Ways.{leads_right}}
use Rattle.sh_client.specs.{declared.state.Origin.{Origin}, Machine.{Machine, Registers}}

-- where a call for the key begins by a cached node that covers it
abbrev pub origin_in : (key : ℕ) → Inner → Origin
origin_in key row = record { low = row.low; child = child_of row.pairs key }

abbrev pub origin_of : List Inner → (key : ℕ) → Option Origin
origin_of cached key = option_map (origin_in key) (found cached key)

-- The first image at a cached node's child: where it leads to the right that cached node is forgotten.
abbrev pub without_origin : Option ℕ → (right : Bool) → List Inner → List Inner
without_origin (Some low) true cached = forgotten cached low
without_origin origin right cached = cached

-- an image was accepted, the first one of its call or a later one
abbrev pub settled : Aim → Image → Registers → Registers
settled aim image r = record r { cached = without_origin r.origin (leads_right r.call aim image) r.cached; origin = None }

-- a node of level 1 on the way to a leaf is kept
abbrev pub is_kept : Aim → Inner → Bool
is_kept aim a = (target aim == 0) && (a.level == 1)

abbrev pub keeping : (room : ℕ) → Aim → Image → List Inner → List Inner
keeping room aim (LeafImage a) cached = cached
keeping room aim (InnerImage a) cached = if is_kept aim a then kept room cached a else cached

-- An image that was accepted in a READ under the lock, and one in a READ without it.
abbrev pub settling : Machine → Aim → Image → Machine
settling m aim image = record m { registers = settled aim image m.registers }

abbrev pub image_kept : (room : ℕ) → Aim → Image → Registers → Registers
image_kept room aim image r = record r { cached = keeping room aim image r.cached }

abbrev pub learning : Machine → Aim → Image → Machine
learning m aim image = record m { registers = image_kept m.setting.cached aim image (settled aim image m.registers) }
