-- What a client's turns do to its cached nodes, and where a call begins by them.
use Rattle.std.specs.Prelude.{◌≡◌, ◌⊎◌, if◌then◌else◌, Bool, true, Option, ℕ, Some, None}
use Rattle.sh_base.specs.{declared.{config.ConfigParts.{ConfigParts}, event.Event.TheVariants.{Load}}, Layout.{lock_of, root_word}}
use Rattle.sh_map.specs.declared.call.Call.{Call}
use Rattle.sh_image.specs.{Inner.{Inner}, declared.inner.Image.{Image, TheVariants.{Inner as InnerImage}}}
use Rattle.sh_read.specs.{declared.state.Progress.{Progress, TheVariants.{Accepted}}, Reads.{accepted, progress_of, reads_start, wanted}}
use Rattle.sh_descend.specs.Descent.{child_of}
use Rattle.sh_cache.specs.Cached.{IsOldest}
use Rattle.sh_decide.specs.{declared.state.Aim.{Aim, TheVariants.{Own}}, Aims.{call_key, takes_lock, target}, Ways.{leads_right}}
use Rattle.sh_client.specs.{declared.state.{Phase.{Phase, TheVariants.{Read, ReadLocked}}, Want.{Want}}, Machine.{Machine, up}, Cached.{learning, settling}, Courses.{KeepsCall}, Feeds.{begun, loaded}}
use Rattle.sh_client.specs.Wants.{load_of, want_of}
use Rattle.sh_client.specs.declared.state.Want.TheVariants as want

-- what is learnt of an image, where there is one, without a lock and under one
abbrev pub learnt : Machine → Aim → Option Image → Machine
learnt m aim (Some image) = learning m aim image
learnt m aim None = m

abbrev pub settles : Machine → Aim → Option Image → Machine
settles m aim (Some image) = settling m aim image
settles m aim None = m

-- the image that a READ has accepted
abbrev pub image_by : Machine → Progress → Option Image
image_by m Accepted = accepted m.setting m.registers.reads
image_by m progress = None

-- a client that has learnt what the word shows that it is fed: a READ's image, where this word makes it an accepted one
abbrev pub learnt_in : Machine → (word : ℕ) → Phase → Machine
learnt_in m word (Read aim top) = learnt (loaded m word) aim (image_by (loaded m word) (progress_of m.setting m.registers.reads word))
learnt_in m word (ReadLocked aim depth) = settles (loaded m word) aim (image_by (loaded m word) (progress_of m.setting m.registers.reads word))
learnt_in m word phase = m

abbrev pub learnt_by : Machine → (word : ℕ) → Machine
learnt_by m word = learnt_in m word m.phase

-- another machine of the same setting, seat and call, with the same cached nodes, which has counted no call as begun at one
abbrev pub KeepsCached : Machine → Machine → Type 0
KeepsCached m x = (x.registers.cached ≡ m.registers.cached) × (x.registers.tally.from_cache ≡ m.registers.tally.from_cache) × KeepsCall m x

-- the first turn of a call that begins at a leaf: an update draws a ticket for its lock, and any other call READs it
abbrev pub first_turn : ConfigParts → Call → (leaf : ℕ) → Want
first_turn p call leaf = if takes_lock call Own then want.Draw (lock_of p leaf) else load_of (wanted p (reads_start leaf))

-- A call whose key a cached node covers begins at the child of that node and is counted so; the node is its origin.
pub record BeginsByRow (m : Machine) (call : Call) (row : Inner) : Type 0 where
  pub wants : want_of (begun m call) ≡ first_turn m.setting call (child_of row.pairs (call_key call))
  pub counted : (begun m call).registers.tally ≡ record m.registers.tally { from_cache = up m.registers.tally.from_cache }
  pub origin : (begun m call).registers.origin ≡ Some row.low
  pub cached : (begun m call).registers.cached ≡ m.registers.cached

-- another call loads the root word
pub record BeginsByRoot (m : Machine) (call : Call) : Type 0 where
  pub wants : want_of (begun m call) ≡ want.Event (Load root_word)
  pub counted : (begun m call).registers.tally ≡ m.registers.tally
  pub cached : (begun m call).registers.cached ≡ m.registers.cached

abbrev pub BeginsBy : Machine → Call → Option Inner → Type 0
BeginsBy m call None = BeginsByRoot m call
BeginsBy m call (Some row) = BeginsByRow m call row

-- the image that the word makes an accepted one
abbrev pub image_shown : Machine → (word : ℕ) → Option Image
image_shown m word = image_by (loaded m word) (progress_of m.setting m.registers.reads word)

-- The word shows an inner node of level 1: a descent to a leaf has READ it without a lock, and the word makes it accepted.
pub record ShowsParent (m : Machine) (word : ℕ) (row : Inner) : Type 0 where
  pub aim : Aim
  pub top : Bool
  pub reads : m.phase ≡ Read aim top
  pub leaf_bound : target aim ≡ 0
  pub level : row.level ≡ 1
  pub image_is : image_shown m word ≡ Some (InnerImage row)

-- what a READ is for
abbrev pub read_aim : Phase → Option Aim
read_aim (Read aim top) = Some aim
read_aim (ReadLocked aim depth) = Some aim
read_aim phase = None

-- The word shows the first image of a call that began by the cached node with this low fence, and it leads to the right.
pub record IsStale (m : Machine) (word low : ℕ) : Type 0 where
  pub origin : m.registers.origin ≡ Some low
  pub aim : Aim
  pub reads : read_aim m.phase ≡ Some aim
  pub image : Image
  pub image_is : image_shown m word ≡ Some image
  pub right : leads_right m.registers.call aim image ≡ true

-- The node that the word shows takes a cached node's place: that of the one with its low fence, or of the oldest one where
-- the cache is full.
pub record IsReplaced (m : Machine) (word : ℕ) (row : Inner) : Type 0 where
  pub by : Inner
  pub shown : ShowsParent m word by
  pub place : (row.low ≡ by.low) ⊎ IsOldest m.setting.cached m.registers.cached row
