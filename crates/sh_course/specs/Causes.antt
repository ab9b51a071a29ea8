-- The causes of refusals, in the words that the course of the call found.
use Rattle.std.specs.{Prelude.{◌≡◌, ℕ, ◌<◌, ◌≤◌, List, Option, Some, None, true}, List.{AllByRecursion}}
use Rattle.sh_base.specs.{declared.config.ConfigParts.{ConfigParts}, Setting.{last_version, last_entry_version, IsSetting}}
use Rattle.sh_map.specs.declared.call.{Call.{Call, TheVariants.{Put, Del}}, Reply.{Reply}}
use Rattle.sh_image.specs.{Leaf.{Leaf, Spells}, Inner.{IsInner}}
use Rattle.sh_decide.specs.{Aims.{call_key}, Leaves.{are_keys_once, index_of, version_at}}
use Rattle.sh_client.specs.{Feeds.{begun}, Machine.{Machine}, Rests.{reply_of}}
use Rattle.sh_course.specs.{Turns.{IsCallCourse, Taken}, Found.{AllGotNone, AllSpare, AllSpent, HasReadLocked}}

-- a client of a lawful setting, whose cached nodes are lawful
pub record IsReady (m : Machine) : Type 0 where
  pub setting : IsSetting m.setting
  pub cached : AllByRecursion (IsInner m.setting) m.registers.cached

-- a leaf with the call's key between its fences, and no key twice
pub record IsLeafFor (a : Leaf) (key : ℕ) : Type 0 where
  pub low : a.low ≤ key
  pub high : key < a.high
  pub once : are_keys_once a.entries ≡ true

-- the entry that an update can use: that with its key, and for a put the first empty one where none has the key
abbrev pub put_slot : Leaf → (over : Option ℕ) → Option ℕ
put_slot a (Some index) = Some index
put_slot a None = index_of a.entries 0

abbrev pub slot_of : Leaf → Call → Option ℕ
slot_of a (Put key value) = put_slot a (index_of a.entries key)
slot_of a (Del key) = index_of a.entries key
slot_of a call = None

-- it's at its last version; or there is none, for a put
abbrev pub NeedsNode : Leaf → Call → (slot : Option ℕ) → Type 0
NeedsNode a call (Some index) = last_entry_version ≤ version_at a.entries index
NeedsNode a (Put key value) None = Unit {0}
NeedsNode a call None = ⊥

-- The leaf has the last version, which is answered, and the update would have to rewrite or to split it.
pub record IsWorn (p : ConfigParts) (call : Call) (a : Leaf) (version : ℕ) : Type 0 where
  pub leaf : IsLeafFor a (call_key call)
  pub version_is : version ≡ a.version
  pub last : last_version p ≤ a.version
  pub needs : NeedsNode a call (slot_of a call)

-- A put finds neither its key nor an empty entry, and the leaf has a version left.
pub record IsFull (p : ConfigParts) (call : Call) (a : Leaf) : Type 0 where
  pub leaf : IsLeafFor a (call_key call)
  pub put : NeedsNode a call None
  pub none : slot_of a call ≡ None
  pub version : a.version < last_version p

-- An update was worn: in its course it READ a worn leaf under the leaf's lock. No turn of it stored a word of a node.
pub record FoundWorn (p : ConfigParts) (call : Call) (turns : List Taken) (version : ℕ) : Type 0 where
  pub node : ℕ
  pub depth : ℕ
  pub words : List ℕ
  pub before : List Taken
  pub since : List Taken
  pub leaf : Leaf
  pub read : HasReadLocked p turns node depth words before since
  pub spells : Spells p words leaf
  pub worn : IsWorn p call leaf version
  pub last : version ≡ last_version p
  pub spares : AllSpare p turns

-- A put was full: in its course it READ a full leaf under the leaf's lock, and since then it found each server's counter at
-- the limit, and got no chunk. No turn of it stored a word of a node.
pub record FoundFull (p : ConfigParts) (call : Call) (turns : List Taken) : Type 0 where
  pub node : ℕ
  pub depth : ℕ
  pub words : List ℕ
  pub before : List Taken
  pub since : List Taken
  pub leaf : Leaf
  pub read : HasReadLocked p turns node depth words before since
  pub spells : Spells p words leaf
  pub full : IsFull p call leaf
  pub spent : AllSpent p since
  pub got_none : AllGotNone p since
  pub spares : AllSpare p turns

-- A call that has ended with a reply READ this leaf under the leaf's lock, in whose course no word of a node was stored before.
pub record ReadsThenEnds (m n : Machine) (call : Call) (turns before since : List Taken) (node depth : ℕ) (a : Leaf) (r : Reply) : Type 0 where
  pub ready : IsReady m
  pub course : IsCallCourse (begun m call) turns n
  pub replied : reply_of n ≡ Some r
  pub words : List ℕ
  pub read : HasReadLocked m.setting turns node depth words before since
  pub spells : Spells m.setting words a
  pub spares : AllSpare m.setting before
