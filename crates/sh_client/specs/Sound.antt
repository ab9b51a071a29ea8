-- What a client keeps to, whatever words it is fed.
use Rattle.std.specs.{Prelude.{◌≡◌, ◌≢◌, ℕ, ◌+◌, ◌<◌, ◌≤◌, List, length, Option, Some, None}, List.{AllByRecursion}}
use Rattle.sh_base.specs.{declared.config.ConfigParts.{ConfigParts}, Layout.{lock_of}, Setting.{all_locks, all_seats, entry_size, node_size, nodes, IsNode}}
use Rattle.sh_map.specs.{declared.{call.Call.{Call}, book.Row.{Row}}, Calls.{IsInRange}}
use Rattle.sh_alloc.specs.{declared.state.{NodeRange.{NodeRange}, Walk.{Walk}, Chunks.{Chunks}}, Walks.{walk_wants}, Chunks.{WantsEvent}}
use Rattle.sh_image.specs.{declared.inner.Image.{Image}, Inner.{IsInner}}
use Rattle.sh_cache.specs.Cached.{Rows as CacheRows}
use Rattle.sh_read.specs.{Reads.{Reader, Reads, accepted, wanted}, declared.state.Progress.{Progress, TheVariants.{More, Accepted, Again, Odd}}}
use Rattle.sh_decide.specs.declared.state.{Posting.{Posting}, Aim.{Aim, TheVariants.{Own, Gathers, Posts}}, Decision.{Decision}}
use Rattle.sh_decide.specs.Allowed.{Allows, CanChange, CanSplit, HasEntryAt, HasRoom, HasVersion}
use Rattle.sh_client.specs.declared.state.{Then.{Then, TheVariants.{Ends, Starts, Takes}}, Write.{Write, TheVariants.{Nothing, Entry}}, Giving.{Giving}, Need.{Need, TheVariants.{ToSplit, ToGrow}}}
use Rattle.sh_client.specs.declared.state.{Filling.{Filling, TheVariants.{RightHalf, NewRoot}}, Phase.{Phase}}
use Rattle.sh_client.specs.{declared.state.Phase.TheVariants.{Root, Read, Draw, Look, Grab, ReadLocked, Seek, Fill, Waiting, Body, Unlock, Leave, Swap}, Machine.{Machine, Registers}}

-- a post of a node of the setting, to a level that the setting may have
pub record IsPost (p : ConfigParts) (post : Posting) : Type 0 where
  pub node : IsNode p post.node
  pub level : post.level ≤ nodes p

abbrev pub IsAim : ConfigParts → Aim → Type 0
IsAim p Own = Unit {0}
IsAim p (Gathers place) = Unit {0}
IsAim p (Posts post) = IsPost p post

abbrev pub IsThen : ConfigParts → Then → Type 0
IsThen p Ends = Unit {0}
IsThen p (Starts aim) = IsAim p aim
IsThen p (Takes aim node) = IsAim p aim × IsNode p node

-- there are as many words as are to be stored, some at least
abbrev pub IsFilled : ConfigParts → Write → List ℕ → Type 0
IsFilled p Nothing body = ⊥
IsFilled p (Entry index) body = (index < p.leaf) × (length body ≡ entry_size p)
IsFilled p write body = length body ≡ node_size p

-- or none are
abbrev pub IsBody : ConfigParts → Write → List ℕ → Type 0
IsBody p Nothing body = Unit {0}
IsBody p write body = IsFilled p write body

-- the spare nodes are nodes of the setting
pub record AreSpare (p : ConfigParts) (r : NodeRange) : Type 0 where
  pub low : 1 ≤ r.first
  pub high : r.first + r.count ≤ nodes p + 1

-- a READ that was accepted, of a node that can be split so
abbrev pub HasSplit : ConfigParts → Call → Aim → Option Image → Type 0
HasSplit p call aim (Some image) = CanSplit p call aim image
HasSplit p call aim None = ⊥

-- words are left to load
abbrev pub IsLoading : ConfigParts → Reads → Type 0
IsLoading p reads = wanted p reads ≢ None

-- what is left behind an answer of a READ
abbrev pub Leaves : ConfigParts → Reads → Progress → Type 0
Leaves p reads More = IsLoading p reads
Leaves p reads Accepted = accepted p reads ≢ None
Leaves p reads (Again rear front) = IsLoading p reads
Leaves p reads Odd = Unit {0}

-- a walk over the counters under way, with no spare node left
pub record IsWalking (p : ConfigParts) (spare : NodeRange) (walk : Walk) : Type 0 where
  pub wants : WantsEvent (walk_wants p walk)
  pub none : spare.count ≡ 0

-- a fresh node with its words, of which some are left to store
pub record IsFresh (p : ConfigParts) (fresh : ℕ) (ready : List ℕ) : Type 0 where
  pub node : IsNode p fresh
  pub words : length ready ≡ node_size p

-- a lock that is to be given back: of a node, behind words that are there
pub record IsGiving (p : ConfigParts) (body : List ℕ) (giving : Giving) : Type 0 where
  pub node_is : IsNode p giving.node
  pub filled : IsBody p giving.write body
  pub then_is : IsThen p giving.after

pub record IsLocked (p : ConfigParts) (node : ℕ) (after : Then) : Type 0 where
  pub node_is : IsNode p node
  pub then_is : IsThen p after

-- a lock is handed over once at least, and no more often than the bound
abbrev pub IsCarry : ConfigParts → Option ℕ → Type 0
IsCarry p None = Unit {0}
IsCarry p (Some depth) = (1 ≤ depth) × (depth ≤ p.bound)

-- a node is sought to split one that was READ under its lock, or to go over a root
abbrev pub IsNeed : ConfigParts → Call → Reads → Need → Type 0
IsNeed p call reads (ToSplit aim depth) = IsAim p aim × (depth ≤ p.bound) × HasSplit p call aim (accepted p reads)
IsNeed p call reads (ToGrow post root) = IsPost p post × IsNode p root

-- what a fresh node is filled with; a new root's is the last node that was taken of the spare ones
abbrev pub IsFilling : ConfigParts → Registers → (fresh : ℕ) → Filling → Type 0
IsFilling p r fresh (RightHalf depth giving) = (depth ≤ p.bound) × IsGiving p r.body giving
IsFilling p r fresh (NewRoot post root) = IsPost p post × (fresh + 1 ≡ r.spare.first)

abbrev pub IsSound : ConfigParts → Registers → Phase → Type 0
IsSound p r (Root aim) = IsAim p aim
IsSound p r (Read aim top) = IsAim p aim × IsLoading p r.reads
IsSound p r (Draw aim node) = IsAim p aim × IsNode p node
IsSound p r (Look aim node) = IsAim p aim × IsNode p node
IsSound p r (Grab aim node) = IsAim p aim × IsNode p node
IsSound p r (ReadLocked aim depth) = IsAim p aim × (depth ≤ p.bound) × IsLoading p r.reads
IsSound p r (Seek need) = IsNeed p r.call r.reads need × IsWalking p r.spare r.walk
IsSound p r (Fill fresh done filling) = IsFilling p r fresh filling × IsFresh p fresh r.fresh_words × (done < node_size p)
IsSound p r (Waiting depth giving) = (depth ≤ p.bound) × IsGiving p r.body giving
IsSound p r (Body carry done giving) = IsCarry p carry × IsLocked p giving.node giving.after × IsFilled p giving.write r.body × (done < length r.body)
IsSound p r (Unlock node after) = IsLocked p node after
IsSound p r (Leave node carry after) = IsCarry p carry × IsLocked p node after
IsSound p r (Swap post root fresh) = IsPost p post × IsNode p fresh × (fresh + 1 ≡ r.spare.first)
IsSound p r phase = Unit {0}

-- a machine may be at this
abbrev pub Stands : Machine → Phase → Type 0
Stands m phase = IsSound m.setting m.registers phase

-- what a decision needs, of the image of a READ, which there is
abbrev pub AllowsIn : ConfigParts → Call → Aim → Option Image → Decision → Type 0
AllowsIn p call aim (Some image) d = Allows p call aim image d
AllowsIn p call aim None d = ⊥

abbrev pub CanChangeIn : Option Image → (index : ℕ) → Type 0
CanChangeIn (Some image) index = CanChange image index
CanChangeIn None index = ⊥

abbrev pub CanRewriteIn : Option Image → (index : ℕ) → Type 0
CanRewriteIn (Some image) index = HasEntryAt image index × HasVersion image
CanRewriteIn None index = ⊥

abbrev pub CanAddIn : ConfigParts → Aim → Option Image → Type 0
CanAddIn p aim (Some image) = HasRoom p aim image × HasVersion image
CanAddIn p aim None = ⊥

-- while a client waits for a lock it keeps the lock's number
abbrev pub KeepsLock : ConfigParts → (lock : ℕ) → Phase → Type 0
KeepsLock p lock (Look aim node) = (lock ≡ lock_of p node) × (lock < all_locks p)
KeepsLock p lock (Grab aim node) = (lock ≡ lock_of p node) × (lock < all_locks p)
KeepsLock p lock phase = Unit {0}

-- a phase for which no number is kept
abbrev pub NeedsNoLock : Phase → Type 0
NeedsNoLock (Look aim node) = ⊥
NeedsNoLock (Grab aim node) = ⊥
NeedsNoLock phase = Unit {0}

-- the rows are no more than the setting says, and room for so many is reserved
pub record AreRows (p : ConfigParts) (room : ℕ) (rows : List Row) : Type 0 where
  pub reserved : p.rows ≤ room
  pub few : length rows ≤ p.rows

-- the parts of a client are of one setting, and fit what it is at
pub record IsClient (p : ConfigParts) (seat : ℕ) (r : Registers) (reader : Reader) (chunks : Chunks) (cache : CacheRows) (room lock : ℕ) (phase : Phase) : Type 0 where
  pub one_setting : (reader.setting ≡ p) × (chunks.cfg.parts ≡ p) × (cache.room ≡ p.cached)
  pub rows_fit : AreRows p room r.rows
  pub cached_fit : AllByRecursion (IsInner p) r.cached
  pub seat_is : seat < all_seats p
  pub in_range : IsInRange p r.call
  pub spares : AreSpare p r.spare
  pub sound : IsSound p r phase
  pub keeps_lock : KeepsLock p lock phase
