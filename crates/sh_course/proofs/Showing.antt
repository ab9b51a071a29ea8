-- What the course of a call has shown, by what its client is at.
use Rattle.std.proofs.Common.{◌≡◌, ◌⊎◌, ℕ, ◌+◌, ◌%◌, ◌<◌, false, List, ◌++◌, length, Some, rules, [], ◌∷◌, ap, inr}
use Rattle.sh_base.specs.{Layout.{lock_of}, Setting.{node_size}, declared.config.ConfigParts.{ConfigParts}}
use Rattle.sh_map.specs.declared.{book.Row.{Row}, call.{Call.{Call}, Reply.{Reply}}}
use Rattle.sh_alloc.specs.declared.state.{NodeRange.{NodeRange}, Phase.{Phase as WalkPhase, TheVariants.{Loading, Adding}}, Walk.{Walk}}
use Rattle.sh_image.specs.{Leaf.{Leaf, Spells}, declared.inner.Image.{TheVariants.{Leaf as LeafImage}}}
use Rattle.sh_read.specs.Reads.{Reads, accepted}
use Rattle.sh_decide.specs.{Aims.{call_key, end_of}, declared.state.Aim.{Aim, TheVariants.{Own, Gathers, Posts}}}
use Rattle.sh_client.specs.{declared.state.{Need.{Need}, Phase.{Phase}, Then.{Then}, Write.{Write, TheVariants.{Nothing}}}}
use Rattle.sh_client.specs.{Giving.{writes_nothing}, declared.state.{Filling.{Filling, TheVariants.{RightHalf, NewRoot}}, Need.TheVariants.{ToSplit, ToGrow}, Then.TheVariants.{Ends, Starts, Takes}}}
use Rattle.sh_client.specs.{Machine.{Machine, Registers}, declared.state.Phase.TheVariants.{Idle, Root, Read, Draw, Look, Grab, ReadLocked, Seek, Fill, Waiting, Body, Unlock, Leave, Swap, Ended}}
use Rattle.sh_course.specs.{Answers.{Caused, HasOneKey}, Causes.{IsFull, FoundFull, FoundWorn}, Stores.{AllCount, IsCount}, Turns.{Taken}}
use Rattle.sh_course.specs.{Found.{loads_of, holds, AllGotNone, AllSpare, FoundSpent, HasReadLocked, GotNone, HasRun, SparesNodes}, Ranges.{place_behind, rows_of_leaves, AreRead, FoundRows, HasLeaf}}
use Rattle.sh_map.specs.declared.call.Reply.TheVariants as reply

-- the answer of a leaf
abbrev pub IsPlain : Call → Reply → Type 0
IsPlain call (reply.Some value) = HasOneKey call
IsPlain call reply.None = HasOneKey call
IsPlain call r = ⊥

-- a word of a node was stored
abbrev pub HasStored : ConfigParts → List Taken → Type 0
HasStored p turns = AllSpare p turns → ⊥

-- a range has come to a place
pub record Gathered (p : ConfigParts) (low high : ℕ) (turns : List Taken) (rows : List Row) (place : ℕ) : Type 0 where
  pub leaves : List Leaf
  pub read : AreRead p low turns leaves
  pub rows_are : rows ≡ rows_of_leaves p low high leaves
  pub place_is : place ≡ place_behind low leaves

-- On the way to its leaf an update stored no word of a node and took no spare one; a post comes behind stores that were made.
abbrev pub AimShows : ConfigParts → Call → (start : NodeRange) → List Taken → (now : NodeRange) → List Row → Reply → Aim → Type 0
AimShows p call start turns now rows r Own = AllSpare p turns × (now ≡ start) × HasOneKey call
AimShows p call start turns now rows r (Gathers place) = Gathered p (call_key call) (end_of call) turns rows place
AimShows p call start turns now rows r (Posts post) = IsPlain call r × HasStored p turns

abbrev pub ThenShows : ConfigParts → Call → (start : NodeRange) → List Taken → (now : NodeRange) → List Row → Reply → Then → Type 0
ThenShows p call start turns now rows r Ends = Caused p call start turns rows r
ThenShows p call start turns now rows r (Starts aim) = AimShows p call start turns now rows r aim
ThenShows p call start turns now rows r (Takes aim node) = AimShows p call start turns now rows r aim

-- what follows a write
abbrev pub StoresThen : Call → Reply → Then → Type 0
StoresThen call r Ends = IsPlain call r
StoresThen call r (Starts (Posts post)) = IsPlain call r
StoresThen call r after = ⊥

abbrev pub WriteShows : ConfigParts → Call → (start : NodeRange) → List Taken → (now : NodeRange) → List Row → Reply → Then → Write → Type 0
WriteShows p call start turns now rows r after Nothing = ThenShows p call start turns now rows r after
WriteShows p call start turns now rows r after write = StoresThen call r after

-- a READ, of which these words are loaded
pub record RunsOn (p : ConfigParts) (turns : List Taken) (reads : Reads) : Type 0 where
  pub before : List Taken
  pub whole : turns ≡ loads_of p reads.node reads.loaded ++ before
  pub left : length reads.loaded < node_size p

abbrev pub Runs : WalkPhase → Type 0
Runs Loading = Unit {0}
Runs Adding = Unit {0}
Runs phase = ⊥

-- a walk over the counters: each server that it has passed was found spent, and no chunk was got
pub record WalksOn (p : ConfigParts) (seat : ℕ) (since : List Taken) (walk : Walk) : Type 0 where
  pub runs : Runs walk.phase
  pub first : walk.first ≡ seat % p.servers
  pub passed : (k : ℕ) → k < walk.passed → FoundSpent p ((walk.first + k) % p.servers) since
  pub got_none : AllGotNone p since
  pub counted : AllCount p since
  pub most : (walk.passed ≡ 0) ⊎ (walk.passed < p.servers)
  pub only : (server : ℕ) → FoundSpent p server since → (k : ℕ) × (k < walk.passed) × (server ≡ (walk.first + k) % p.servers)

-- a leaf was READ under its lock that is to be split, and a chunk is looked for since
pub record SeeksLeaf (p : ConfigParts) (call : Call) (seat : ℕ) (start : NodeRange) (turns : List Taken) (reads : Reads) (walk : Walk) : Type 0 where
  pub node : ℕ
  pub depth : ℕ
  pub words : List ℕ
  pub before : List Taken
  pub since : List Taken
  pub leaf : Leaf
  pub read : HasReadLocked p turns node depth words before since
  pub spells : Spells p words leaf
  pub full : IsFull p call leaf
  pub image : accepted p reads ≡ Some (LeafImage leaf)
  pub none : start.count ≡ 0
  pub walks : WalksOn p seat since walk

-- the last turn loads and adds no counter
abbrev pub StartsApart : ConfigParts → List Taken → Type 0
StartsApart p [] = Unit {0}
StartsApart p (t ∷ turns) = IsCount p t.want → ⊥

-- a chunk is looked for since, and there is no spare node
pub record Counts (p : ConfigParts) (seat : ℕ) (turns : List Taken) (now : NodeRange) (walk : Walk) : Type 0 where
  pub before : List Taken
  pub since : List Taken
  pub whole : turns ≡ since ++ before
  pub none : now.count ≡ 0
  pub apart : StartsApart p before
  pub walks : WalksOn p seat since walk

abbrev pub SeekShows : ConfigParts → Call → (seat : ℕ) → (start : NodeRange) → List Taken → Registers → Need → Type 0
SeekShows p call seat start turns r (ToSplit Own depth) = (AllSpare p turns × (r.spare ≡ start) × HasOneKey call) × SeeksLeaf p call seat start turns r.reads r.walk
SeekShows p call seat start turns r (ToSplit (Gathers place) depth) = ⊥
SeekShows p call seat start turns r (ToSplit (Posts post) depth) = (IsPlain call r.reply × HasStored p turns) × Counts p seat turns r.spare r.walk
SeekShows p call seat start turns r (ToGrow post root) = (IsPlain call r.reply × HasStored p turns) × Counts p seat turns r.spare r.walk

-- it is for a post
abbrev pub IsPosting : Need → Type 0
IsPosting (ToSplit (Posts post) depth) = Unit {0}
IsPosting (ToGrow post root) = Unit {0}
IsPosting need = ⊥

abbrev pub FillShows : ConfigParts → Call → Reply → List Taken → Filling → Type 0
FillShows p call r turns (RightHalf depth giving) = (writes_nothing giving.write ≡ false) × StoresThen call r giving.after
FillShows p call r turns (NewRoot post root) = IsPlain call r × HasStored p turns

abbrev pub AimOf : (start : NodeRange) → List Taken → Machine → Aim → Type 0
AimOf s t m aim = AimShows m.setting m.registers.call s t m.registers.spare m.registers.rows m.registers.reply aim

abbrev pub ThenOf : (start : NodeRange) → List Taken → Machine → Then → Type 0
ThenOf s t m after = ThenShows m.setting m.registers.call s t m.registers.spare m.registers.rows m.registers.reply after

abbrev pub Shows : (start : NodeRange) → List Taken → Machine → Phase → Type 0
Shows s t m Idle = Unit {0}
Shows s t m (Root aim) = AimOf s t m aim
Shows s t m (Read aim top) = AimOf s t m aim × RunsOn m.setting t m.registers.reads
Shows s t m (Draw aim node) = AimOf s t m aim
Shows s t m (Look aim node) = AimOf s t m aim
Shows s t m (Grab aim node) = AimOf s t m aim
Shows s t m (ReadLocked aim depth) = AimOf s t m aim × RunsOn m.setting t m.registers.reads × (holds m.setting (lock_of m.setting m.registers.reads.node) t ≡ Some depth)
Shows s t m (Seek need) = SeekShows m.setting m.registers.call m.seat s t m.registers need
Shows s t m (Fill fresh done filling) = FillShows m.setting m.registers.call m.registers.reply t filling
Shows s t m (Waiting depth giving) = WriteShows m.setting m.registers.call s t m.registers.spare m.registers.rows m.registers.reply giving.after giving.write
Shows s t m (Body carry done giving) = StoresThen m.registers.call m.registers.reply giving.after
Shows s t m (Unlock node after) = ThenOf s t m after
Shows s t m (Leave node carry after) = ThenOf s t m after
Shows s t m (Swap post root fresh) = IsPlain m.registers.call m.registers.reply × HasStored m.setting t
Shows s t m Ended = Caused m.setting m.registers.call s t m.registers.rows m.registers.reply

abbrev pub Goes : (start : NodeRange) → List Taken → Machine → Type 0
Goes s t m = Shows s t m m.phase

-- ---- what turns have shown, they show with a turn more
pub run_more : (p : ConfigParts) (turns : List Taken) (t : Taken) (node : ℕ) (words : List ℕ) (before since : List Taken) → HasRun p turns node words before since → HasRun p (t ∷ turns) node words before (t ∷ since)
run_more p turns t node words before since h = record { node_is = h.node_is; all = h.all; whole = ap (λ (l : List Taken). t ∷ l) h.whole }

pub read_more : (p : ConfigParts) (turns : List Taken) (t : Taken) (node depth : ℕ) (words : List ℕ) (before since : List Taken) → HasReadLocked p turns node depth words before since → HasReadLocked p (t ∷ turns) node depth words before (t ∷ since)
read_more p turns t node depth words before since h = record { run = run_more p turns t node words before since h.run; locked = h.locked }

pub leaves_more : (p : ConfigParts) (low : ℕ) (turns : List Taken) (t : Taken) (leaves : List Leaf) → AreRead p low turns leaves → AreRead p low (t ∷ turns) leaves
leaves_more p low turns t [] h = tt
leaves_more p low turns t (a ∷ leaves) h =
    let f : HasLeaf p turns a (place_behind low leaves) = h.0 in
    (record { node = f.node; words = f.words; before = f.before; since = t ∷ f.since; run = run_more p turns t f.node f.words f.before f.since f.run; spells = f.spells; low = f.low; high = f.high }, leaves_more p low turns t leaves h.1)

pub no_cause : (p : ConfigParts) (call : Call) (start : NodeRange) (turns : List Taken) (rows : List Row) (r : Reply) → IsPlain call r → Caused p call start turns rows r
no_cause p call start turns rows r h = search rules

-- behind a write
pub stored_then : (p : ConfigParts) (call : Call) (start : NodeRange) (turns : List Taken) (now : NodeRange) (rows : List Row) (r : Reply) (after : Then) → HasStored p turns → StoresThen call r after → ThenShows p call start turns now rows r after
stored_then p call start turns now rows r after stored h = search (rules, no_cause)

module _ (p : ConfigParts) (call : Call) (start : NodeRange) (turns : List Taken) (now : NodeRange) (rows : List Row) (t : Taken) where
  pub stored_more : HasStored p turns → HasStored p (t ∷ turns)
  stored_more h = λ spares. h spares.1

  pub gathered_more : (place : ℕ) → Gathered p (call_key call) (end_of call) turns rows place → Gathered p (call_key call) (end_of call) (t ∷ turns) rows place
  gathered_more place h = record { leaves = h.leaves; read = leaves_more p (call_key call) turns t h.leaves h.read; rows_are = h.rows_are; place_is = h.place_is }

  module _ (spares : SparesNodes p t.want) where
    module _ (got : GotNone p t.want t.found) where
      pub caused_more : (r : Reply) → Caused p call start turns rows r → Caused p call start (t ∷ turns) rows r
      caused_more (reply.Some value) h = h
      caused_more reply.None h = h
      caused_more (reply.Rows upto) h =
          let f : FoundRows p (call_key call) (end_of call) turns rows upto = h in
          record { leaves = f.leaves; read = leaves_more p (call_key call) turns t f.leaves f.read; rows_are = f.rows_are; ends = f.ends; early = f.early; full = f.full; within = f.within }
      caused_more reply.Full h =
          let f : FoundFull p call turns = h.0 in
          (record { node = f.node; depth = f.depth; words = f.words; before = f.before; since = t ∷ f.since; leaf = f.leaf; read = read_more p turns t f.node f.depth f.words f.before f.since f.read; spells = f.spells; full = f.full; spent = λ server below. inr (f.spent server below); got_none = (got, f.got_none); spares = (spares, f.spares) }, h.1)
      caused_more (reply.Worn version) h =
          let f : FoundWorn p call turns version = h in
          record { node = f.node; depth = f.depth; words = f.words; before = f.before; since = t ∷ f.since; leaf = f.leaf; read = read_more p turns t f.node f.depth f.words f.before f.since f.read; spells = f.spells; worn = f.worn; last = f.last; spares = (spares, f.spares) }

    pub aim_more : (r : Reply) (aim : Aim) → AimShows p call start turns now rows r aim → AimShows p call start (t ∷ turns) now rows r aim
    aim_more r aim h = search (rules, gathered_more, stored_more)

    pub then_more : GotNone p t.want t.found → (r : Reply) (after : Then) → ThenShows p call start turns now rows r after → ThenShows p call start (t ∷ turns) now rows r after
    then_more got r after h = search (rules, caused_more, aim_more)
