-- What a client knows of the scene, by what it is at.
use Rattle.std.specs.Prelude.{◌≡◌, ◌≢◌, ℕ, zero, suc, ◌+◌, ◌-◌, ◌*◌, ◌^◌, ◌%◌, ◌<◌, ◌≤◌, Bool, true, false, List, [], ◌∷◌, length, drop, slice_index, slice_set, slice_get, Option, Some, None}
use Rattle.sh_base.specs.{declared.config.ConfigParts.{ConfigParts}, Setting.{node_size, last_version, IsNode}, Layout.{lock_of, entry_at}}
use Rattle.sh_map.specs.{declared.{call.{Call.{Call}, Reply.{Reply}}, book.Row.{Row}, log.Entry.{Entry as LogEntry}}, Calls.{IsKey}, Map.{get}, Log.{changed, map_at}, Made.{entries_by}}
use Rattle.sh_map.specs.declared.call.Call.TheVariants as call
use Rattle.sh_map.specs.declared.call.Reply.TheVariants as reply
use Rattle.sh_map.specs.declared.log.Change.TheVariants as change
use Rattle.sh_image.specs.{declared.{leaf.LeafEntry.{LeafEntry}, inner.{Pair.{Pair}, Image.{Image}}}, Entries.{entry_words}, Leaf.{Leaf, IsEntry, IsLeaf, leaf_in, leaf_words}}
use Rattle.sh_image.specs.Inner.{inner_in, inner_words}
use Rattle.sh_edit.specs.{Held.{map_of_entries, HasKeysOnce}, Splitting.{left_half, right_half, separator_of, IsSplit}, Pairing.{left_inner, right_inner, middle_of, root_over, with_pair}}
use Rattle.sh_alloc.specs.{declared.state.{NodeRange.{NodeRange}, Walk.{Walk}}, Spares.{IsSpare}, Walks.{IsWalk, walk_wants}, Chunks.{WantsEvent}}
use Rattle.sh_read.specs.{Moments.{Writing, Idle as NoWrite, Whole, One}, Reads.{Reads, accepted}}
use Rattle.sh_state.specs.{TreeState.{Fresh, Linked, Pending, Seat, LockState, Held, Writes, TreeState, writing}, Nodes.{standing_entries}}
use Rattle.sh_acts.specs.Images.{IsEntryOf, IsPairOf}
use Rattle.sh_readers.specs.{Knows.{IsFed}, Hand.{IsNamed}, Ranges.{IsGathered}}
use Rattle.sh_decide.specs.{declared.state.{Posting.{Posting}, Aim.{Aim, TheVariants.{Own, Gathers, Posts}}}, Aims.{aim_of, aimed_key, post_of, takes_lock, target}, Deciding.{decision_of}}
use Rattle.sh_client.specs.declared.state.{Then.{Then, TheVariants.{Ends, Starts, Takes}}, Write.{Write, TheVariants.{Nothing, Entry, Leaf as WholeLeaf, LeftLeaf, Inner as WholeInner, LeftInner}}}
use Rattle.sh_client.specs.declared.state.{Phase.{Phase, TheVariants.{Root, Read, Draw, Look, Grab, ReadLocked, Seek, Fill, Waiting, Body, Unlock, Leave, Swap}}, Giving.{Giving}, Need.{Need}}
use Rattle.sh_client.specs.{declared.state.{Need.TheVariants.{ToSplit, ToGrow}, Filling.{Filling, TheVariants.{RightHalf, NewRoot}}}, Machine.{Registers}}
use Rattle.sh_decide.specs.declared.state.Decision.TheVariants as decision

-- ---- a post under way

-- the entry of a call that has made one stands in the log, at its point, where its seat has seen it
pub record HasEntry (log : List LogEntry) (seat first point seen : ℕ) (call : Call) (reply : Reply) : Type 0 where
  pub entry : LogEntry
  pub is : entries_by seat call reply ≡ entry ∷ []
  pub stands : slice_get log point ≡ Some entry
  pub from : first ≤ point
  pub below : point + 1 ≤ seen

-- A node that the seat is to post: it is linked in the level below the post's, and isn't its first; its call has made
-- its entry.
pub record IsPosting (s : TreeState) (seat first point seen : ℕ) (call : Call) (reply : Reply) (post : Posting) : Type 0 where
  pub below : ℕ
  pub level : post.level ≡ suc below
  pub linked : s.class post.node ≡ Linked below post.separator
  pub some : 0 < post.separator
  pub past : post.separator < 2 ^ 64 - 1
  pub mine : s.post post.node ≡ Pending seat
  pub entry : HasEntry s.log seat first point seen call reply

-- what a seat is to post, where it is to post a node
abbrev pub Owes : TreeState → (seat first point seen : ℕ) → Call → Reply → Option Posting → Type 0
Owes s seat first point seen call reply None = Unit {0}
Owes s seat first point seen call reply (Some post) = IsPosting s seat first point seen call reply post

-- the post that a descent is for
abbrev pub duty_of : Aim → Option Posting
duty_of Own = None
duty_of (Gathers place) = None
duty_of (Posts post) = Some post

-- ---- ranges

-- a range has gathered the rows of its keys below a place, and has room for more
pub record HasGathered (p : ConfigParts) (log : List LogEntry) (first : ℕ) (asked : Call) (rows : List Row) (place : ℕ) : Type 0 where
  pub low : ℕ
  pub high : ℕ
  pub call_is : asked ≡ call.Range low high
  pub place_is : IsKey place
  pub within : place ≤ high
  pub left : length rows < p.rows
  pub gathered : IsGathered log first low place rows

-- so has a descent that gathers rows; a range has no other descent
abbrev pub Gathered : ConfigParts → List LogEntry → (first : ℕ) → Call → List Row → Aim → Type 0
Gathered p log first call rows Own = aim_of call ≡ Own
Gathered p log first call rows (Posts post) = Unit {0}
Gathered p log first call rows (Gathers place) = HasGathered p log first call rows place

-- ---- READs

-- what the READ of a linked node knows by the words that are loaded: nothing before the first
abbrev pub HasRead : ConfigParts → TreeState → (first level node : ℕ) → (loaded : List ℕ) → Type 0
HasRead p s first level node [] = Unit {0}
HasRead p s first level node (x ∷ loaded) = IsFed p s.log first level (s.node node) (writing p s node) (x ∷ loaded)

-- a node that is READ without a lock isn't below the wanted level; the root may be one level below
abbrev pub Reaches : (top : Bool) → (target level : ℕ) → Type 0
Reaches true target level = target ≤ level + 1
Reaches false target level = target ≤ level

-- a READ of a node on the way to a key
pub record IsOnWay (p : ConfigParts) (s : TreeState) (first : ℕ) (call : Call) (reads : Reads) (aim : Aim) (top : Bool) : Type 0 where
  pub level : ℕ
  pub named : IsNamed s level reads.node (aimed_key call aim)
  pub reach : Reaches top (target aim) level
  pub left : length reads.loaded < node_size p
  pub known : HasRead p s first level reads.node reads.loaded

-- the words are the node's last ones
abbrev pub AreLast : ConfigParts → (node loaded : List ℕ) → Type 0
AreLast p node loaded = drop (node_size p - length loaded) node ≡ loaded

-- a READ under the node's lock
pub record IsReading (p : ConfigParts) (s : TreeState) (reads : Reads) : Type 0 where
  pub left : length reads.loaded < node_size p
  pub standing : AreLast p (s.node reads.node) reads.loaded

-- a node that was READ under its lock, and is to be split
pub record IsToSplit (p : ConfigParts) (s : TreeState) (call : Call) (reads : Reads) (aim : Aim) : Type 0 where
  pub standing : reads.loaded ≡ s.node reads.node
  pub image : Image
  pub accepted_is : accepted p reads ≡ Some image
  pub split : decision_of p call aim image ≡ decision.Split

-- ---- own nodes

abbrev pub AreSpares : TreeState → (seat : ℕ) → NodeRange → Type 0
AreSpares s seat spare = (n : ℕ) → IsSpare spare n → s.class n ≡ Fresh seat

-- every server's counter is at or above the number of its chunks
abbrev pub AreSpent : ConfigParts → (counter : ℕ → ℕ) → Type 0
AreSpent p counter = (server : ℕ) → server < p.servers → p.chunks ≤ counter server

-- so are the counters of the servers that a walk has passed
abbrev pub ArePassed : ConfigParts → (counter : ℕ → ℕ) → Walk → Type 0
ArePassed p counter walk = (k : ℕ) → k < walk.passed → p.chunks ≤ counter ((walk.first + k) % p.servers)

-- a walk over the counters is under way, while no node is spare
pub record IsSeeking (p : ConfigParts) (s : TreeState) (walk : Walk) (spare : NodeRange) : Type 0 where
  pub walk_is : IsWalk p walk
  pub wants : WantsEvent (walk_wants p walk)
  pub passed : ArePassed p s.counter walk
  pub none : spare.count ≡ 0

-- an own node that isn't spare, of which so many words are stored
pub record FillsFresh (s : TreeState) (seat : ℕ) (spare : NodeRange) (ready : List ℕ) (fresh done : ℕ) : Type 0 where
  pub own : s.class fresh ≡ Fresh seat
  pub under : fresh < spare.first
  pub words : (offset : ℕ) → offset < done → slice_index (s.node fresh) offset ≡ slice_index ready offset

-- ---- what is stored under a lock

-- what an update's entry is to the leaf's words
pub record ChangesEntry (p : ConfigParts) (node : List ℕ) (entry : LogEntry) (body : List ℕ) (index : ℕ) : Type 0 where
  pub x : LeafEntry
  pub index_is : index < p.leaf
  pub body_is : body ≡ entry_words x
  pub rules : IsEntry p (slice_index node 2) (slice_index node 3) x
  pub once : HasKeysOnce (slice_set (standing_entries p node) index x)
  pub change : map_of_entries (slice_set (standing_entries p node) index x) ≡ changed (map_of_entries (standing_entries p node)) entry.change
  pub rises : slice_index node (entry_at p index) < x.version

-- what an update's rewritten leaf is to the leaf's words
pub record ChangesLeaf (p : ConfigParts) (node : List ℕ) (entry : LogEntry) (body : List ℕ) : Type 0 where
  pub image : Leaf
  pub body_is : body ≡ leaf_words image
  pub rules : IsLeaf p image
  pub low_is : image.low ≡ slice_index node 2
  pub high_is : image.high ≡ slice_index node 3
  pub next_is : image.next ≡ slice_index node 4
  pub once : HasKeysOnce image.entries
  pub change : map_of_entries image.entries ≡ changed (map_of_entries (standing_entries p node)) entry.change
  pub rises : slice_index node 0 < image.version

-- what the halves of a leaf that a put splits are to the leaf's words, and the post of the right one
pub record CutsLeaf (p : ConfigParts) (node : List ℕ) (key : ℕ) (value : List ℕ) (body ready : List ℕ) (fresh : ℕ) (after : Then) : Type 0 where
  pub full : IsSplit (leaf_in p node) key
  pub room : (leaf_in p node).version < last_version p
  pub body_is : body ≡ leaf_words (left_half (leaf_in p node) key value fresh)
  pub ready_is : ready ≡ leaf_words (right_half (leaf_in p node) key value)
  pub after_is : after ≡ Starts (Posts (post_of (separator_of (standing_entries p node) key value) fresh 1))

-- what an inner node with the pair of a post is to the node's words
pub record AddsPair (p : ConfigParts) (node : List ℕ) (pair : Pair) (body : List ℕ) : Type 0 where
  pub space : length (inner_in node).pairs < 2 * p.leaf
  pub room : (inner_in node).version < last_version p
  pub body_is : body ≡ inner_words p (with_pair (inner_in node) pair)

-- what the halves of an inner node that a post splits are to the node's words, and the post of the right one
pub record CutsInner (p : ConfigParts) (node : List ℕ) (level : ℕ) (pair : Pair) (body ready : List ℕ) (fresh : ℕ) (after : Then) : Type 0 where
  pub full : length (inner_in node).pairs ≡ 2 * p.leaf
  pub room : (inner_in node).version < last_version p
  pub body_is : body ≡ inner_words p (left_inner p.leaf (inner_in node) pair fresh)
  pub ready_is : ready ≡ inner_words p (right_inner p.leaf (inner_in node) pair)
  pub after_is : after ≡ Starts (Posts (post_of (middle_of p.leaf (inner_in node).pairs pair) fresh (suc (suc level))))

-- an update that has nothing to post, and makes one log entry in a leaf
pub record IsUpdate (s : TreeState) (seat : ℕ) (made : List LogEntry) (n : ℕ) (duty : Option Posting) : Type 0 where
  pub none : duty ≡ None
  pub low : ℕ
  pub entry : LogEntry
  pub made_is : made ≡ entry ∷ []
  pub fits : IsEntryOf s seat n low entry

-- its own entry in its leaf
pub record PlansEntry (p : ConfigParts) (s : TreeState) (seat : ℕ) (made : List LogEntry) (body : List ℕ) (n index : ℕ) (duty : Option Posting) (after : Then) : Type 0 where
  pub update : IsUpdate s seat made n duty
  pub ends : after ≡ Ends
  pub change : ChangesEntry p (s.node n) update.entry body index

-- its rewritten leaf
pub record PlansLeaf (p : ConfigParts) (s : TreeState) (seat : ℕ) (made : List LogEntry) (body : List ℕ) (n : ℕ) (duty : Option Posting) (after : Then) : Type 0 where
  pub update : IsUpdate s seat made n duty
  pub ends : after ≡ Ends
  pub change : ChangesLeaf p (s.node n) update.entry body

-- the halves of a leaf that a put splits
pub record PlansLeftLeaf (p : ConfigParts) (s : TreeState) (seat : ℕ) (made : List LogEntry) (body ready : List ℕ) (n fresh : ℕ) (duty : Option Posting) (after : Then) : Type 0 where
  pub update : IsUpdate s seat made n duty
  pub key : ℕ
  pub value : List ℕ
  pub put_is : update.entry.change ≡ change.Put key value
  pub long : length value ≡ p.value_words
  pub cut : CutsLeaf p (s.node n) key value body ready fresh after

-- the pair of a post goes into the node that covers it
pub record PlansPair (s : TreeState) (seat n : ℕ) (duty : Option Posting) : Type 0 where
  pub level : ℕ
  pub low : ℕ
  pub pair : Pair
  pub duty_is : duty ≡ Some (post_of pair.separator pair.child (suc level))
  pub fits : IsPairOf s seat n level low pair

-- an inner node with the pair of a post
pub record PlansInner (p : ConfigParts) (s : TreeState) (seat : ℕ) (body : List ℕ) (n : ℕ) (duty : Option Posting) (after : Then) : Type 0 where
  pub plan : PlansPair s seat n duty
  pub ends : after ≡ Ends
  pub add : AddsPair p (s.node n) plan.pair body

-- the halves of an inner node that a post splits
pub record PlansLeftInner (p : ConfigParts) (s : TreeState) (seat : ℕ) (body ready : List ℕ) (n fresh : ℕ) (duty : Option Posting) (after : Then) : Type 0 where
  pub plan : PlansPair s seat n duty
  pub cut : CutsInner p (s.node n) plan.level plan.pair body ready fresh after

-- a split's halves
abbrev pub PlansHalf : ConfigParts → TreeState → (seat : ℕ) → Registers → (fresh : ℕ) → (n : ℕ) → Write → Then → Option Posting → Type 0
PlansHalf p s seat r fresh n LeftLeaf after duty = PlansLeftLeaf p s seat (entries_by seat r.call r.reply) r.body r.fresh_words n fresh duty after
PlansHalf p s seat r fresh n LeftInner after duty = PlansLeftInner p s seat r.body r.fresh_words n fresh duty after
PlansHalf p s seat r fresh n write after duty = ⊥

-- a split's halves, of which the right one is stored
pub record PlansSplit (p : ConfigParts) (s : TreeState) (seat : ℕ) (r : Registers) (n : ℕ) (write : Write) (after : Then) (duty : Option Posting) : Type 0 where
  pub fresh : ℕ
  pub half : PlansHalf p s seat r fresh n write after duty
  pub filled : FillsFresh s seat r.spare r.fresh_words fresh (node_size p)

-- ---- what follows

-- the map had nothing at the key, at a point that the seat has seen
pub record HadNone (log : List LogEntry) (first seen key : ℕ) : Type 0 where
  pub at : ℕ
  pub from : first ≤ at
  pub below : at ≤ seen
  pub absent : get (map_at log at) key ≡ None

-- a put was full: all chunks are drawn, and the map had nothing at its key
pub record WasFull (p : ConfigParts) (counter : ℕ → ℕ) (log : List LogEntry) (first seen key : ℕ) : Type 0 where
  pub spent : AreSpent p counter
  pub absent : HadNone log first seen key

-- The reply that is decided: an update has its entry; a delete without one found nothing; a put that found nothing was full;
-- and a node's versions were used up.
abbrev pub IsDecided : ConfigParts → TreeState → (seat first point seen : ℕ) → Call → Reply → Type 0
IsDecided p s seat first point seen (call.Put key value) (reply.Some old) = HasEntry s.log seat first point seen (call.Put key value) (reply.Some old)
IsDecided p s seat first point seen (call.Put key value) reply.None = HasEntry s.log seat first point seen (call.Put key value) reply.None
IsDecided p s seat first point seen (call.Del key) (reply.Some old) = HasEntry s.log seat first point seen (call.Del key) (reply.Some old)
IsDecided p s seat first point seen (call.Del key) reply.None = HadNone s.log first seen key
IsDecided p s seat first point seen (call.Put key value) reply.Full = WasFull p s.counter s.log first seen key
IsDecided p s seat first point seen (call.Put key value) (reply.Worn version) = version ≡ last_version p
IsDecided p s seat first point seen (call.Del key) (reply.Worn version) = version ≡ last_version p
IsDecided p s seat first point seen call reply = ⊥

-- a node of the wanted level, which begins no later than the key
abbrev pub IsThere : TreeState → Call → Aim → (n : ℕ) → Type 0
IsThere s call aim n = IsNamed s (target aim) n (aimed_key call aim)

-- the call ends with what is decided
pub record EndsDecided (p : ConfigParts) (s : TreeState) (seat first point seen : ℕ) (call : Call) (reply : Reply) (duty : Option Posting) : Type 0 where
  pub none : duty ≡ None
  pub decided : IsDecided p s seat first point seen call reply

-- a descent has come to such a node
pub record IsAtNode (s : TreeState) (call : Call) (aim : Aim) (n : ℕ) (duty : Option Posting) : Type 0 where
  pub duty_is : duty ≡ duty_of aim
  pub takes : takes_lock call aim ≡ true
  pub there : IsThere s call aim n

-- a descent that takes a lock starts again
pub record IsToStart (call : Call) (aim : Aim) (duty : Option Posting) : Type 0 where
  pub duty_is : duty ≡ duty_of aim
  pub takes : takes_lock call aim ≡ true

-- behind the lock the call ends, or a descent goes on
abbrev pub Follows : ConfigParts → TreeState → (seat first point seen : ℕ) → Call → Reply → Option Posting → Then → Type 0
Follows p s seat first point seen call reply duty Ends = EndsDecided p s seat first point seen call reply duty
Follows p s seat first point seen call reply duty (Starts aim) = IsToStart call aim duty
Follows p s seat first point seen call reply duty (Takes aim node) = IsAtNode s call aim node duty

-- what is to be stored before the lock of node n is given back, and what follows
abbrev pub Plans : ConfigParts → TreeState → (seat first point seen : ℕ) → Registers → (n : ℕ) → Write → Then → Option Posting → Type 0
Plans p s seat first point seen r n Nothing after duty = Follows p s seat first point seen r.call r.reply duty after
Plans p s seat first point seen r n (Entry index) after duty = PlansEntry p s seat (entries_by seat r.call r.reply) r.body n index duty after
Plans p s seat first point seen r n WholeLeaf after duty = PlansLeaf p s seat (entries_by seat r.call r.reply) r.body n duty after
Plans p s seat first point seen r n LeftLeaf after duty = PlansSplit p s seat r n LeftLeaf after duty
Plans p s seat first point seen r n WholeInner after duty = PlansInner p s seat r.body n duty after
Plans p s seat first point seen r n LeftInner after duty = PlansSplit p s seat r n LeftInner after duty

-- the WRITE under way of a body of which so many words are stored
abbrev pub write_of : Write → (body : List ℕ) → (done : ℕ) → Writing
write_of Nothing body done = NoWrite
write_of (Entry index) body done = One index body done
write_of write body done = Whole body done

-- the hold of the lock while a body is stored: before the first store no WRITE is under way
abbrev pub storing_hold : (seat depth n : ℕ) → Write → (body : List ℕ) → (done : ℕ) → LockState
storing_hold seat depth n write body zero = Held (Seat seat) depth
storing_hold seat depth n write body (suc done) = Writes seat depth n (write_of write body (suc done))

-- a lock is handed over with a depth more, within the bound
pub record HandsOnWithin (p : ConfigParts) (depth now : ℕ) : Type 0 where
  pub one_more : now ≡ depth + 1
  pub within : now ≤ p.bound

abbrev pub Carries : ConfigParts → (depth : ℕ) → Option ℕ → Type 0
Carries p depth None = Unit {0}
Carries p depth (Some now) = HandsOnWithin p depth now

-- the lock of a node is held while its body is stored
pub record IsStoring (p : ConfigParts) (s : TreeState) (seat : ℕ) (body : List ℕ) (n : ℕ) (carry : Option ℕ) (done : ℕ) (write : Write) : Type 0 where
  pub real : IsNode p n
  pub some : write ≢ Nothing
  pub depth : ℕ
  pub held : s.hold (lock_of p n) ≡ storing_hold seat depth n write body done
  pub carries : Carries p depth carry
  pub left : done < length body

-- and before and behind that
pub record IsHolding (p : ConfigParts) (s : TreeState) (seat n : ℕ) (carry : Option ℕ) : Type 0 where
  pub real : IsNode p n
  pub depth : ℕ
  pub held : s.hold (lock_of p n) ≡ Held (Seat seat) depth
  pub carries : Carries p depth carry

-- where a lock is handed over it is still held
abbrev pub IsLeaving : ConfigParts → TreeState → (seat n : ℕ) → Option ℕ → Type 0
IsLeaving p s seat n None = Unit {0}
IsLeaving p s seat n (Some depth) = IsHolding p s seat n (Some depth)

-- ---- a new root

-- the root that was loaded is a level below the post's, which is the one to make
pub record IsBelow (s : TreeState) (post : Posting) (root : ℕ) (duty : Option Posting) : Type 0 where
  pub duty_is : duty ≡ Some post
  pub below : ℕ
  pub level : post.level ≡ suc below
  pub named : IsNamed s below root post.separator

-- a new root over it, in an own node of which so many words are stored, the last one that was taken of the spare ones
pub record PlansRoot (p : ConfigParts) (s : TreeState) (seat : ℕ) (r : Registers) (post : Posting) (root fresh done : ℕ) (duty : Option Posting) : Type 0 where
  pub below : IsBelow s post root duty
  pub ready_is : r.fresh_words ≡ inner_words p (root_over post.level root post.separator post.node)
  pub filling : FillsFresh s seat r.spare r.fresh_words fresh done
  pub last : fresh + 1 ≡ r.spare.first

-- ---- by phases

-- a descent is to begin at the root
pub record IsAtRoot (p : ConfigParts) (s : TreeState) (first : ℕ) (r : Registers) (aim : Aim) (duty : Option Posting) : Type 0 where
  pub duty_is : duty ≡ duty_of aim
  pub rows : Gathered p s.log first r.call r.rows aim

-- a READ without a lock, on the way
pub record ReadsOnWay (p : ConfigParts) (s : TreeState) (first : ℕ) (r : Registers) (aim : Aim) (top : Bool) (duty : Option Posting) : Type 0 where
  pub duty_is : duty ≡ duty_of aim
  pub rows : Gathered p s.log first r.call r.rows aim
  pub on_way : IsOnWay p s first r.call r.reads aim top

-- the lock is held of the node that is READ, where a descent has come
pub record HoldsNode (p : ConfigParts) (s : TreeState) (seat : ℕ) (r : Registers) (aim : Aim) (depth : ℕ) (duty : Option Posting) : Type 0 where
  pub at : IsAtNode s r.call aim r.reads.node duty
  pub held : s.hold (lock_of p r.reads.node) ≡ Held (Seat seat) depth

-- its READ is under way
pub record ReadsUnderLock (p : ConfigParts) (s : TreeState) (seat : ℕ) (r : Registers) (aim : Aim) (depth : ℕ) (duty : Option Posting) : Type 0 where
  pub holds : HoldsNode p s seat r aim depth duty
  pub reading : IsReading p s r.reads

-- it is to be split
pub record IsSplitting (p : ConfigParts) (s : TreeState) (seat : ℕ) (r : Registers) (aim : Aim) (depth : ℕ) (duty : Option Posting) : Type 0 where
  pub holds : HoldsNode p s seat r aim depth duty
  pub to_split : IsToSplit p s r.call r.reads aim

-- what a fresh node is sought for
abbrev pub Needs : ConfigParts → TreeState → (seat : ℕ) → Registers → Option Posting → Need → Type 0
Needs p s seat r duty (ToSplit aim depth) = IsSplitting p s seat r aim depth duty
Needs p s seat r duty (ToGrow post root) = IsBelow s post root duty

-- a walk over the counters is under way for it
pub record Seeks (p : ConfigParts) (s : TreeState) (seat : ℕ) (r : Registers) (need : Need) (duty : Option Posting) : Type 0 where
  pub needs : Needs p s seat r duty need
  pub seeking : IsSeeking p s r.walk r.spare

-- the right half of a split is stored to a fresh node, under the lock of the node that is split
pub record FillsHalf (p : ConfigParts) (s : TreeState) (seat : ℕ) (r : Registers) (fresh done depth : ℕ) (giving : Giving) (duty : Option Posting) : Type 0 where
  pub real : IsNode p giving.node
  pub held : s.hold (lock_of p giving.node) ≡ Held (Seat seat) depth
  pub half : PlansHalf p s seat r fresh giving.node giving.write giving.after duty
  pub filling : FillsFresh s seat r.spare r.fresh_words fresh done

abbrev pub FillsWith : ConfigParts → TreeState → (seat : ℕ) → Registers → (fresh done : ℕ) → Option Posting → Filling → Type 0
FillsWith p s seat r fresh done duty (RightHalf depth giving) = FillsHalf p s seat r fresh done depth giving duty
FillsWith p s seat r fresh done duty (NewRoot post root) = PlansRoot p s seat r post root fresh done duty

-- some words of the fresh node are left to store
pub record Fills (p : ConfigParts) (s : TreeState) (seat : ℕ) (r : Registers) (fresh done : ℕ) (filling : Filling) (duty : Option Posting) : Type 0 where
  pub fills : FillsWith p s seat r fresh done duty filling
  pub left : done < node_size p

-- a lock is held that is to be given back
pub record IsToGive (p : ConfigParts) (s : TreeState) (seat first point seen : ℕ) (r : Registers) (depth : ℕ) (giving : Giving) (duty : Option Posting) : Type 0 where
  pub real : IsNode p giving.node
  pub held : s.hold (lock_of p giving.node) ≡ Held (Seat seat) depth
  pub plans : Plans p s seat first point seen r giving.node giving.write giving.after duty

-- the body is stored
pub record StoresBody (p : ConfigParts) (s : TreeState) (seat first point seen : ℕ) (r : Registers) (carry : Option ℕ) (done : ℕ) (giving : Giving) (duty : Option Posting) : Type 0 where
  pub storing : IsStoring p s seat r.body giving.node carry done giving.write
  pub plans : Plans p s seat first point seen r giving.node giving.write giving.after duty

-- nothing is left to store but the lock word
pub record FreesLock (p : ConfigParts) (s : TreeState) (seat first point seen : ℕ) (r : Registers) (n : ℕ) (after : Then) (duty : Option Posting) : Type 0 where
  pub holding : IsHolding p s seat n None
  pub follows : Follows p s seat first point seen r.call r.reply duty after

-- the queue is left
pub record IsToLeave (p : ConfigParts) (s : TreeState) (seat first point seen : ℕ) (r : Registers) (n : ℕ) (carry : Option ℕ) (after : Then) (duty : Option Posting) : Type 0 where
  pub leaving : IsLeaving p s seat n carry
  pub follows : Follows p s seat first point seen r.call r.reply duty after

abbrev pub Fits : ConfigParts → TreeState → (seat first point seen : ℕ) → Registers → Option Posting → Phase → Type 0
Fits p s i f q e r duty (Root aim) = IsAtRoot p s f r aim duty
Fits p s i f q e r duty (Read aim top) = ReadsOnWay p s f r aim top duty
Fits p s i f q e r duty (Draw aim n) = IsAtNode s r.call aim n duty
Fits p s i f q e r duty (Look aim n) = IsAtNode s r.call aim n duty
Fits p s i f q e r duty (Grab aim n) = IsAtNode s r.call aim n duty
Fits p s i f q e r duty (ReadLocked aim depth) = ReadsUnderLock p s i r aim depth duty
Fits p s i f q e r duty (Seek need) = Seeks p s i r need duty
Fits p s i f q e r duty (Fill fresh done filling) = Fills p s i r fresh done filling duty
Fits p s i f q e r duty (Waiting depth giving) = IsToGive p s i f q e r depth giving duty
Fits p s i f q e r duty (Body carry done giving) = StoresBody p s i f q e r carry done giving duty
Fits p s i f q e r duty (Unlock n after) = FreesLock p s i f q e r n after duty
Fits p s i f q e r duty (Leave n carry after) = IsToLeave p s i f q e r n carry after duty
Fits p s i f q e r duty (Swap post root fresh) = PlansRoot p s i r post root fresh (node_size p) duty
Fits p s i f q e r duty phase = duty ≡ None
