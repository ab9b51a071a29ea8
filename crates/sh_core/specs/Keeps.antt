-- What holds of each actor: what its client knows, and what its ended calls are answered by.
use Rattle.std.specs.Prelude.{◌≡◌, ◌≢◌, ◌↔◌, ℕ, ◌+◌, ◌<◌, ◌≤◌, true, List, [], ◌++◌, length, Option, Some, None}
use Rattle.sh_base.specs.{declared.config.ConfigParts.{ConfigParts}, Setting.{all_seats}, Layout.{lock_of}}
use Rattle.sh_map.specs.{declared.{call.{Call.{Call}, Reply.{Reply}}, log.Entry.{Entry as LogEntry}}, Calls.{IsInRange}, Made.{entries_by}}
use Rattle.sh_tree.specs.Lists.{is_in, AreDifferent}
use Rattle.sh_state.specs.TreeState.{Pending, Skipped, Seat, Owns, TreeState}
use Rattle.sh_readers.specs.Hand.{AreRowsOf}
use Rattle.sh_decide.specs.declared.state.{Posting.{Posting}, Aim.{Aim, TheVariants.{Own, Gathers, Posts}}}
use Rattle.sh_client.specs.declared.state.{Then.{Then, TheVariants.{Ends, Starts, Takes}}, Write.{Write, TheVariants.{Nothing, Inner as WholeInner, LeftInner}}, Phase.{Phase}}
use Rattle.sh_client.specs.declared.state.{Phase.TheVariants.{Root, Read, Draw, Look, Grab, ReadLocked, Seek, Fill, Waiting, Body, Unlock, Leave, Swap}, Tally.{Tally}, Need.{Need}}
use Rattle.sh_client.specs.{declared.state.{Need.TheVariants.{ToSplit, ToGrow}, Filling.{Filling, TheVariants.{RightHalf, NewRoot}}}, Machine.{Machine, Registers}}
use Rattle.sh_core.specs.{Actors.{Actor, AreAnswered, AreInOrder, made_by, updates}, Fits.{AreSpares, Fits, Owes}, Causes.{HaveCauses}}

-- the lock that a client holds
abbrev pub lock_left : ConfigParts → (n : ℕ) → Option ℕ → Option ℕ
lock_left p n None = None
lock_left p n (Some depth) = Some (lock_of p n)

-- a right half's node is held, and a new root's old one isn't
abbrev pub need_lock : ConfigParts → Registers → Need → Option ℕ
need_lock p r (ToSplit aim depth) = Some (lock_of p r.reads.node)
need_lock p r (ToGrow post root) = None

abbrev pub filling_lock : ConfigParts → Filling → Option ℕ
filling_lock p (RightHalf depth giving) = Some (lock_of p giving.node)
filling_lock p (NewRoot post root) = None

abbrev pub holding : ConfigParts → Registers → Phase → Option ℕ
holding p r (ReadLocked aim depth) = Some (lock_of p r.reads.node)
holding p r (Seek need) = need_lock p r need
holding p r (Fill fresh done filling) = filling_lock p filling
holding p r (Waiting depth giving) = Some (lock_of p giving.node)
holding p r (Body carry done giving) = Some (lock_of p giving.node)
holding p r (Unlock n after) = Some (lock_of p n)
holding p r (Leave n carry after) = lock_left p n carry
holding p r phase = None

-- a seat holds no lock but that one
abbrev pub Hands : TreeState → (seat : ℕ) → Option ℕ → Type 0
Hands s seat None = (lock : ℕ) → Owns (s.hold lock) (Seat seat) → ⊥
Hands s seat (Some held) = (lock : ℕ) → lock ≢ held → Owns (s.hold lock) (Seat seat) → ⊥

-- a seat is to post no node but that one
abbrev pub Waits : TreeState → (seat : ℕ) → Option Posting → Type 0
Waits s seat None = (n : ℕ) → s.post n ≢ Pending seat
Waits s seat (Some post) = (n : ℕ) → n ≢ post.node → s.post n ≢ Pending seat

-- The entries of the call under way: none on the way to its leaf, and its own once it is stored. A post comes behind it.
abbrev pub pending_aim : (seat : ℕ) → Call → Reply → Aim → List LogEntry
pending_aim seat call reply Own = []
pending_aim seat call reply (Gathers place) = []
pending_aim seat call reply (Posts post) = entries_by seat call reply

abbrev pub pending_then : (seat : ℕ) → Call → Reply → Then → List LogEntry
pending_then seat call reply Ends = entries_by seat call reply
pending_then seat call reply (Starts aim) = pending_aim seat call reply aim
pending_then seat call reply (Takes aim n) = pending_aim seat call reply aim

abbrev pub pending_write : (seat : ℕ) → Call → Reply → Write → Then → List LogEntry
pending_write seat call reply Nothing after = pending_then seat call reply after
pending_write seat call reply WholeInner after = entries_by seat call reply
pending_write seat call reply LeftInner after = entries_by seat call reply
pending_write seat call reply write after = []

abbrev pub pending_need : (seat : ℕ) → Call → Reply → Need → List LogEntry
pending_need seat call reply (ToSplit aim depth) = pending_aim seat call reply aim
pending_need seat call reply (ToGrow post root) = entries_by seat call reply

abbrev pub pending_filling : (seat : ℕ) → Call → Reply → Filling → List LogEntry
pending_filling seat call reply (RightHalf depth giving) = pending_write seat call reply giving.write giving.after
pending_filling seat call reply (NewRoot post root) = entries_by seat call reply

abbrev pub pending : (seat : ℕ) → Registers → Phase → List LogEntry
pending i r (Root aim) = pending_aim i r.call r.reply aim
pending i r (Read aim top) = pending_aim i r.call r.reply aim
pending i r (Draw aim n) = pending_aim i r.call r.reply aim
pending i r (Look aim n) = pending_aim i r.call r.reply aim
pending i r (Grab aim n) = pending_aim i r.call r.reply aim
pending i r (ReadLocked aim depth) = pending_aim i r.call r.reply aim
pending i r (Seek need) = pending_need i r.call r.reply need
pending i r (Fill fresh done filling) = pending_filling i r.call r.reply filling
pending i r (Waiting depth giving) = pending_write i r.call r.reply giving.write giving.after
pending i r (Body carry done giving) = pending_write i r.call r.reply giving.write giving.after
pending i r (Unlock n after) = pending_then i r.call r.reply after
pending i r (Leave n carry after) = pending_then i r.call r.reply after
pending i r (Swap post root fresh) = entries_by i r.call r.reply
pending i r phase = []

-- a seat's client is of the setting and of its seat, and its call is in range
pub record IsSeated (p : ConfigParts) (seat : ℕ) (setting : ConfigParts) (number : ℕ) (call : Call) : Type 0 where
  pub setting_is : setting ≡ p
  pub seat_is : number ≡ seat
  pub within : seat < all_seats p
  pub in_range : IsInRange p call

-- the posts that a seat has counted as skipped
abbrev pub skips_counted : Tally → ℕ
skips_counted tally = tally.skipped_spent + tally.skipped_worn

-- the nodes whose posts the seat skipped are as many as it has counted
pub record Skips (s : TreeState) (seat count : ℕ) : Type 0 where
  pub nodes : List ℕ
  pub once : AreDifferent nodes
  pub are : (n : ℕ) → (is_in nodes n ≡ true) ↔ (s.post n ≡ Skipped seat)
  pub counted : length nodes ≡ count

-- What a client knows of the scene, and what there is of it. The duty is the post that the seat is to make.
pub record IsAtWork (p : ConfigParts) (s : TreeState) (seat first point seen : ℕ) (m : Machine) : Type 0 where
  pub seated : IsSeated p seat m.setting m.seat m.registers.call
  pub duty : Option Posting
  pub fits : Fits p s seat first point seen m.registers duty m.phase
  pub owes : Owes s seat first point seen m.registers.call m.registers.reply duty
  pub hands : Hands s seat (holding p m.registers m.phase)
  pub waits : Waits s seat duty
  pub spares : AreSpares s seat m.registers.spare
  pub cached : AreRowsOf s m.registers.cached
  pub skips : Skips s seat (skips_counted m.registers.tally)

-- The log's entries of the seat are those of its ended calls, once and in order, and behind them at most the one of its
-- call under way.
pub record KeepsActor (p : ConfigParts) (s : TreeState) (seat : ℕ) (a : Actor) : Type 0 where
  pub work : IsAtWork p s seat a.first a.point a.seen a.client
  pub seen : a.seen ≤ length s.log
  pub first : a.first ≤ a.seen
  pub answered : AreAnswered s.log seat a.dones
  pub causes : HaveCauses p s.counter s.log a.dones
  pub ordered : AreInOrder 0 a.dones a.first
  pub mine : made_by seat s.log ≡ updates a.dones ++ pending seat a.client.registers a.client.phase
