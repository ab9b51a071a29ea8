-- What holds of the words in memory at each moment, told of the clients alone.
use Rattle.std.specs.{Prelude.{◌≡◌, ◌⊎◌, ℕ, zero, suc, ◌<◌, ◌≤◌, true, List, length, slice_index, Option, Some, None}, List.{concat}}
use Rattle.sh_base.specs.{declared.config.ConfigParts.{ConfigParts}, Setting.{all_locks, pool_words}, Layout.{lock_of, lock_word}, Places.{Site, Own, Root, Counter, Lock, Node, address, IsSite}}
use Rattle.sh_map.specs.{declared.log.Entry.{Entry as LogEntry}, Log.{map_of}}
use Rattle.sh_tree.specs.{Lists.{is_in}, Tree.{IsTree, map_in}}
use Rattle.sh_state.specs.TreeState.{Owner, Seat, Grant, owner_word}
use Rattle.sh_client.specs.declared.state.{Need.TheVariants.{ToSplit}, Filling.TheVariants.{RightHalf}, Phase.{Phase, TheVariants.{ReadLocked, Seek, Fill, Waiting, Body, Leave}}}
use Rattle.sh_core.specs.{Actors.{Actor}, Keeps.{holding}, Core.{Inv}}

-- the node of a WRITE under way: some of its words are stored, and not all
abbrev pub writes_from : (n done : ℕ) → Option ℕ
writes_from n zero = None
writes_from n (suc done) = Some n

abbrev pub written_node : Phase → Option ℕ
written_node (Body carry done giving) = writes_from giving.node done
written_node phase = None

-- a seat's client has a WRITE of the node under way
pub record IsWritten (Has : ℕ → Actor → Type 0) (n : ℕ) : Type 0 where
  pub seat : ℕ
  pub actor : Actor
  pub has : Has seat actor
  pub node : written_node actor.client.phase ≡ Some n

-- a place of a node that isn't being written, or of none
abbrev pub IsStill : (Has : ℕ → Actor → Type 0) → Site → Type 0
IsStill Has (Node n offset) = IsWritten Has n → ⊥
IsStill Has Own = Unit {0}
IsStill Has Root = Unit {0}
IsStill Has (Counter server) = Unit {0}
IsStill Has (Lock lock) = Unit {0}

-- how often the lock that a client holds was handed over, where that's known to it; while it hands it over, once more
abbrev pub handed_to : Phase → Option ℕ
handed_to (ReadLocked aim depth) = Some depth
handed_to (Seek (ToSplit aim depth)) = Some depth
handed_to (Fill fresh done (RightHalf depth giving)) = Some depth
handed_to (Waiting depth giving) = Some depth
handed_to (Body carry done giving) = carry
handed_to (Leave n carry after) = carry
handed_to phase = None

-- who holds a lock: a seat by what its client is at, or a compute server by a right that is out
abbrev pub HoldsLock : ConfigParts → (Has : ℕ → Actor → Type 0) → (Out : (lock compute depth : ℕ) → Type 0) → (lock : ℕ) → Owner → Type 0
HoldsLock p Has Out lock (Seat seat) = (a : Actor) × Has seat a × (holding p a.client.registers a.client.phase ≡ Some lock)
HoldsLock p Has Out lock (Grant compute) = (depth : ℕ) × Out lock compute depth

-- The standing words are those in memory, with each node that is being written as it was before the first store of its
-- WRITE. They hold a lawful tree, with the log's map; a node that is being written is one of its nodes.
pub record IsStanding (p : ConfigParts) (words : List ℕ) (log : List LogEntry) (Has : ℕ → Actor → Type 0) : Type 0 where
  pub standing : List ℕ
  pub long : length standing ≡ pool_words p
  pub same : (a : Site) → IsSite p a → IsStill Has a → slice_index standing (address p a) ≡ slice_index words (address p a)
  pub levels : List (List ℕ)
  pub tree : IsTree p standing levels
  pub map : map_in p standing levels ≡ map_of log
  pub within : (n : ℕ) → IsWritten Has n → is_in (concat levels) n ≡ true

-- A lock has one holder, and its word is the number of the holder's compute server plus 1; or nobody holds it, and its word
-- is 0. A WRITE under way is that of its node's holder. A lock is handed over no more than `bound` times.
pub record AreLocks (p : ConfigParts) (words : List ℕ) (Has : ℕ → Actor → Type 0) (Out : (lock compute depth : ℕ) → Type 0) : Type 0 where
  pub one : (lock : ℕ) (o u : Owner) → HoldsLock p Has Out lock o → HoldsLock p Has Out lock u → o ≡ u
  pub held : (lock : ℕ) (o : Owner) → lock < all_locks p → HoldsLock p Has Out lock o → slice_index words (lock_word p lock) ≡ owner_word p o
  pub free : (lock : ℕ) → lock < all_locks p → ((o : Owner) × HoldsLock p Has Out lock o) ⊎ (slice_index words (lock_word p lock) ≡ 0)
  pub writers : (n : ℕ) → (w : IsWritten Has n) → HoldsLock p Has Out (lock_of p n) (Seat w.seat)
  pub rights : (lock compute depth : ℕ) → Out lock compute depth → depth ≤ p.bound
  pub seats : (seat depth : ℕ) (a : Actor) → Has seat a → handed_to a.client.phase ≡ Some depth → depth ≤ p.bound

-- each moment
pub record IsMoment (p : ConfigParts) (words : List ℕ) (log : List LogEntry) (Has : ℕ → Actor → Type 0) (Out : (lock compute depth : ℕ) → Type 0) : Type 0 where
  pub tree : IsStanding p words log Has
  pub locks : AreLocks p words Has Out

abbrev pub EachMoment : ConfigParts → Type 1
EachMoment p = (words : List ℕ) (log : List LogEntry) (Has : ℕ → Actor → Type 0) (Out : ℕ → ℕ → ℕ → Type 0) → Inv p words log Has Out → IsMoment p words log Has Out
