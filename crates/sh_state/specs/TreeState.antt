-- What stands in memory, who holds what, and which node number is what; it knows no client.
use Rattle.std.specs.Prelude.{◌≡◌, ℕ, ◌+◌, ◌==◌, if◌then◌else◌, List, length, slice_index}
use Rattle.sh_base.specs.{declared.config.ConfigParts.{ConfigParts}, Setting.{pool_words}, Layout.{lock_of, compute_of}, Places.{Site, Own, Root, Counter, Lock, Node, address, IsSite}}
use Rattle.sh_map.specs.declared.log.Entry.{Entry}
use Rattle.sh_read.specs.Moments.{Writing, Idle, word}

-- What a node is: not drawn yet; one of the rest of server 0's first chunk, which nobody uses; a seat's own, spare or
-- fresh; or in the chain of a level with its low fence, for good.
pub data Class : Type 0 where
  Undrawn : Class
  Reserved : Class
  Fresh : (seat : ℕ) → Class
  Linked : (level low : ℕ) → Class

-- Whether a linked node is named by the level above: it is, or it is the first of its level; a seat is to post it; or a
-- seat skipped its post. A node that isn't linked counts as posted.
pub data ParentLink : Type 0 where
  Posted : ParentLink
  Pending : (seat : ℕ) → ParentLink
  Skipped : (seat : ℕ) → ParentLink

-- who may hold a lock: a seat, or a right of a compute server that was handed over and isn't taken up yet
pub data Owner : Type 0 where
  Seat : (seat : ℕ) → Owner
  Grant : (compute : ℕ) → Owner

-- Who holds a lock, and how many handovers there were since it was taken; and of a holder's WRITE under way of a linked
-- node, which node and what is stored.
pub data LockState : Type 0 where
  Nobody : LockState
  Held : (owner : Owner) (depth : ℕ) → LockState
  Writes : (seat depth node : ℕ) (w : Writing) → LockState

-- Of each node its standing words, its class and its post; of each lock its holder; of each server how many chunks were
-- drawn, or tried to draw; the root node, its level, and the log. The standing words of a node that isn't linked are its
-- words in memory.
pub record TreeState : Type 0 where
  pub node : ℕ → List ℕ
  pub class : ℕ → Class
  pub post : ℕ → ParentLink
  pub hold : ℕ → LockState
  pub counter : ℕ → ℕ
  pub root : ℕ
  pub height : ℕ
  pub log : List Entry

-- a function that is changed at one number
abbrev pub put : {A : Type 0} → (ℕ → A) → ℕ → A → ℕ → A
put f n x m = if m == n then x else f m

abbrev pub Owns : LockState → Owner → Type 0
Owns Nobody o = ⊥
Owns (Held owner depth) o = owner ≡ o
Owns (Writes seat depth node w) o = Seat seat ≡ o

-- the word of a lock: 0, or the number of its holder's compute server plus 1
abbrev pub owner_word : ConfigParts → Owner → ℕ
owner_word p (Seat seat) = compute_of p seat + 1
owner_word p (Grant compute) = compute + 1

abbrev pub hold_word : ConfigParts → LockState → ℕ
hold_word p Nobody = 0
hold_word p (Held owner depth) = owner_word p owner
hold_word p (Writes seat depth node w) = compute_of p seat + 1

-- the WRITE under way of node n, by what its lock's holder does
abbrev pub writing_of : ℕ → LockState → Writing
writing_of n Nobody = Idle
writing_of n (Held owner depth) = Idle
writing_of n (Writes seat depth node w) = if node == n then w else Idle

abbrev pub writing : ConfigParts → TreeState → ℕ → Writing
writing p s n = writing_of n (s.hold (lock_of p n))

-- the word of each place
abbrev pub shown : ConfigParts → TreeState → Site → ℕ
shown p s Own = 0
shown p s Root = s.root
shown p s (Counter server) = s.counter server
shown p s (Lock lock) = hold_word p (s.hold lock)
shown p s (Node n offset) = word p (s.node n) (writing p s n) offset

-- the words in memory are these, place by place
pub record Shows (p : ConfigParts) (words : List ℕ) (shown_at : Site → ℕ) : Type 0 where
  pub size : length words ≡ pool_words p
  pub each : (a : Site) → IsSite p a → slice_index words (address p a) ≡ shown_at a
