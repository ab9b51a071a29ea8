-- The turn that a client wants, by what it is at.
use Rattle.std.specs.Prelude.{ℕ, ◌+◌, ◌<◌, Option, Some, None, slice_index}
use Rattle.sh_base.specs.{declared.{config.ConfigParts.{ConfigParts}, event.Event.TheVariants.{Load, Store, Exchange}}, Memory.{at_of}, Setting.{all_locks, pool_words}}
use Rattle.sh_base.specs.Layout.{root_word, node_word, lock_of, lock_word, entry_at}
use Rattle.sh_alloc.specs.{declared.state.ChunkWant.{ChunkWant}, Walks.{walk_wants}}
use Rattle.sh_alloc.specs.declared.state.ChunkWant.TheVariants as chunk
use Rattle.sh_lock.specs.Locks.{grab_of}
use Rattle.sh_read.specs.Reads.{wanted}
use Rattle.sh_client.specs.declared.state.{Write.{Write, TheVariants.{Entry}}, Phase.{Phase}}
use Rattle.sh_client.specs.{declared.state.{Phase.TheVariants.{Idle, Root, Read, Draw, Look, Grab, ReadLocked, Seek, Fill, Waiting, Body, Unlock, Leave, Swap, Ended}, Want.{Want}}, Machine.{Machine}}
use Rattle.sh_client.specs.Sound.{IsCarry}
use Rattle.sh_client.specs.declared.state.Want.TheVariants as want

-- a READ wants a load while words are left
abbrev pub load_of : Option ℕ → Want
load_of (Some at) = want.Event (Load at)
load_of None = want.Done

-- a walk over the counters wants an event until it has ended
abbrev pub count_of : ChunkWant → Want
count_of (chunk.Event e) = want.Event e
count_of (chunk.Got server chunk) = want.Done
count_of chunk.AllSpent = want.Done

-- where in the node the stores begin: an entry's at its place, a whole node's at the first word
abbrev pub offset_of : ConfigParts → Write → ℕ
offset_of p (Entry index) = entry_at p index
offset_of p write = 0

-- the lock word of a node
abbrev pub lock_word_of : ConfigParts → (node : ℕ) → ℕ
lock_word_of p node = lock_word p (lock_of p node)

abbrev pub want_in : Machine → Phase → Want
want_in m Idle = want.Done
want_in m (Root aim) = want.Event (Load root_word)
want_in m (Read aim top) = load_of (wanted m.setting m.registers.reads)
want_in m (Draw aim node) = want.Draw (lock_of m.setting node)
want_in m (Look aim node) = want.Look (lock_of m.setting node)
want_in m (Grab aim node) = want.Event (grab_of m.setting (lock_of m.setting node) m.seat)
want_in m (ReadLocked aim depth) = load_of (wanted m.setting m.registers.reads)
want_in m (Seek need) = count_of (walk_wants m.setting m.registers.walk)
want_in m (Fill fresh done filling) = want.Event (Store (node_word m.setting fresh + done) (slice_index m.registers.fresh_words done))
want_in m (Waiting depth giving) = want.Waiting (lock_of m.setting giving.node)
want_in m (Body carry done giving) = want.Event (Store (node_word m.setting giving.node + (offset_of m.setting giving.write + done)) (slice_index m.registers.body done))
want_in m (Unlock node after) = want.Event (Store (lock_word_of m.setting node) 0)
want_in m (Leave node carry after) = want.Leave (lock_of m.setting node) carry
want_in m (Swap posting root fresh) = want.Event (Exchange root_word root fresh)
want_in m Ended = want.Done

abbrev pub want_of : Machine → Want
want_of m = want_in m m.phase

-- an event on a word of the pool, or a lock of the setting
abbrev pub IsWithin : ConfigParts → Want → Type 0
IsWithin p (want.Event e) = at_of e < pool_words p
IsWithin p (want.Draw lock) = lock < all_locks p
IsWithin p (want.Look lock) = lock < all_locks p
IsWithin p (want.Waiting lock) = lock < all_locks p
IsWithin p (want.Leave lock carry) = lock < all_locks p
IsWithin p want.Done = Unit {0}

-- where the lock is handed over, once at least and no more often than the bound
abbrev pub HandsOver : ConfigParts → Want → Type 0
HandsOver p (want.Leave lock carry) = IsCarry p carry
HandsOver p w = Unit {0}
