-- How a lock is given back: the stores before, and what follows.
use Rattle.std.specs.Prelude.{ℕ, ◌+◌, ◌==◌, if◌then◌else◌, Bool, true, false, List, [], length, Option, Some, None}
use Rattle.sh_lock.specs.{declared.state.Release.{Release, TheVariants.{Hand, Free}}, Locks.{release_of}}
use Rattle.sh_map.specs.{declared.log.Entry.{Entry as LogEntry}, Made.{entries_by}}
use Rattle.sh_client.specs.declared.state.{Then.{Then, TheVariants.{Ends, Starts, Takes}}, Write.{Write, TheVariants.{Nothing, Entry, Leaf, LeftLeaf, LeftInner}}, Giving.{Giving}, Phase.{Phase}}
use Rattle.sh_client.specs.{declared.state.Phase.TheVariants.{Root, Draw, Body, Unlock, Leave, Ended}, Machine.{Machine, to, split_done, handed_over, rewrite_done}}

-- behind the stores the lock is handed over, or its word is set to 0
abbrev pub released : Machine → (node : ℕ) → (carry : Option ℕ) → Then → Machine
released m node (Some depth) after = to m (Leave node (Some depth) after)
released m node None after = to m (Unlock node after)

-- nothing is to be written
abbrev pub writes_nothing : Write → Bool
writes_nothing Nothing = true
writes_nothing write = false

-- with nothing to write that comes at once
abbrev pub write_begun : Machine → (carry : Option ℕ) → Giving → Machine
write_begun m carry giving = if writes_nothing giving.write then released m giving.node carry giving.after else to m (Body carry 0 giving)

-- a lock is handed over with a depth more
abbrev pub carried : (depth : ℕ) → Release → Option ℕ
carried depth Hand = Some (depth + 1)
carried depth Free = None

-- so many wait for the lock
abbrev pub count_told : Machine → (depth : ℕ) → Giving → (count : ℕ) → Machine
count_told m depth giving count = write_begun m (carried depth (release_of count depth m.setting.bound)) giving

-- the last store of a rewritten leaf and of a left half is counted
abbrev pub counted : Machine → Write → Machine
counted m Leaf = rewrite_done m
counted m LeftLeaf = split_done m
counted m LeftInner = split_done m
counted m write = m

-- a word of the body is stored
abbrev pub stored : Machine → (carry : Option ℕ) → (done : ℕ) → Giving → Machine
stored m carry done giving =
    if done + 1 == length m.registers.body then released (counted m giving.write) giving.node carry giving.after else to m (Body carry (done + 1) giving)

-- what follows
abbrev pub followed : Machine → Then → Machine
followed m Ends = to m Ended
followed m (Starts aim) = to m (Root aim)
followed m (Takes aim node) = to m (Draw aim node)

-- the queue is left
abbrev pub queue_left : Machine → (carry : Option ℕ) → Then → Machine
queue_left m (Some depth) after = followed (handed_over m) after
queue_left m None after = followed m after

-- what a body changes of the map: an update's entry, its rewritten leaf, or its left half
abbrev pub changes_map : Write → Bool
changes_map (Entry index) = true
changes_map Leaf = true
changes_map LeftLeaf = true
changes_map write = false

abbrev pub entries_of : Machine → Write → List LogEntry
entries_of m write = if changes_map write then entries_by m.seat m.registers.call m.registers.reply else []

abbrev pub stored_entries : Machine → (done : ℕ) → Write → List LogEntry
stored_entries m done write = if done + 1 == length m.registers.body then entries_of m write else []

abbrev pub made_in : Machine → Phase → List LogEntry
made_in m (Body carry done giving) = stored_entries m done giving.write
made_in m phase = []

-- the log entries that the wanted event makes: one at an update's last store, and none at any other
abbrev pub makes : Machine → List LogEntry
makes m = made_in m m.phase
