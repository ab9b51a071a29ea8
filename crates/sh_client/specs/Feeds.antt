-- What a client is after the turn that it wanted, by what it was at and what the turn found.
use Rattle.std.specs.Prelude.{ℕ, ◌==◌, if◌then◌else◌, Bool, true, false, List, [], Option, Some, None}
use Rattle.sh_map.specs.declared.{call.Call.{Call, TheVariants.{Range}}, book.Row.{Row}}
use Rattle.sh_map.specs.declared.call.Reply.TheVariants as reply
use Rattle.sh_image.specs.declared.inner.Image.{Image}
use Rattle.sh_read.specs.{declared.state.Progress.{Progress, TheVariants.{More, Accepted, Again, Odd}}, Reads.{accepted, progress_of, read_fed}}
use Rattle.sh_decide.specs.{declared.state.{Aim.{Aim, TheVariants.{Own}}, Way.{Way}, Decision.{Decision}}, Aims.{aim_of, call_key, is_node, takes_lock}, Ways.{way_of}, Deciding.{decision_of}}
use Rattle.sh_client.specs.declared.state.{Then.{Then, TheVariants.{Ends, Starts, Takes}}, Write.{Write}, Phase.{Phase}}
use Rattle.sh_client.specs.declared.state.Phase.TheVariants.{Idle, Root, Read, Draw, Look, Grab, ReadLocked, Seek, Fill, Waiting, Body, Unlock, Leave, Swap, Ended}
use Rattle.sh_client.specs.{Machine.{Machine, to, again, answering, began_cached, reading, storing, right_hop, skipped_worn}, declared.state.Origin.{Origin}, Cached.{learning, origin_of, settling}}
use Rattle.sh_client.specs.{Ranges.{rows_taken}, Bodies.{answer_in, entry_body, inner_body, leaf_body}, declared.state.Need.TheVariants.{ToSplit}, Giving.{queue_left, stored, count_told}}
use Rattle.sh_client.specs.Splitting.{filled, giving_of, root_grown, needs, sought, swapped}
use Rattle.sh_client.specs.declared.state.Write.TheVariants as write
use Rattle.sh_decide.specs.declared.state.Way.TheVariants as way
use Rattle.sh_decide.specs.declared.state.Decision.TheVariants as decision

-- a descent that begins at the root begins at no cached node
abbrev pub from_root : Machine → Machine
from_root m = record m { registers = record m.registers { origin = None } }

-- the root word named this node; a number that names none is loaded again
abbrev pub rooted : Machine → Aim → (word : ℕ) → Machine
rooted m aim word = if is_node m.setting word then reading (from_root m) word (Read aim true) else to m (Root aim)

-- an image that was READ without a lock leads this way
abbrev pub went : Machine → Aim → Image → Way → Machine
went m aim image way.Root = to m (Root aim)
went m aim image (way.Read node) = reading m node (Read aim false)
went m aim image (way.Right node) = reading (right_hop m) node (Read aim false)
went m aim image (way.Lock node) = to m (Draw aim node)
went m aim image (way.LockRight node) = to (right_hop m) (Draw aim node)
went m aim image way.Grow = root_grown m aim m.registers.reads.node
went m aim image way.Found = to (answering m (answer_in m.registers.call image)) Ended
went m aim image way.Rows = rows_taken m aim image

abbrev pub arrived : Machine → Aim → (top : Bool) → Option Image → Machine
arrived m aim top (Some image) = went (learning m aim image) aim image (way_of m.setting m.registers.call aim top m.registers.reads.node image)
arrived m aim top None = to m (Root aim)

-- the lock is given back
abbrev pub back : Machine → (depth : ℕ) → Write → Then → Machine
back m depth write after = to m (Waiting depth (giving_of m.registers.reads.node write after))

-- an image that was READ under its lock leads to this
abbrev pub did : Machine → Aim → (depth : ℕ) → Image → Decision → Machine
did m aim depth image decision.Restart = back m depth write.Nothing (Starts aim)
did m aim depth image (decision.Right node) = back (right_hop m) depth write.Nothing (Takes aim node)
did m aim depth image decision.Absent = back (answering m (answer_in m.registers.call image)) depth write.Nothing Ends
did m aim depth image (decision.Entry index) = back (storing (answering m (answer_in m.registers.call image)) (entry_body m.setting m.registers.call index image)) depth (write.Entry index) Ends
did m aim depth image (decision.Rewrite index) = back (storing (answering m (answer_in m.registers.call image)) (leaf_body m.setting m.registers.call index image)) depth write.Leaf Ends
did m aim depth image (decision.Worn version) = back (answering m (reply.Worn version)) depth write.Nothing Ends
did m aim depth image decision.Split = needs m (ToSplit aim depth)
did m aim depth image decision.Skip = back (skipped_worn m) depth write.Nothing Ends
did m aim depth image decision.Add = back (storing m (inner_body m.setting aim image)) depth write.Inner Ends

abbrev pub held_by : Machine → Aim → (depth : ℕ) → Option Image → Machine
held_by m aim depth (Some image) = did (settling m aim image) aim depth image (decision_of m.setting m.registers.call aim image)
held_by m aim depth None = back m depth write.Nothing (Starts aim)

-- the READ is fed a word
abbrev pub loaded : Machine → (word : ℕ) → Machine
loaded m word = record m { registers = record m.registers { reads = read_fed m.setting m.registers.reads word } }

-- A READ without a lock: torn words are loaded again, and words that spell no node lead to the root word.
abbrev pub read_by : Machine → Aim → (top : Bool) → Progress → Machine
read_by m aim top More = to m (Read aim top)
read_by m aim top Accepted = arrived m aim top (accepted m.setting m.registers.reads)
read_by m aim top (Again rear front) = to (again m) (Read aim top)
read_by m aim top Odd = to m (Root aim)

-- A READ under the lock: of words that spell no node the lock is given back, and the descent starts again.
abbrev pub hold_by : Machine → Aim → (depth : ℕ) → Progress → Machine
hold_by m aim depth More = to m (ReadLocked aim depth)
hold_by m aim depth Accepted = held_by m aim depth (accepted m.setting m.registers.reads)
hold_by m aim depth (Again rear front) = to (again m) (ReadLocked aim depth)
hold_by m aim depth Odd = back m depth write.Nothing (Starts aim)

-- the exchange of the lock word found this: with 0 the lock is taken, and was never handed over
abbrev pub grabbed : Machine → Aim → (node word : ℕ) → Machine
grabbed m aim node word = if word == 0 then reading m node (ReadLocked aim 0) else to m (Grab aim node)

abbrev pub fed_in : Machine → (word : ℕ) → Phase → Machine
fed_in m word Idle = m
fed_in m word (Root aim) = rooted m aim word
fed_in m word (Read aim top) = read_by (loaded m word) aim top (progress_of m.setting m.registers.reads word)
fed_in m word (Draw aim node) = to m (Look aim node)
fed_in m word (Look aim node) = m
fed_in m word (Grab aim node) = grabbed m aim node word
fed_in m word (ReadLocked aim depth) = hold_by (loaded m word) aim depth (progress_of m.setting m.registers.reads word)
fed_in m word (Seek need) = sought m need word
fed_in m word (Fill fresh done filling) = filled m fresh done filling
fed_in m word (Waiting depth giving) = count_told m depth giving word
fed_in m word (Body carry done giving) = stored m carry done giving
fed_in m word (Unlock node after) = to m (Leave node None after)
fed_in m word (Leave node carry after) = queue_left m carry after
fed_in m word (Swap post root fresh) = swapped m post root fresh word
fed_in m word Ended = m

-- it is fed what the turn found: a word, a ticket, the number of a look that waits, or a count
abbrev pub fed_by : Machine → (word : ℕ) → Machine
fed_by m word = fed_in m word m.phase

-- the look had its turn: with a depth the lock was handed over, without one its word is to be taken
abbrev pub turned : Machine → Aim → (node : ℕ) → (depth : Option ℕ) → Machine
turned m aim node (Some depth) = reading m node (ReadLocked aim depth)
turned m aim node None = to m (Grab aim node)

abbrev pub turned_in : Machine → (depth : Option ℕ) → Phase → Machine
turned_in m depth (Look aim node) = turned m aim node depth
turned_in m depth phase = m

-- it is told that its look had the turn
abbrev pub turned_by : Machine → (depth : Option ℕ) → Machine
turned_by m depth = turned_in m depth m.phase

-- a range begins with no rows
abbrev pub rows_before : Call → List Row → List Row
rows_before (Range low high) rows = []
rows_before call rows = rows

abbrev pub calling : Machine → Call → Machine
calling m call = record m { registers = record m.registers { call = call; rows = rows_before call m.registers.rows } }

-- it begins at the child of a cached node with this low fence
abbrev pub from_cached : Machine → (low : ℕ) → Machine
from_cached m low = record m { registers = record m.registers { origin = Some low } }

-- an update draws a ticket for the lock of the child, and any other call READs it
abbrev pub at_child : Machine → Call → (child : ℕ) → Machine
at_child m call child = if takes_lock call Own then to m (Draw (aim_of call) child) else reading m child (Read (aim_of call) false)

abbrev pub began_at : Machine → Call → Option Origin → Machine
began_at m call None = to m (Root (aim_of call))
began_at m call (Some origin) = at_child (began_cached (from_cached m origin.low)) call origin.child

-- A call begins at the child of the cached node that covers its key, and where there is none at the root word.
abbrev pub begun : Machine → Call → Machine
begun m call = began_at (calling m call) call (origin_of m.registers.cached (call_key call))

-- a call that has ended is taken away
abbrev pub finished : Machine → Machine
finished m = to m Idle
