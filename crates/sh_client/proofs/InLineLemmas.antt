-- Where a client stands in the ticket lines, turn by turn.
use Rattle.std.{proofs.Common.{rules, ◌≡◌, ℕ, Bool, false, cond, Option, length, refl, subst}, specs.Prelude.{nat_lt, ◌∷◌}}
use Rattle.sh_base.specs.{Setting.{node_size}, Layout.{lock_of}, declared.config.ConfigParts.{ConfigParts}}
use Rattle.sh_alloc.specs.{declared.state.{ChunkWant.{ChunkWant}, NodeRange.{NodeRange}}}
use Rattle.sh_alloc.specs.declared.state.Walk.{Walk}
use Rattle.sh_image.specs.declared.{inner.Image.{Image}, read.Seen.{Seen}}
use Rattle.sh_lock.specs.{Locks.{release_of}}
use Rattle.sh_read.specs.{declared.state.Progress.{Progress}, Reads.{Reads, reads_left, reads_with, read_fed}}
use Rattle.sh_read.specs.Judging.{seen_of}
use Rattle.sh_decide.specs.{declared.state.{Aim.{Aim, TheVariants.{Gathers}}, Decision.{Decision}, Way.{Way}}, Aims.{is_node}}
use Rattle.sh_client.specs.declared.state.{Phase.{Phase, TheVariants.{Root, Read, Body}}, Giving.{Giving}, Need.{Need}}
use Rattle.sh_client.specs.declared.state.{Filling.{Filling}, Then.{Then}, Write.{Write}}
use Rattle.sh_client.specs.{Feeds.{arrived, did, fed_in, held_by, hold_by, read_by, turned_in, went}}
use Rattle.sh_client.specs.{Ranges.{gathered, passing, rows_taken}, declared.state.Edge.{Edge}}
use Rattle.sh_client.specs.{Giving.{carried, counted, followed, queue_left, released, writes_nothing, write_begun}, Machine.{Machine, reading, to}}
use Rattle.sh_client.specs.{Splitting.{all_spent, fill_done, root_grown, halved, halved_by, needing, sought_by, with_fresh}, declared.state.Want.{Want}}
use Rattle.sh_client.specs.{Wants.{count_of, load_of, want_in}, InLine.{Stand, Away, Waits, Served, is_some, stand_for_filling, stand_for_need, stand_in, stand_of, MayHand}}
use Rattle.sh_client.specs.declared.state.Want.TheVariants as want

either : (x y : Machine) (k : Stand) (b : Bool) → stand_of x ≡ k → stand_of y ≡ k → stand_of (cond b x y) ≡ k
either x y k b h e = search rules

-- an event is wanted
abbrev pub IsEvent : Want → Type 0
IsEvent (want.Event e) = Unit {0}
IsEvent w = ⊥

-- an event, or nothing
abbrev pub Elsewhere : Want → Type 0
Elsewhere (want.Event e) = Unit {0}
Elsewhere want.Done = Unit {0}
Elsewhere w = ⊥

left_node : (s : Seen) (r : Reads) → (reads_left s r).node ≡ r.node
left_node s r = search rules

one_node : (x y : Reads) → y.node ≡ x.node → (b : Bool) → (cond b x y).node ≡ x.node
one_node x y e b = search rules

-- a READ stays at its node
read_node : (p : ConfigParts) (r : Reads) (word : ℕ) → (read_fed p r word).node ≡ r.node
read_node p r word = one_node (reads_with r.node (word ∷ r.loaded)) (reads_left (seen_of p (word ∷ r.loaded)) (reads_with r.node (word ∷ r.loaded))) (left_node (seen_of p (word ∷ r.loaded)) (reads_with r.node (word ∷ r.loaded))) (nat_lt (length (word ∷ r.loaded)) (node_size p))

halves : (m : Machine) (aim : Aim) (depth fresh : ℕ) (image : Image) → stand_of (halved m aim depth fresh image) ≡ Served (lock_of m.setting m.registers.reads.node) false
halves m aim depth fresh image = search rules

halves_by : (m : Machine) (aim : Aim) (depth fresh : ℕ) (image : Option Image) → stand_of (halved_by m aim depth fresh image) ≡ Served (lock_of m.setting m.registers.reads.node) false
halves_by m aim depth fresh image = search (rules, halves)

goes_on_fresh : (m : Machine) (fresh : ℕ) (need : Need) → stand_of (with_fresh m fresh need) ≡ stand_for_need m.setting m.registers need
goes_on_fresh m fresh need = search (rules, halves_by)

-- spare nodes and the walk are nothing to where it stands
spare_apart : (m : Machine) (nodes : NodeRange) (need : Need) → stand_for_need m.setting (record m.registers { spare = nodes }) need ≡ stand_for_need m.setting m.registers need
spare_apart m nodes need = search rules

walk_apart : (m : Machine) (walk : Walk) (need : Need) → stand_for_need m.setting (record m.registers { walk = walk }) need ≡ stand_for_need m.setting m.registers need
walk_apart m walk need = search rules

needs_fresh : (m : Machine) (need : Need) (fresh : Option ℕ) → stand_of (needing m need fresh) ≡ stand_for_need m.setting m.registers need
needs_fresh m need fresh = search (rules, goes_on_fresh, spare_apart, walk_apart)

spends : (m : Machine) (need : Need) → stand_of (all_spent m need) ≡ stand_for_need m.setting m.registers need
spends m need = search rules

seeks : (m : Machine) (need : Need) (w : ChunkWant) → stand_of (sought_by m need w) ≡ stand_for_need m.setting m.registers need
seeks m need w = search (rules, goes_on_fresh, spare_apart, spends)

grows_for : (m : Machine) (aim : Aim) (root : ℕ) → stand_of (root_grown m aim root) ≡ Away
grows_for m aim root = search (rules, needs_fresh)

fills : (m : Machine) (fresh : ℕ) (filling : Filling) → stand_of (fill_done m fresh filling) ≡ stand_for_filling m.setting filling
fills m fresh filling = search rules

passes : (m : Machine) (edge : Edge) → stand_of (passing m edge) ≡ Away
passes m edge = either (reading m edge.next (Read (Gathers edge.high) false)) (to m (Root (Gathers edge.high))) Away (is_node m.setting edge.next) refl refl

gathers : (m : Machine) (aim : Aim) (edge : Option Edge) → stand_of (gathered m aim edge) ≡ Away
gathers m aim edge = search (rules, either, passes)

takes_rows : (m : Machine) (aim : Aim) (image : Image) → stand_of (rows_taken m aim image) ≡ Away
takes_rows m aim image = search (rules, gathers)

goes : (m : Machine) (aim : Aim) (image : Image) (w : Way) → stand_of (went m aim image w) ≡ Away
goes m aim image w = search (rules, grows_for, takes_rows)

arrives : (m : Machine) (aim : Aim) (top : Bool) (image : Option Image) → stand_of (arrived m aim top image) ≡ Away
arrives m aim top image = search (rules, goes)

does : (m : Machine) (aim : Aim) (depth : ℕ) (image : Image) (d : Decision) → stand_of (did m aim depth image d) ≡ Served (lock_of m.setting m.registers.reads.node) false
does m aim depth image d = search (rules, needs_fresh)

decides : (m : Machine) (aim : Aim) (depth : ℕ) (image : Option Image) → stand_of (held_by m aim depth image) ≡ Served (lock_of m.setting m.registers.reads.node) false
decides m aim depth image = search (rules, does)

reads_on : (m : Machine) (aim : Aim) (top : Bool) (answer : Progress) → stand_of (read_by m aim top answer) ≡ Away
reads_on m aim top answer = search (rules, arrives)

holds_on : (m : Machine) (aim : Aim) (depth : ℕ) (answer : Progress) → stand_of (hold_by m aim depth answer) ≡ Served (lock_of m.setting m.registers.reads.node) false
holds_on m aim depth answer = search (rules, decides)

releases : (m : Machine) (node : ℕ) (carry : Option ℕ) (after : Then) → stand_of (released m node carry after) ≡ Served (lock_of m.setting node) (is_some carry)
releases m node carry after = search rules

writes : (m : Machine) (carry : Option ℕ) (giving : Giving) → stand_of (write_begun m carry giving) ≡ Served (lock_of m.setting giving.node) (is_some carry)
writes m carry giving = either (released m giving.node carry giving.after) (to m (Body carry 0 giving)) (Served (lock_of m.setting giving.node) (is_some carry)) (writes_nothing giving.write) (releases m giving.node carry giving.after) refl

counts : (m : Machine) (node : ℕ) (carry : Option ℕ) (write : Write) (after : Then) → stand_of (released (counted m write) node carry after) ≡ Served (lock_of m.setting node) (is_some carry)
counts m node carry write after = search (rules, releases)

follows : (m : Machine) (after : Then) → stand_of (followed m after) ≡ Away
follows m after = search rules

leaves : (m : Machine) (carry : Option ℕ) (after : Then) → stand_of (queue_left m carry after) ≡ Away
leaves m carry after = search (rules, follows)

-- a turn that isn't of a line leaves a client where it stands
pub fed_stands : (m : Machine) (word : ℕ) (phase : Phase) → IsEvent (want_in m phase) → stand_of (fed_in m word phase) ≡ stand_in m.setting m.registers phase
fed_stands m word phase h = search (rules, either, reads_on, holds_on, read_node, seeks, walk_apart, fills, counts)

pub load_is : (o : Option ℕ) → Elsewhere (load_of o)
load_is o = search rules

pub count_is : (w : ChunkWant) → Elsewhere (count_of w)
count_is w = search rules

pub not_elsewhere : (w : Want) → (Elsewhere w → ⊥) → (v : Want) → v ≡ w → Elsewhere v → ⊥
not_elsewhere w h v e k = h (subst Elsewhere e k)

-- a ticket is drawn by a client that stands nowhere, which then waits in that line
pub draw_stands : (m : Machine) (word lock : ℕ) (phase : Phase) → want_in m phase ≡ want.Draw lock → (stand_in m.setting m.registers phase ≡ Away) × (stand_of (fed_in m word phase) ≡ Waits lock)
draw_stands m word lock phase e = search (rules, not_elsewhere, load_is, count_is)

-- a look leaves a client that waits as it is, or it then has its turn
pub look_stands : (m : Machine) (word lock : ℕ) (depth : Option ℕ) (phase : Phase) → want_in m phase ≡ want.Look lock → (stand_in m.setting m.registers phase ≡ Waits lock) × (fed_in m word phase ≡ m) × (stand_of (turned_in m depth phase) ≡ Served lock false)
look_stands m word lock depth phase e = search (rules, not_elsewhere, load_is, count_is)

may_hand : (lock count depth bound : ℕ) → MayHand lock count (Served lock (is_some (carried depth (release_of count depth bound))))
may_hand lock count depth bound = search rules

pub count_stands : (m : Machine) (word lock : ℕ) (phase : Phase) → want_in m phase ≡ want.Waiting lock → (stand_in m.setting m.registers phase ≡ Served lock false) × MayHand lock word (stand_of (fed_in m word phase))
count_stands m word lock phase e = search (rules, writes, may_hand, not_elsewhere, load_is, count_is)

pub leave_stands : (m : Machine) (word lock : ℕ) (carry : Option ℕ) (phase : Phase) → want_in m phase ≡ want.Leave lock carry → (stand_in m.setting m.registers phase ≡ Served lock (is_some carry)) × (stand_of (fed_in m word phase) ≡ Away)
leave_stands m word lock carry phase e = search (rules, leaves, not_elsewhere, load_is, count_is)
