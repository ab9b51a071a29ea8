-- A client with a call under way goes on with it, or its call has ended: it is never idle behind a turn.
use Rattle.std.proofs.Common.{rules, ◌≡◌, ℕ, Bool, true, false, cond, Option, refl}
use Rattle.sh_alloc.specs.{declared.state.ChunkWant.{ChunkWant}}
use Rattle.sh_image.specs.declared.inner.Image.{Image}
use Rattle.sh_read.specs.{declared.state.Progress.{Progress}}
use Rattle.sh_decide.specs.{declared.state.{Aim.{Aim, TheVariants.{Gathers}}, Decision.{Decision}, Way.{Way}}, Aims.{is_node}}
use Rattle.sh_client.specs.declared.state.{Edge.{Edge}, Filling.{Filling}, Giving.{Giving}, Need.{Need}, Phase.{Phase}}
use Rattle.sh_client.specs.declared.state.{Phase.TheVariants.{Idle, Root, Read, Body}, Then.{Then}}
use Rattle.sh_client.specs.Feeds.{arrived, did, fed_in, held_by, hold_by, read_by, turned, turned_in, went}
use Rattle.sh_client.specs.{Giving.{followed, queue_left, released, writes_nothing, write_begun}, Machine.{Machine, reading, to}}
use Rattle.sh_client.specs.{Ranges.{gathered, passing, rows_taken}, Rests.{has_ended, rests}}
use Rattle.sh_client.specs.Splitting.{all_spent, fill_done, halved, halved_by, needing, root_grown, sought_by, with_fresh}

abbrev pub is_idle : Phase → Bool
is_idle Idle = true
is_idle phase = false

abbrev pub IsBusy : Machine → Type 0
IsBusy m = is_idle m.phase ≡ false

either : (x y : Machine) (b : Bool) → IsBusy x → IsBusy y → IsBusy (cond b x y)
either x y b h e = search rules

halves : (m : Machine) (aim : Aim) (depth fresh : ℕ) (image : Image) → IsBusy (halved m aim depth fresh image)
halves m aim depth fresh image = search rules

halves_by : (m : Machine) (aim : Aim) (depth fresh : ℕ) (image : Option Image) → IsBusy (halved_by m aim depth fresh image)
halves_by m aim depth fresh image = search (rules, halves)

goes_on_fresh : (m : Machine) (fresh : ℕ) (need : Need) → IsBusy (with_fresh m fresh need)
goes_on_fresh m fresh need = search (rules, halves_by)

needs_fresh : (m : Machine) (need : Need) (fresh : Option ℕ) → IsBusy (needing m need fresh)
needs_fresh m need fresh = search (rules, goes_on_fresh)

spends : (m : Machine) (need : Need) → IsBusy (all_spent m need)
spends m need = search rules

seeks : (m : Machine) (need : Need) (w : ChunkWant) → IsBusy (sought_by m need w)
seeks m need w = search (rules, goes_on_fresh, spends)

grows_for : (m : Machine) (aim : Aim) (root : ℕ) → IsBusy (root_grown m aim root)
grows_for m aim root = search (rules, needs_fresh)

fills : (m : Machine) (fresh : ℕ) (filling : Filling) → IsBusy (fill_done m fresh filling)
fills m fresh filling = search rules

passes : (m : Machine) (edge : Edge) → IsBusy (passing m edge)
passes m edge = either (reading m edge.next (Read (Gathers edge.high) false)) (to m (Root (Gathers edge.high))) (is_node m.setting edge.next) refl refl

gathers : (m : Machine) (aim : Aim) (edge : Option Edge) → IsBusy (gathered m aim edge)
gathers m aim edge = search (rules, either, passes)

takes_rows : (m : Machine) (aim : Aim) (image : Image) → IsBusy (rows_taken m aim image)
takes_rows m aim image = search (rules, gathers)

goes : (m : Machine) (aim : Aim) (image : Image) (w : Way) → IsBusy (went m aim image w)
goes m aim image w = search (rules, grows_for, takes_rows)

arrives : (m : Machine) (aim : Aim) (top : Bool) (image : Option Image) → IsBusy (arrived m aim top image)
arrives m aim top image = search (rules, goes)

does : (m : Machine) (aim : Aim) (depth : ℕ) (image : Image) (d : Decision) → IsBusy (did m aim depth image d)
does m aim depth image d = search (rules, needs_fresh)

decides : (m : Machine) (aim : Aim) (depth : ℕ) (image : Option Image) → IsBusy (held_by m aim depth image)
decides m aim depth image = search (rules, does)

reads_on : (m : Machine) (aim : Aim) (top : Bool) (answer : Progress) → IsBusy (read_by m aim top answer)
reads_on m aim top answer = search (rules, arrives)

holds_on : (m : Machine) (aim : Aim) (depth : ℕ) (answer : Progress) → IsBusy (hold_by m aim depth answer)
holds_on m aim depth answer = search (rules, decides)

releases : (m : Machine) (node : ℕ) (carry : Option ℕ) (after : Then) → IsBusy (released m node carry after)
releases m node carry after = search rules

writes : (m : Machine) (carry : Option ℕ) (giving : Giving) → IsBusy (write_begun m carry giving)
writes m carry giving = either (released m giving.node carry giving.after) (to m (Body carry 0 giving)) (writes_nothing giving.write) (releases m giving.node carry giving.after) refl

follows : (m : Machine) (after : Then) → IsBusy (followed m after)
follows m after = search rules

leaves : (m : Machine) (carry : Option ℕ) (after : Then) → IsBusy (queue_left m carry after)
leaves m carry after = search (rules, follows)

pub fed_busy : (m : Machine) (word : ℕ) (phase : Phase) → is_idle m.phase ≡ false → is_idle phase ≡ false → IsBusy (fed_in m word phase)
fed_busy m word phase b h = search (rules, either, reads_on, holds_on, seeks, fills, writes, releases, leaves)

turned_is : (m : Machine) (aim : Aim) (node : ℕ) (depth : Option ℕ) → IsBusy (turned m aim node depth)
turned_is m aim node depth = search rules

pub turned_busy : (m : Machine) (depth : Option ℕ) (phase : Phase) → is_idle m.phase ≡ false → IsBusy (turned_in m depth phase)
turned_busy m depth phase b = search (rules, turned_is)

pub rests_not : (ph : Phase) → rests ph ≡ false → is_idle ph ≡ false
rests_not ph e = search rules

pub busy_still : (ph : Phase) → is_idle ph ≡ false → has_ended ph ≡ false → rests ph ≡ false
busy_still ph b e = search rules
