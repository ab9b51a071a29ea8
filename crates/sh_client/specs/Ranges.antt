-- What a range makes of a leaf: it takes the leaf's rows, and ends or goes on to the right.
use Rattle.std.specs.Prelude.{ℕ, ◌-◌, ◌==◌, ◌||◌, not, if◌then◌else◌, nat_lt, Bool, false, List, ◌++◌, length, Option, Some, None}
use Rattle.sh_base.specs.declared.config.ConfigParts.{ConfigParts}
use Rattle.sh_map.specs.declared.{book.Row.{Row}, call.Call.{Call}}
use Rattle.sh_map.specs.declared.call.Reply.TheVariants as reply
use Rattle.sh_image.specs.declared.inner.Image.{Image, TheVariants.{Leaf as LeafImage, Inner as InnerImage}}
use Rattle.sh_edit.specs.Ranging.{end_in, taken, upto_of}
use Rattle.sh_decide.specs.{declared.state.Aim.{Aim, TheVariants.{Own, Gathers, Posts}}, Aims.{end_of, is_node}}
use Rattle.sh_client.specs.{declared.state.{Edge.{Edge}, Phase.TheVariants.{Root, Read, Ended}}, Machine.{Machine, to, answering, reading}}

-- the rows with those of a leaf from a place on, as many as there is room for
abbrev pub rows_with : ConfigParts → Call → (place : ℕ) → Image → List Row → List Row
rows_with p call place (LeafImage a) rows = rows ++ taken a.entries (end_in a.high (end_of call)) (p.rows - length rows) place
rows_with p call place (InnerImage a) rows = rows

abbrev pub gathering : Machine → (place : ℕ) → Image → Machine
gathering m place image = record m { registers = record m.registers { rows = rows_with m.setting m.registers.call place image m.registers.rows } }

-- where a leaf ends
abbrev pub edge_of : Image → Option Edge
edge_of (LeafImage a) = Some (record { high = a.high; next = a.next })
edge_of (InnerImage a) = None

-- the buffer is full, or the leaf reaches to the range's end
abbrev pub is_whole : (room high leaf_high : ℕ) → List Row → Bool
is_whole room high leaf_high rows = (length rows == room) || not (nat_lt leaf_high high)

abbrev pub range_ended : Machine → Machine
range_ended m = to (answering m (reply.Rows (upto_of m.setting.rows (end_of m.registers.call) m.registers.rows))) Ended

-- the range goes on in the leaf to the right, from where this one ends; a number that names no node leads to the root word
abbrev pub passing : Machine → Edge → Machine
passing m edge = if is_node m.setting edge.next then reading m edge.next (Read (Gathers edge.high) false) else to m (Root (Gathers edge.high))

-- behind a leaf's rows; an inner node has none, and leads to the root word
abbrev pub gathered : Machine → Aim → Option Edge → Machine
gathered m aim (Some edge) = if is_whole m.setting.rows (end_of m.registers.call) edge.high m.registers.rows then range_ended m else passing m edge
gathered m aim None = to m (Root aim)

-- a range takes a leaf's rows; another aim leads to the root word
abbrev pub rows_taken : Machine → Aim → Image → Machine
rows_taken m (Gathers place) image = gathered (gathering m place image) (Gathers place) (edge_of image)
rows_taken m Own image = to m (Root Own)
rows_taken m (Posts post) image = to m (Root (Posts post))
