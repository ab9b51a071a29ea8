-- The client as a machine: what it keeps, and how a part of it changes.
use Rattle.std.specs.Prelude.{ℕ, ◌+◌, ◌-◌, ◌^◌, ◌==◌, if◌then◌else◌, List, [], Option, None}
use Rattle.sh_base.specs.declared.config.ConfigParts.{ConfigParts}
use Rattle.sh_map.specs.declared.{call.{Call.{Call, TheVariants.{Get}}, Reply.{Reply}}, book.Row.{Row}}
use Rattle.sh_image.specs.Inner.{Inner}
use Rattle.sh_alloc.specs.{declared.state.{NodeRange.{NodeRange}, Walk.{Walk}}, Spares.{no_nodes}, Walks.{walk_start}}
use Rattle.sh_read.specs.Reads.{Reads, reads_start}
use Rattle.sh_map.specs.declared.call.Reply.TheVariants as reply
use Rattle.sh_client.specs.declared.state.{Phase.{Phase, TheVariants.{Idle}}, Tally.{Tally}}

-- What a client keeps from turn to turn beside what it is at: its spare nodes; its tally; the call under way and what it
-- answers, once that's decided; the READ and the walk over the counters that are under way; the words that are to be stored
-- before a lock is given back, and those of the fresh node, which is a right half or a new root; the rows of the last range;
-- the inner nodes that it has cached, the oldest first; and the low fence of the cached one at whose child the call began,
-- until the first image is there.
pub record Registers : Type 0 where
  pub spare : NodeRange
  pub tally : Tally
  pub call : Call
  pub reply : Reply
  pub reads : Reads
  pub walk : Walk
  pub body : List ℕ
  pub fresh_words : List ℕ
  pub rows : List Row
  pub cached : List Inner
  pub origin : Option ℕ

-- its setting and seat, which stay; its registers; and what it is at
pub record Machine : Type 0 where
  pub setting : ConfigParts
  pub seat : ℕ
  pub registers : Registers
  pub phase : Phase

-- the same machine in another phase
abbrev pub to : Machine → Phase → Machine
to m phase = record m { phase = phase }

-- a READ of a node begins
abbrev pub reading : Machine → (node : ℕ) → Phase → Machine
reading m node phase = record m { registers = record m.registers { reads = reads_start node }; phase = phase }

-- with another reply decided
abbrev pub answering : Machine → Reply → Machine
answering m reply = record m { registers = record m.registers { reply = reply } }

-- with other words to be stored before the lock is given back
abbrev pub storing : Machine → List ℕ → Machine
storing m words = record m { registers = record m.registers { body = words } }

-- with other spare nodes
abbrev pub sparing : Machine → NodeRange → Machine
sparing m nodes = record m { registers = record m.registers { spare = nodes } }

-- a counter stays at its last value
abbrev pub up : ℕ → ℕ
up n = if n == 2 ^ 64 - 1 then n else n + 1

-- with another tally
abbrev pub tallying : Machine → Tally → Machine
tallying m tally = record m { registers = record m.registers { tally = tally } }

-- the counters, each raised by one
abbrev pub again : Machine → Machine
again m = tallying m (record m.registers.tally { again = up m.registers.tally.again })

abbrev pub right_hop : Machine → Machine
right_hop m = tallying m (record m.registers.tally { rights = up m.registers.tally.rights })

abbrev pub split_done : Machine → Machine
split_done m = tallying m (record m.registers.tally { splits = up m.registers.tally.splits })

abbrev pub handed_over : Machine → Machine
handed_over m = tallying m (record m.registers.tally { handed = up m.registers.tally.handed })

abbrev pub skipped_spent : Machine → Machine
skipped_spent m = tallying m (record m.registers.tally { skipped_spent = up m.registers.tally.skipped_spent })

abbrev pub skipped_worn : Machine → Machine
skipped_worn m = tallying m (record m.registers.tally { skipped_worn = up m.registers.tally.skipped_worn })

abbrev pub began_cached : Machine → Machine
began_cached m = tallying m (record m.registers.tally { from_cache = up m.registers.tally.from_cache })

abbrev pub rewrite_done : Machine → Machine
rewrite_done m = tallying m (record m.registers.tally { rewritten = up m.registers.tally.rewritten })

-- nothing is counted
abbrev pub no_tally : Tally
no_tally = record { again = 0; rights = 0; splits = 0; handed = 0; from_cache = 0; skipped_spent = 0; skipped_worn = 0; rewritten = 0 }

-- a client of a seat: it is idle, and has no spare node, no rows and no cached node
abbrev pub fresh_registers : ConfigParts → (seat : ℕ) → Registers
fresh_registers p seat = record { spare = no_nodes; tally = no_tally; call = Get 1; reply = reply.None; reads = reads_start 1; walk = walk_start p seat; body = []; fresh_words = []; rows = []; cached = []; origin = None }

abbrev pub fresh_machine : ConfigParts → (seat : ℕ) → Machine
fresh_machine p seat = record { setting = p; seat = seat; registers = fresh_registers p seat; phase = Idle }
